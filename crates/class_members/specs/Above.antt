-- The classes above a class, by their numbers.
use Rattle.std.specs.Prelude.{◌≡◌, ℕ, zero, suc, List, [], ◌∷◌, ◌++◌, length, map, Option, Some, None, flat_map, slice_get}
use Rattle.class_headers.specs.declared.headers.Header.{Header}
use Rattle.class_headers.specs.Places.{number_of}
use Rattle.class_supers.specs.Graph.{AreAllSupers}
use Rattle.class_members.specs.declared.hierarchy.Hierarchy.{Hierarchy}

abbrev pub then_number : List Header → Option (List ℕ) → Option ℕ
then_number hs None = None
then_number hs (Some name) = number_of hs name

-- the class directly above, where it is there
abbrev pub parent_of : List Header → Header → Option ℕ
parent_of hs h = then_number hs h.above

abbrev pub list_of : {A : Type 0} → Option A → List A
list_of None = []
list_of (Some a) = a ∷ []

abbrev pub number_in : List Header → List ℕ → List ℕ
number_in hs name = list_of (number_of hs name)

-- the classes and interfaces directly above that are there
abbrev pub links_of : List Header → Header → List ℕ
links_of hs h = list_of (parent_of hs h) ++ flat_map (number_in hs) h.interfaces

abbrev pub join : {A : Type 0} → Option (Option A) → Option A
join None = None
join (Some o) = o

abbrev pub parent_at : List (Option ℕ) → Option ℕ → Option ℕ
parent_at parents None = None
parent_at parents (Some c) = join (slice_get parents c)

-- the class that is so many steps above another
unfoldable pub climbed : List (Option ℕ) → ℕ → ℕ → Option ℕ
climbed parents zero c = Some c
climbed parents (suc n) c = parent_at parents (climbed parents n c)

-- those that are fewer steps above
unfoldable pub chain_below : List (Option ℕ) → ℕ → ℕ → List ℕ
chain_below parents zero c = []
chain_below parents (suc n) c = chain_below parents n c ++ list_of (climbed parents n c)

-- a class, the one above it, and so on: where none is above itself, there are no more than there are classes
abbrev pub chain_of : List (Option ℕ) → ℕ → List ℕ
chain_of parents c = chain_below parents (length parents) c

pub record AreChains (parents : List (Option ℕ)) (chains : List (List ℕ)) : Type 0 where
  pub long : length chains ≡ length parents
  pub each : (c : ℕ) (chain : List ℕ) → slice_get chains c ≡ Some chain → chain ≡ chain_of parents c

-- the hierarchy of these classes
pub record IsHierarchy (hs : List Header) (h : Hierarchy) : Type 0 where
  pub headers : h.headers ≡ hs
  pub parents : h.parents ≡ map (parent_of hs) hs
  pub links : h.links ≡ map (links_of hs) hs
  pub chains : AreChains (map (parent_of hs) hs) h.chains
  pub supers : AreAllSupers (map (links_of hs) hs) h.supers
