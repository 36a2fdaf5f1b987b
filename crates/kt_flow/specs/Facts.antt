-- What is known of the locals of a body at a place of it: by their numbers, the types that tests on the way gave, and
-- which locals are assigned.
use Rattle.std.specs.Prelude.{ℕ, Bool, true, false, List, [], ◌∷◌, ◌++◌, ◌==◌, ◌&&◌, ◌||◌, filter, if◌then◌else◌}
use Rattle.std.specs.List.{list_any}
use Rattle.kt_types_tree.specs.Types.{TypeForm}
use Rattle.kt_flow.specs.Sameness.{same_type}

pub record FactsForm : Type 0 where
  -- in the order in which they were learnt
  pub types : ℕ → List TypeForm
  -- on each path to the place
  pub surely_assigned : ℕ → Bool
  -- on some path to the place
  pub maybe_assigned : ℕ → Bool

abbrev pub no_facts : FactsForm
no_facts = record { types = λ x. []; surely_assigned = λ x. false; maybe_assigned = λ x. false }

-- the same but for one local
abbrev pub but_at : {A : Type 0} → ℕ → A → (ℕ → A) → ℕ → A
but_at x a f y = if y == x then a else f y

abbrev pub has_type : TypeForm → List TypeForm → Bool
has_type t ts = list_any (same_type t) ts

-- last, where it isn't there yet
abbrev pub with_type : TypeForm → List TypeForm → List TypeForm
with_type t ts = if has_type t ts then ts else ts ++ t ∷ []

-- behind a test that gives a type
abbrev pub learn : ℕ → TypeForm → FactsForm → FactsForm
learn x t f =
    record {
      types = but_at x (with_type t (f.types x)) f.types;
      surely_assigned = f.surely_assigned;
      maybe_assigned = f.maybe_assigned;
    }

-- behind an assignment; what was known of the old value is forgotten
abbrev pub assign : ℕ → FactsForm → FactsForm
assign x f =
    record {
      types = but_at x [] f.types;
      surely_assigned = but_at x true f.surely_assigned;
      maybe_assigned = but_at x true f.maybe_assigned;
    }

-- where two paths join, the first of which stands first in the text: what both have, in the order of the first
abbrev pub meet : FactsForm → FactsForm → FactsForm
meet f g =
    record {
      types = λ x. filter (λ t. has_type t (g.types x)) (f.types x);
      surely_assigned = λ x. f.surely_assigned x && g.surely_assigned x;
      maybe_assigned = λ x. f.maybe_assigned x || g.maybe_assigned x;
    }

-- where further paths join, in the order of the text
abbrev pub meet_all : FactsForm → List FactsForm → FactsForm
meet_all f [] = f
meet_all f (g ∷ gs) = meet_all (meet f g) gs

-- what counts as a type of a local: the declared one, then its facts in the order learnt
abbrev pub types_of : TypeForm → FactsForm → ℕ → List TypeForm
types_of declared f x = declared ∷ f.types x
