-- The limits of the language, on what a header or a direct statement adds to a unit.
use Rattle.std.specs.Prelude.{ℕ, ◌+◌, ◌≤◌, List, [], ◌∷◌, length, map, Bool, true, false, ◌==◌, if◌then◌else◌}
use Rattle.std.specs.List.{AllByRecursion}
use Rattle.kt_base.specs.declared.refusals.Pos.{Pos}
use Rattle.jvm_pool.specs.Modified.{modified}
use Rattle.kt_typed.specs.Operators.{LocalForm}
use Rattle.kt_typed.specs.Bodies.{FunForm, fun}
use Rattle.kt_sizes.specs.Weight.{weight}

-- of a function, a member, a constructor, a lambda
abbrev pub most_weight : ℕ
most_weight = 32000

-- of a class
abbrev pub most_nodes : ℕ
most_nodes = 4000

-- of a function, a member, a constructor, a lambda
abbrev pub most_parameters : ℕ
most_parameters = 100

-- of a lambda, `this` among them
abbrev pub most_captures : ℕ
most_captures = 100

-- of an identifier
abbrev pub most_characters : ℕ
most_characters = 255

-- of a part of a string that is text, in modified UTF-8
abbrev pub most_bytes : ℕ
most_bytes = 65535

abbrev pub AreShort : List (List ℕ) → Type 0
AreShort names = AllByRecursion (λ name. length name ≤ most_characters) names

abbrev pub FitConstants : List (List ℕ) → Type 0
FitConstants texts = AllByRecursion (λ units. length (modified units) ≤ most_bytes) texts

abbrev pub local_names : List LocalForm → List (List ℕ)
local_names locals = map (λ l. l.name) locals

abbrev pub parameters_of : FunForm → ℕ
parameters_of (fun at suspends captures parameters locals t ss) = parameters

abbrev pub captures_of : FunForm → ℕ
captures_of (fun at suspends captures parameters locals t ss) = length captures

abbrev pub locals_of : FunForm → List LocalForm
locals_of (fun at suspends captures parameters locals t ss) = locals

-- A lambda by itself. What it holds is counted with the statement round it.
pub record IsFineLambda (f : FunForm) : Type 0 where
  pub weight : weight f ≤ most_weight
  pub parameters : parameters_of f ≤ most_parameters
  pub captures : captures_of f ≤ most_captures
  pub identifiers : AreShort (local_names (locals_of f))

-- What a header or a direct statement adds to a unit: its place; its nodes; the weight of the body up to and with it;
-- the parameters of the function or the constructor; the identifiers that begin with it; its literal texts; the lambda
-- literals in it. A header has no body, a statement no parameters.
pub record Part : Type 0 where
  pub at : Pos
  pub nodes : ℕ
  pub weight : ℕ
  pub parameters : ℕ
  pub names : List (List ℕ)
  pub texts : List (List ℕ)
  pub lambdas : List FunForm

pub record IsFine (p : Part) : Type 0 where
  pub weight : p.weight ≤ most_weight
  pub parameters : p.parameters ≤ most_parameters
  pub identifiers : AreShort p.names
  pub texts : FitConstants p.texts
  pub lambdas : AllByRecursion IsFineLambda p.lambdas

-- The class of the compiled file to which a part belongs: the one of the functions and constants at top level, or the
-- one that is declared at a place among the declarations.
pub data Owner : Type 0 where
  the_file : Owner
  declared_at : ℕ → Owner

abbrev pub is_owner : Owner → Owner → Bool
is_owner the_file the_file = true
is_owner (declared_at m) (declared_at n) = m == n
is_owner _ _ = false

-- the nodes of a class in a unit of these parts
abbrev pub nodes_of : Owner → List (Owner × Part) → ℕ
nodes_of c [] = 0
nodes_of c ((d, p) ∷ rest) = (if is_owner c d then p.nodes else 0) + nodes_of c rest

-- a unit of these parts is within all limits
pub record AreWithinLimits (parts : List (Owner × Part)) : Type 0 where
  pub each : AllByRecursion (λ x. IsFine x.1) parts
  pub nodes : (c : Owner) → nodes_of c parts ≤ most_nodes
