-- What a body sees while it runs.
use Rattle.std.specs.Prelude.{ℕ, Bool, List}
use Rattle.kt_typed.specs.Units.{UnitForm}
use Rattle.kt_values.specs.Values.{Value}
use Rattle.kt_values.specs.Runs.{Run}

-- what is entered by a call, with the object or the captures that it belongs to
pub data Called : Type 0 where
  of_function : ℕ → Called
  -- the row of the class that has the body, the place of the function there, and the object
  of_member : ℕ → ℕ → Value → Called
  -- the row of the class, and the object that is being built
  of_constructor : ℕ → Value → Called
  -- the number of the lambda, and what it captured
  of_lambda : ℕ → List Value → Called
  -- those that a data class has without declaring them
  generated_equals : ℕ → Value → Called
  generated_to_string : ℕ → Value → Called

-- what a call does with its arguments
abbrev pub Callee : Type 0
Callee = Called → List Value → Run Value

pub record Activation : Type 0 where
  pub unit : UnitForm
  -- how further calls run
  pub call : Callee
  -- a bound on the turns of each loop: not fewer than the turns that are left
  pub bound : ℕ
  -- `this`, where there is one
  pub receiver : Value
  -- the row of the class, in a constructor
  pub class : ℕ
  -- what a lambda captured
  pub captures : List Value
  -- what stands in each local until it is assigned
  pub blanks : List Value
  -- which locals are captured as `var`s, so that they are objects
  pub is_shared : ℕ → Bool
