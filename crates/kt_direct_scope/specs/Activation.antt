-- What a body sees, as the meaning has it.
use Rattle.std.specs.Prelude.{ℕ, Bool, false, List, [], Option, Some, None, map, option_map}
use Rattle.kt_typed.specs.Bodies.{FunForm, fun_form}
use Rattle.kt_typed.specs.Units.{UnitForm, unit_form}
use Rattle.kt_values.specs.Values.{Value}
use Rattle.kt_meaning.specs.Activations.{Activation}
use Rattle.kt_meaning.specs.Units.{blanks_of, calls}
use Rattle.kt_meaning.specs.Variables.{is_shared_in}
use Rattle.kt_direct_values.specs.Forms.{value_form}
use Rattle.kt_direct_scope.specs.declared.here.Here.{Here}

-- a generated function has no body, and so no locals

abbrev pub blanks_in : Option FunForm → List Value
blanks_in None = []
blanks_in (Some f) = blanks_of f

abbrev pub shared_in : Option FunForm → ℕ → Bool
shared_in None n = false
shared_in (Some f) n = is_shared_in f n

-- what a body of a unit sees, where calls go at most so deep
abbrev pub activation : UnitForm → ℕ → Value → ℕ → List Value → Option FunForm → Activation
activation u bound receiver class captures f =
    record {
      unit = u;
      call = calls u bound;
      bound = bound;
      receiver = receiver;
      class = class;
      captures = captures;
      blanks = blanks_in f;
      is_shared = shared_in f;
    }

unfoldable pub here_form : Here → Activation
here_form h =
    activation (unit_form h.unit.now) h.bound (value_form h.receiver) h.class (map value_form h.captures)
    (option_map (λ f. fun_form f.now) h.body)
