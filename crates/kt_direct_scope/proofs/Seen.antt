-- What a body sees, where it has one, is as the meaning enters it.
use Rattle.std.proofs.Common.{◌≡◌, ℕ, List, [], Some, None, refl}
use Rattle.kt_typed.specs.Bodies.{FunForm}
use Rattle.kt_typed.specs.Units.{UnitForm}
use Rattle.kt_values.specs.Values as v
use Rattle.kt_values.specs.Values.{Value}
use Rattle.kt_meaning.specs.Units.{within, generated, calls}
use Rattle.kt_direct_scope.specs.Activation.{activation}

pub entered_is : (u : UnitForm) (bound : ℕ) (receiver : Value) (class : ℕ) (captures : List Value) (f : FunForm)
    → activation u bound receiver class captures (Some f)
    ≡ (within u (calls u bound) bound receiver class captures f).here
entered_is u bound receiver class captures f = refl

pub generated_is : (u : UnitForm) (bound : ℕ) → activation u bound v.null 0 [] None ≡ generated u (calls u bound) bound
generated_is u bound = refl
