-- An end without a value is that of the whole.
use Rattle.std.proofs.Common.{ap}
use Rattle.kt_values.specs.Throwables.{Fault}
use Rattle.kt_values.specs.Runs.{Store, Gives, Run, then_do, throws}
use Rattle.kt_values.specs.Heap.{raise}
use Rattle.kt_direct_values.specs.declared.ends.Abrupt.{Abrupt}
use Rattle.kt_direct_values.specs.declared.ends.Abrupt.TheVariants as ends
use Rattle.kt_direct_values.specs.Agree.{Fails, Raises}

pub passes : {A B : Type 0} (x : Abrupt) (s : Store) (g : Gives A) (go : A → Run B) → Fails x s g
    → Fails x s (then_do g go)
passes ends.NoMemory s g go h = tt
passes (ends.Thrown x) s g go h = ap (λ g. then_do g go) h
passes (ends.Returned x) s g go h = ap (λ g. then_do g go) h
passes ends.Broken s g go h = ap (λ g. then_do g go) h
passes ends.Continued s g go h = ap (λ g. then_do g go) h
passes (ends.Stopped why) s g go h = ap (λ g. then_do g go) h

pub raised : (A : Type 0) (fault : Fault) (x : Abrupt) (s after : Store) → Raises fault x s after
    → Fails {A = A} x after (raise fault s)
raised A fault ends.NoMemory s after h = tt
raised A fault (ends.Thrown x) s after h = ap (λ g. then_do g (λ x. throws x)) h
raised A fault (ends.Returned x) s after h = absurd h
raised A fault ends.Broken s after h = absurd h
raised A fault ends.Continued s after h = absurd h
raised A fault (ends.Stopped why) s after h = absurd h
