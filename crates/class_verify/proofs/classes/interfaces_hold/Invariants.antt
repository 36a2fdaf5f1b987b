use Rattle.std.proofs.Common.{◌≡◌, ℕ, ◌<◌, Some}
use Rattle.std.specs.Prelude.{slice_get}
use Rattle.jvm_class_types.specs.declared.flags.ClassFlags.TheVariants as class_flag
use Rattle.class_verify_rules.specs.Kinds.{class_at}
use Rattle.class_verify_rules.specs.Typing.{IsThere}
use Rattle.class_verify.proofs.classes.interfaces_hold.Given as goal

abbrev pub invariant-loop-number : goal.invariant-loop-number
invariant-loop-number l = (k : ℕ) → k < l.number-index → (s : ℕ) → slice_get l.interfaces k ≡ Some s → IsThere (class_at l.program s) (λ i. i.flags ≡ class_flag.Interface)
