use Rattle.std.proofs.Common.{◌≡◌, ℕ, ◌<◌, Some}
use Rattle.std.specs.Prelude.{slice_get}
use Rattle.class_linked.specs.declared.kinds.Kind.{Kind}
use Rattle.class_verify_frames.specs.Views.{body}
use Rattle.class_verify_rules.specs.Verified.{KindStands}
use Rattle.class_verify_methods.proofs.parts.kinds_stand.Given as goal

abbrev pub invariant-loop-kind : goal.invariant-loop-kind
invariant-loop-kind l = (k : ℕ) → k < l.kind-index → (x : Kind) → slice_get l.kinds k ≡ Some x → KindStands (body l.method) x
