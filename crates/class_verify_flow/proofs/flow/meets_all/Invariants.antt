use Rattle.std.proofs.Common.{◌≡◌, ℕ, ◌<◌, Some}
use Rattle.std.specs.Prelude.{slice_get}
use Rattle.class_verify_frames.specs.Views.{body, frame}
use Rattle.class_verify_rules.specs.Typing.{Meets}
use Rattle.class_verify_flow.proofs.flow.meets_all.Given as goal

abbrev pub invariant-loop-target : goal.invariant-loop-target
invariant-loop-target l = (k : ℕ) → k < l.target-index → (to : ℕ) → slice_get l.targets k ≡ Some to → Meets (body l.method) to (frame l.held)
