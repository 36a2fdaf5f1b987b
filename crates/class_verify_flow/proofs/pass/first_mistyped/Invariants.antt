use Rattle.std.proofs.Common.{◌≡◌, ℕ, ◌<◌}
use Rattle.std.specs.Prelude.{option_map}
use Rattle.class_verify_frames.specs.Views.{body, frame}
use Rattle.class_verify_rules.specs.Frames.{before}
use Rattle.class_verify_flow.specs.Checks.{TypedAt}
use Rattle.class_verify_flow.proofs.pass.first_mistyped.Given as goal

abbrev pub invariant-loop-place : goal.invariant-loop-place
invariant-loop-place l = record {
  here : option_map frame l.before ≡ before (body l.method) l.place;
  so_far : (k : ℕ) → k < l.place → TypedAt (body l.method) k;
}
