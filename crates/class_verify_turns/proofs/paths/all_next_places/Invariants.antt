use Rattle.std.proofs.Common.{◌≡◌, ℕ, List, Some, length}
use Rattle.std.specs.Prelude.{slice_get}
use Rattle.class_verify_frames.specs.Views.{body}
use Rattle.class_verify_turns.specs.Timing.{AreNext}
use Rattle.class_verify_turns.proofs.paths.all_next_places.Given as goal

abbrev pub invariant-loop-place : goal.invariant-loop-place
invariant-loop-place l = record {
  long : length l.rows ≡ l.place;
  each : (k : ℕ) (row : List ℕ) → slice_get l.rows k ≡ Some row → AreNext (body l.method) k row;
}
