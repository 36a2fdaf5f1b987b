use Rattle.std.proofs.Common.{◌≡◌, ℕ, ◌<◌}
use Rattle.std.specs.Prelude.{IsTrue, ◌↔◌}
use Rattle.class_verify_frames.specs.Views.{body}
use Rattle.class_verify_rules.specs.Turns.{IsFixed, makes, resumes}
use Rattle.class_verify_turns.specs.Timing.{IsSeen, TimedAt}
use Rattle.class_verify_turns.proofs.timing.first_untimed.Given as goal

abbrev pub invariant-loop-place : goal.invariant-loop-place
invariant-loop-place l = record {
  fixed : IsTrue l.before.fixed ↔ IsFixed (body l.method);
  made : IsSeen (body l.method) (makes (body l.method)) l.place l.before.made;
  resumed : IsSeen (body l.method) (resumes (body l.method)) l.place l.before.resumed;
  so_far : (k : ℕ) → k < l.place → TimedAt (body l.method) k;
}
