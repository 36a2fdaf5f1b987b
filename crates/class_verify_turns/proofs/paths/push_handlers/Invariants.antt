use Rattle.std.proofs.Common.{◌≡◌, ℕ}
use Rattle.class_verify_frames.specs.Views.{body}
use Rattle.class_verify_turns.specs.Timing.{Adds, IsHandler}
use Rattle.class_verify_turns.proofs.paths.push_handlers.Given as goal

abbrev pub invariant-loop-handler : goal.invariant-loop-handler
invariant-loop-handler l = Adds (IsHandler (body l.method) l.method.code.now.handlers l.offset l.handler-index) l.fn.row l.row
