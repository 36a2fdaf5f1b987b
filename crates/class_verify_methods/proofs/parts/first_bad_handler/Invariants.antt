use Rattle.std.proofs.Common.{◌≡◌, ℕ}
use Rattle.class_verify_frames.specs.Views.{body}
use Rattle.class_verify_methods.specs.Faults.{HandlersAt, Least}
use Rattle.class_verify_methods.proofs.parts.first_bad_handler.Given as goal

abbrev pub invariant-loop-handler : goal.invariant-loop-handler
invariant-loop-handler l = Least (HandlersAt (body l.method) l.handler-index) l.least
