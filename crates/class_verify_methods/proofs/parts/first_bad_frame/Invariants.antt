use Rattle.std.proofs.Common.{◌≡◌, ℕ}
use Rattle.class_verify_frames.specs.Views.{body}
use Rattle.class_verify_methods.specs.Faults.{FramesAt, Least}
use Rattle.class_verify_methods.proofs.parts.first_bad_frame.Given as goal

abbrev pub invariant-loop-given : goal.invariant-loop-given
invariant-loop-given l = Least (FramesAt (body l.method) l.given-index) l.least
