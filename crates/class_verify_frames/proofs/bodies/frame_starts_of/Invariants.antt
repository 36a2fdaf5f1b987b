use Rattle.std.proofs.Common.{◌≡◌, take, map}
use Rattle.class_verify_frames.proofs.bodies.frame_starts_of.Given as goal

abbrev pub invariant-loop-frame : goal.invariant-loop-frame
invariant-loop-frame l = l.starts.items ≡ map (λ f. f.offset) (take l.frame-index l.code.frames)
