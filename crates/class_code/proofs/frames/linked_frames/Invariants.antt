use Rattle.std.proofs.Common.{◌≡◌, map, take}
use Rattle.class_code.specs.Code.{linked_frame}
use Rattle.class_code.proofs.frames.linked_frames.Given as goal

abbrev pub invariant-loop-frame : goal.invariant-loop-frame
invariant-loop-frame l = l.made ≡ map (linked_frame l.headers) (take l.frame-index l.frames)
