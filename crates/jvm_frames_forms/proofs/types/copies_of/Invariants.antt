use Rattle.std.proofs.Common.{◌≡◌, take}
use Rattle.jvm_frames_forms.proofs.types.copies_of.Given as goal

abbrev pub invariant-loop-frame_type : goal.invariant-loop-frame_type
invariant-loop-frame_type l = l.copies.items ≡ take l.frame_type-index l.types
