use Rattle.std.proofs.Common.{◌≡◌, take, map}
use Rattle.class_verify_frames.proofs.bodies.starts_of.Given as goal

abbrev pub invariant-loop-instruction : goal.invariant-loop-instruction
invariant-loop-instruction l = l.starts.items ≡ map (λ i. i.0) (take l.instruction-index l.code.instructions)
