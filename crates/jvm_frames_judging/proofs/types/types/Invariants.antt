use Rattle.std.proofs.Common.{◌≡◌, drop}
use Rattle.jvm_class_judging.specs.Judging.{judge_types}
use Rattle.jvm_frames_judging.proofs.types.types.Given as goal

abbrev pub invariant-loop-one : goal.invariant-loop-one
invariant-loop-one l = judge_types l.pool (drop l.one-index l.types) l.tally ≡ judge_types l.pool l.types l.initial.tally
