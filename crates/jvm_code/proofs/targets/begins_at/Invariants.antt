use Rattle.std.proofs.Common.{◌-◌}
use Rattle.jvm_code.specs.Decoding.{rows, starts_of}
use Rattle.jvm_code.proofs.Starts.{Outside}
use Rattle.jvm_code.proofs.targets.begins_at.Given as goal

abbrev pub invariant-loop-low : goal.invariant-loop-low
invariant-loop-low l = Outside (starts_of (rows l.code)) l.target l.low l.high

abbrev pub decreases-loop-low : goal.decreases-loop-low
decreases-loop-low l = l.high - l.low
