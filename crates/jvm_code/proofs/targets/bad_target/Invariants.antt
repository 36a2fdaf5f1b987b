use Rattle.std.proofs.Common.{◌≡◌, drop}
use Rattle.jvm_code.specs.Decoding.{rows, starts_of, first_bad}
use Rattle.jvm_code.proofs.targets.bad_target.Given as goal

abbrev pub invariant-loop-item : goal.invariant-loop-item
invariant-loop-item l = first_bad (starts_of (rows l.code)) (rows (drop l.item-index l.code)) ≡ first_bad (starts_of (rows l.code)) (rows l.code)
