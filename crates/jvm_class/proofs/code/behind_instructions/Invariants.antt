use Rattle.std.proofs.Common.{◌≡◌, drop}
use Rattle.jvm_code.specs.Decoding.{rows}
use Rattle.jvm_class_judging.specs.Judging.{judge_rows}
use Rattle.jvm_class.proofs.code.behind_instructions.Given as goal

abbrev pub invariant-loop-item : goal.invariant-loop-item
invariant-loop-item l =
    judge_rows l.pool (rows (drop l.item-index l.code)) l.counter ≡ judge_rows l.pool (rows l.code) l.initial.counter
