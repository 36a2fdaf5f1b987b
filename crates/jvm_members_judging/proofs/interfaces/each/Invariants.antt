use Rattle.std.proofs.Common.{◌≡◌, drop}
use Rattle.jvm_class_tally.specs.Tallies.{judge_each}
use Rattle.jvm_class_judging.specs.Judging.{judge_class_name}
use Rattle.jvm_members_judging.proofs.interfaces.each.Given as goal

abbrev pub invariant-loop-name : goal.invariant-loop-name
invariant-loop-name l =
    judge_each (judge_class_name l.pool) (drop l.name-index l.names) l.tally
    ≡ judge_each (judge_class_name l.pool) l.names l.initial.tally
