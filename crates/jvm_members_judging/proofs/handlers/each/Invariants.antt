use Rattle.std.proofs.Common.{◌≡◌, drop, map}
use Rattle.jvm_class_types.specs.Seen.{handler_seen}
use Rattle.jvm_class_tally.specs.Tallies.{judge_each}
use Rattle.jvm_class_judging.specs.Judging.{judge_handler}
use Rattle.jvm_members_judging.proofs.handlers.each.Given as goal

abbrev pub invariant-loop-one : goal.invariant-loop-one
invariant-loop-one l =
    judge_each (judge_handler l.pool) (map handler_seen (drop l.one-index l.handlers)) l.tally
    ≡ judge_each (judge_handler l.pool) (map handler_seen l.handlers) l.initial.tally
