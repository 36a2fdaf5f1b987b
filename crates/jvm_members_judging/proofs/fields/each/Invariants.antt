use Rattle.std.proofs.Common.{◌≡◌, drop, map}
use Rattle.jvm_class_types.specs.Seen.{field_seen}
use Rattle.jvm_class_tally.specs.Tallies.{judge_each}
use Rattle.jvm_class_judging.specs.Judging.{judge_field}
use Rattle.jvm_members_judging.proofs.fields.each.Given as goal

abbrev pub invariant-loop-one : goal.invariant-loop-one
invariant-loop-one l =
    judge_each (judge_field l.pool) (map field_seen (drop l.one-index l.fields)) l.tally
    ≡ judge_each (judge_field l.pool) (map field_seen l.fields) l.initial.tally
