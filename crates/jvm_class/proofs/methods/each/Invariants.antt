use Rattle.std.proofs.Common.{◌≡◌, drop, map}
use Rattle.std.specs.List.{AllByRecursion}
use Rattle.jvm_class_types.specs.Seen.{method_seen}
use Rattle.jvm_class_tally.specs.Tallies.{judge_each}
use Rattle.jvm_class_judging.specs.Judging.{judge_method, LaidMethod}
use Rattle.jvm_class.proofs.methods.each.Given as goal

abbrev pub invariant-loop-one : goal.invariant-loop-one
invariant-loop-one l = record {
  laid : AllByRecursion LaidMethod (map method_seen (drop l.one-index l.methods));
  so_far : judge_each (judge_method l.pool l.class) (map method_seen (drop l.one-index l.methods)) l.tally
      ≡ judge_each (judge_method l.pool l.class) (map method_seen l.methods) l.initial.tally;
}
