use Rattle.std.proofs.Common.{drop, map}
use Rattle.std.specs.List.{AllByRecursion}
use Rattle.jvm_class_types.specs.Seen.{method_seen}
use Rattle.jvm_pool_judging.proofs.Both.{Same}
use Rattle.jvm_class_judging.specs.Judging.{LaidMethod}
use Rattle.jvm_class.proofs.layout.are_laid.Given as goal

abbrev pub invariant-loop-method : goal.invariant-loop-method
invariant-loop-method l =
    Same (AllByRecursion LaidMethod (map method_seen l.methods))
    (AllByRecursion LaidMethod (map method_seen (drop l.method-index l.methods)))
