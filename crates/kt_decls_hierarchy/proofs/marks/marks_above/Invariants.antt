use Rattle.kt_types_cycles.specs.Settled.{open_count}
use Rattle.kt_decls_hierarchy.specs.Marking.{IsMarking}
use Rattle.kt_decls_hierarchy.proofs.marks.marks_above.Given as goal

abbrev pub invariant-rounds : goal.invariant-rounds
invariant-rounds l = IsMarking l.graph l.own l.marks.items

abbrev pub decreases-rounds : goal.decreases-rounds
decreases-rounds l = open_count l.marks.items
