use Rattle.std.specs.Prelude.{◌↔◌, map, drop}
use Rattle.kt_decls_inherited.specs.Sights.{sight_form}
use Rattle.kt_types_tree.specs.Hierarchy.{hierarchy_form}
use Rattle.kt_decls_meeting.specs.Agreeing.{AgreesWithSeen}
use Rattle.kt_decls_meeting.proofs.agreeing.agrees_with_all.Given as goal

abbrev pub invariant-loop-each : goal.invariant-loop-each
invariant-loop-each l =
    AgreesWithSeen (hierarchy_form l.h) (sight_form l.one) (map sight_form l.others) ↔ AgreesWithSeen (hierarchy_form l.h) (sight_form l.one) (map sight_form (drop l.each-index l.others))
