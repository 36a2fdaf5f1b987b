use Rattle.std.specs.Prelude.{◌≡◌, ◌↔◌, map, drop}
use Rattle.kt_decls_inherited.specs.Sights.{sight_form}
use Rattle.kt_types_tree.specs.Hierarchy.{hierarchy_form}
use Rattle.kt_decls_meeting.specs.Agreeing.{DoSeenAgree}
use Rattle.kt_decls_meeting.proofs.agreeing.do_agree.Given as goal

abbrev pub invariant-loop-each : goal.invariant-loop-each
invariant-loop-each l =
    (l.behind ≡ l.each-index) × (DoSeenAgree (hierarchy_form l.h) (map sight_form l.all) ↔ DoSeenAgree (hierarchy_form l.h) (map sight_form (drop l.each-index l.all)))
