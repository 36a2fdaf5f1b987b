use Rattle.std.specs.Prelude.{List, map}
use Rattle.std.proofs.Common.{arith}
use Rattle.kt_decls_inherited.specs.Sights.{sight_form}
use Rattle.kt_types_tree.specs.Hierarchy.{hierarchy_form}
use Rattle.kt_decls_meeting.specs.Agreeing.{AgreesWithSeen}
use Rattle.kt_decls_inherited.specs.declared.sights.Sight.{Sight}
use Rattle.kt_decls_bounds.proofs.Deciding.{next, stops, goes, ends}
use Rattle.kt_decls_meeting.proofs.agreeing.agrees_with_all.Goals as goal

pub returns-then-not-fine : goal.returns-then-not-fine
returns-then-not-fine c = stops c.agree-fine.result (next (λ (xs : List Sight). AgreesWithSeen (hierarchy_form c.args.h.now) (sight_form c.args.one.now) (map sight_form xs)) c.args.others.now c.loop-each.each-index c.each-item.result (omega arith) c.each-item.is c.loop-each.invariant) c.agree-fine.ensures c.if-not-fine.true

pub loop-each-preserved : goal.loop-each-preserved
loop-each-preserved c = goes c.agree-fine.result (next (λ (xs : List Sight). AgreesWithSeen (hierarchy_form c.args.h.now) (sight_form c.args.one.now) (map sight_form xs)) c.args.others.now c.loop-each.each-index c.each-item.result (omega arith) c.each-item.is c.loop-each.invariant) c.agree-fine.ensures c.if-not-fine.false

pub returns : goal.returns
returns c = ends (λ (xs : List Sight). AgreesWithSeen (hierarchy_form c.args.h.now) (sight_form c.args.one.now) (map sight_form xs)) c.args.others.now c.loop-each.each-index (omega arith) tt c.loop-each.invariant
