use Rattle.std.specs.Prelude.{List, IsTrue, ◌↔◌, map}
use Rattle.std.proofs.Common.{arith}
use Rattle.kt_decls_inherited.specs.Sights.{sight_form}
use Rattle.kt_types_tree.specs.Hierarchy.{hierarchy_form}
use Rattle.kt_decls_meeting.specs.Agreeing.{AgreesWithSeen, DoSeenAgree}
use Rattle.kt_decls_inherited.specs.declared.sights.Sight.{Sight}
use Rattle.kt_decls_meeting.proofs.AgreeingSo.{rest_of}
use Rattle.kt_decls_bounds.proofs.Deciding.{next, stops, goes, ends}
use Rattle.kt_decls_meeting.proofs.agreeing.do_agree.Goals as goal

pub returns-then-not-fine : goal.returns-then-not-fine
returns-then-not-fine c = stops c.agrees_with_all-fine.result (next (λ (xs : List Sight). DoSeenAgree (hierarchy_form c.args.h.now) (map sight_form xs)) c.args.all.now c.loop-each.each-index c.each-item.result (omega arith) c.each-item.is c.loop-each.invariant.1) (rest_of (λ (xs : List Sight). IsTrue c.agrees_with_all-fine.result ↔ AgreesWithSeen (hierarchy_form c.args.h.now) (sight_form c.each-item.result) (map sight_form xs)) c.args.all.now c.loop-each.each-index _ (omega arith) c.agrees_with_all-fine.ensures) c.if-not-fine.true

pub loop-each-preserved : goal.loop-each-preserved
loop-each-preserved c = (omega arith, goes c.agrees_with_all-fine.result (next (λ (xs : List Sight). DoSeenAgree (hierarchy_form c.args.h.now) (map sight_form xs)) c.args.all.now c.loop-each.each-index c.each-item.result (omega arith) c.each-item.is c.loop-each.invariant.1) (rest_of (λ (xs : List Sight). IsTrue c.agrees_with_all-fine.result ↔ AgreesWithSeen (hierarchy_form c.args.h.now) (sight_form c.each-item.result) (map sight_form xs)) c.args.all.now c.loop-each.each-index _ (omega arith) c.agrees_with_all-fine.ensures) c.if-not-fine.false)

pub returns : goal.returns
returns c = ends (λ (xs : List Sight). DoSeenAgree (hierarchy_form c.args.h.now) (map sight_form xs)) c.args.all.now c.loop-each.each-index (omega arith) tt c.loop-each.invariant.1
