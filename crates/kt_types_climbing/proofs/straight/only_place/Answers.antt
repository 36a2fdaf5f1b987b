use Rattle.std.proofs.Common.{map, arith, length, subst, sym}
use Rattle.kt_types_tree.specs.Hierarchy.{hierarchy_form, super_form}
use Rattle.kt_types_climbing.specs.OnlyWays.{LeadsNowhere}
use Rattle.kt_types_climbing.proofs.OnlyWays.{one_more, one_found, found_within, all_known, item_at}
use Rattle.kt_types_climbing.proofs.straight.only_place.Goals.{then-leads_on+in-None, else-leads_on}
use Rattle.kt_types_climbing.proofs.straight.only_place.Goals as goal

pub loop-place-preserved : goal.loop-place-preserved
loop-place-preserved c = elim c.if-leads_on.branch [
  | then-leads_on+in-None w ↦ (
    one_found (hierarchy_form c.args.h.now) (map super_form c.args.supertypes.now) c.loop-place.place c.loop-place.way c.if-leads_on.way' c.args.wanted w.in-None.is w.way'-is c.loop-place.invariant.0,
    found_within (hierarchy_form c.args.h.now) c.if-leads_on.way' c.loop-place.place (length c.args.supertypes.now) w.way'-is c.loop-place-test.true,
  )
  | else-leads_on w ↦ (
    one_more (hierarchy_form c.args.h.now) (map super_form c.args.supertypes.now) c.loop-place.place c.loop-place.way c.if-leads_on.way' c.args.wanted (super_form c.index-supertypes-place.result) (item_at (hierarchy_form c.args.h.now) c.args.supertypes.now c.loop-place.place c.index-supertypes-place.result c.loop-place-test.true c.index-supertypes-place.is) w.way'-is (subst (λ x. LeadsNowhere (hierarchy_form c.args.h.now) x.class c.args.wanted) (sym c.index-supertypes-place.is) (c.leads_on.ensures w.if-leads_on.false)) c.loop-place.invariant.0,
    rw w.way'-is c.loop-place.invariant.1,
  )
]

pub returns-clause-but : goal.returns-clause-but
returns-clause-but c = λ k found. all_known (hierarchy_form c.args.h.now) c.args.supertypes.now c.loop-place.place c.loop-place.way c.args.wanted k (let t = c.loop-place-test.false in omega arith) found c.loop-place.invariant.0
