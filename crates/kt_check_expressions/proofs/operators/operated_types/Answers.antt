use Rattle.std.proofs.Common.{ap, sym, subst, ◌∙◌, map}
use Rattle.kt_types_tree.specs.Hierarchy.{hierarchy_form}
use Rattle.kt_types_tree.specs.Types.{type_form}
use Rattle.kt_check_deciding.specs.Outcomes.{there}
use Rattle.kt_check_names.specs.Answers.{Answers}
use Rattle.kt_check_expressions.specs.Owned.{operated_form, right_form}
use Rattle.kt_check_expressions.proofs.FirstPair.{some_at, none_at}
use Rattle.kt_check_expressions.proofs.operators.operated_types.Goals as goal

pub returns-in-Some : goal.returns-in-Some
returns-in-Some c =
    subst (Answers operated_form c.copies_of.result)
    (sym (ap there
    (c.loop-each.invariant
    ∙ some_at (hierarchy_form c.args.h.now) c.args.operator c.args.lefts.now (map type_form c.args.rights.now)
    c.loop-each.each-index c.each-item.result (right_form (type_form c.each-item.result) c.in-Some.right)
    c.loop-each-test.true c.each-item.is (sym c.in-Some.ensures))))
    c.copies_of.ensures

pub loop-each-preserved : goal.loop-each-preserved
loop-each-preserved c =
    c.loop-each.invariant
    ∙ none_at (hierarchy_form c.args.h.now) c.args.operator c.args.lefts.now (map type_form c.args.rights.now)
    c.loop-each.each-index c.each-item.result c.loop-each-test.true c.each-item.is (sym c.in-None.ensures)
