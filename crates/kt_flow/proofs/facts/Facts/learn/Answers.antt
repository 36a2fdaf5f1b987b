use Rattle.std.proofs.Common.{ap, ◌∙◌, sym}
use Rattle.kt_flow.specs.Facts as spec
use Rattle.kt_flow.specs.Rows.{form_of}
use Rattle.kt_types_tree.specs.Types.{type_form}
use Rattle.kt_flow.proofs.Rows.{learning}
use Rattle.kt_flow.proofs.facts.Facts.learn.Goals as goal

pub returns-in_ok-row-clause-learnt : goal.returns-in_ok-row-clause-learnt
returns-in_ok-row-clause-learnt c =
    ap form_of c.set.ensures
    ∙ learning _ _ (type_form c.args.t.now) _ c.in_ok-grow.ensures.there
    (ap (λ f. spec.has_type (type_form c.args.t.now) (f.types c.args.local)) c.grow.ensures.same
    ∙ ap (spec.has_type (type_form c.args.t.now)) (sym c.types_of.ensures)
    ∙ sym c.has_type.ensures
    ∙ c.if-has_type.false)
    c.in_ok-row.ensures.types
    c.in_ok-row.ensures.surely
    c.in_ok-row.ensures.maybe
    ∙ ap (spec.learn c.args.local (type_form c.args.t.now)) c.grow.ensures.same
