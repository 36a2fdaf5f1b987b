use Rattle.std.proofs.Common.{refl, ap, ◌∙◌}
use Rattle.kt_flow.specs.Facts as spec
use Rattle.kt_flow.specs.Rows.{form_of}
use Rattle.kt_flow.proofs.Rows.{assigning}
use Rattle.kt_flow.proofs.facts.Facts.assign.Goals as goal

pub returns-clause-assigned : goal.returns-clause-assigned
returns-clause-assigned c =
    ap form_of c.set.ensures ∙ assigning _ _ _ c.in_ok-grow.ensures.there c.new.ensures refl refl
    ∙ ap (spec.assign c.args.local) c.grow.ensures.same
