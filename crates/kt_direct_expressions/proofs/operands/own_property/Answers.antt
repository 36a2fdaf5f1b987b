use Rattle.std.proofs.Common.{refl, subst}
use Rattle.kt_meaning.specs.Access as access
use Rattle.kt_direct_values.specs.Forms.{store_form}
use Rattle.kt_direct_scope.specs.Activation.{here_form}
use Rattle.kt_direct_frames.specs.Frames.{Leads}
use Rattle.kt_direct_expressions.proofs.operands.own_property.Goals as goal

pub returns-in-Ok : goal.returns-in-Ok
unfolding here_form
returns-in-Ok c =
    let here = here_form c.args.here.now in
    subst (λ x. Leads here c.property_of.result (store_form c.args.store.now)
    (access.read_property here.unit c.args.p x (store_form c.args.store.now))) c.in-Ok.ensures
    (c.property_of.ensures here refl)
