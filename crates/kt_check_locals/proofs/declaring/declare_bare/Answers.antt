use Rattle.std.proofs.Common.{None, ap, sym, ◌∙◌}
use Rattle.kt_types_tree.specs.Types.{type_form}
use Rattle.kt_typed.specs.Bodies.{declare, no_expression}
use Rattle.kt_typed.specs.Operators.{local_form}
use Rattle.kt_check_names.specs.Views.{scope_of}
use Rattle.kt_check_rules.specs.States.{declaring}
use Rattle.kt_check_places.specs.Places.{state_in}
use Rattle.kt_check_locals.proofs.Declarations.{declared_form, length_map, same_reading}
use Rattle.kt_check_locals.proofs.declaring.declare_bare.Goals as goal

pub returns : goal.returns
returns c =
    same_reading _ _ _ _
    (ap (λ n. declare c.args.at n no_expression)
    (sym (c.in_ok-number.ensures.number ∙ length_map local_form c.args.known.now.locals))
    ∙ sym (declared_form c.args.at c.in_ok-number.number None))
    (ap (λ k. declaring c.args.name.now k (type_form c.args.t)
    (state_in c.args.p.now c.args.names.now c.args.known.now)) (sym c.local_kind.ensures)
    ∙ sym (c.in_ok-number.ensures.state (scope_of c.args.p.now.frames.now) c.args.p.now.outside))
