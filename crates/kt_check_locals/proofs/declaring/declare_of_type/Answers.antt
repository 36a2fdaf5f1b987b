use Rattle.std.proofs.Common.{ap, sym, ◌∙◌, length, map}
use Rattle.kt_types_tree.specs.Types.{type_form}
use Rattle.kt_typed.specs.Bodies.{declare, expression_form, some_expression}
use Rattle.kt_typed.specs.Operators.{local_form}
use Rattle.kt_check_names.specs.Views.{scope_of}
use Rattle.kt_check_rules.specs.States.{assigned, declaring}
use Rattle.kt_check_places.specs.Places.{state_in}
use Rattle.kt_check_locals.proofs.Declarations.{same_reading}
use Rattle.kt_check_locals.proofs.declaring.declare_of_type.Goals as goal

pub returns-in_ok-declaration-in-Ok : goal.returns-in_ok-declaration-in-Ok
returns-in_ok-declaration-in-Ok c =
    same_reading _ _ _ _
    (ap (λ n. declare c.args.at n (some_expression (expression_form c.args.value))) (sym c.in-Ok.ensures.number)
    ∙ sym c.in_ok-declaration-in-Ok.ensures)
    (ap (λ k. assigned (length (map local_form c.args.known.now.locals)) (declaring c.args.name.now k
    (type_form c.args.t) (state_in c.args.p.now c.args.names.now c.args.known.now))) (sym c.local_kind.ensures)
    ∙ sym (c.in-Ok.ensures.state (scope_of c.args.p.now.frames.now) c.args.p.now.outside))
