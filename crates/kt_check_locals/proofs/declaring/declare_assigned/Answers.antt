use Rattle.std.proofs.Common.{◌∙◌}
use Rattle.kt_typed.specs.Operators.{local_form}
use Rattle.kt_check_locals.proofs.Declarations.{length_map}
use Rattle.kt_check_locals.proofs.Locals.{assigned_later}
use Rattle.kt_check_locals.proofs.declaring.declare_assigned.Goals as goal

pub returns-clause-state : goal.returns-clause-state
returns-clause-state c = λ outer outside.
    assigned_later _ _ outside c.declare.new.known c.assign.new.self _ _ _
    (c.in_ok-number.ensures.state outer outside) c.in_ok-assign.ensures.assigned
    (c.in_ok-number.ensures.number ∙ length_map local_form c.args.known.now.locals)
