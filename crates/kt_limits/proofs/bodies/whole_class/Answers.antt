use Rattle.std.proofs.Common.{map, ap, sym, ◌∙◌}
use Rattle.kt_typed.specs.Units.{maybe_fun}
use Rattle.kt_limits.specs.Walking.{constructed, state_of, walk}
use Rattle.kt_limits.proofs.bodies.whole_class.Goals as goal

pub returns-in-Ok : goal.returns-in-Ok
returns-in-Ok c =
    let e =
    c.in-Ok.ensures (state_of (maybe_fun c.args.bodies.now.constructor)) (map maybe_fun c.args.bodies.now.functions)
    c.args.class.now.members c.constructor_beginning.ensures in
    (rw c.as_slice.ensures at c.member_statements.ensures e.0 e.1)
    ∙ (sym e.2
    ∙ ap (λ xs. walk c.args.count (constructed (map maybe_fun c.args.bodies.now.functions) (maybe_fun c.args.bodies.now.constructor)
    (state_of (maybe_fun c.args.bodies.now.constructor)) xs c.args.class.now.members c.args.class.now.superclass)) c.constructor_statements.ensures)
