use Rattle.std.specs.Prelude.{◌≡◌, drop}
use Rattle.kt_typed.specs.Units.{unit_form}
use Rattle.kt_limits.specs.Walking.{walk_statements}
use Rattle.kt_limits.proofs.bodies.all_statements.Given as goal

abbrev pub invariant-loop-declaration : goal.invariant-loop-declaration
invariant-loop-declaration l =
    walk_statements (unit_form l.unit) l.count (drop l.declaration-index (unit_form l.unit).headers.order)
    ≡ walk_statements (unit_form l.unit) l.start (unit_form l.unit).headers.order
