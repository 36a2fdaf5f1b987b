use Rattle.std.proofs.Common.{map}
use Rattle.kt_typed.specs.Bodies.{statement_form, statements_of}
use Rattle.kt_typed.specs.Units.{maybe_fun}
use Rattle.kt_limits.proofs.Steps.{method_on, method_stops}
use Rattle.kt_limits.proofs.bodies.one_member.Goals as goal

pub returns-in-Ok : goal.returns-in-Ok
returns-in-Ok c = λ s is. (
  s,
  is,
  λ ms. method_on (map maybe_fun c.args.bodies.now.functions) (maybe_fun c.args.bodies.now.constructor) s
      (statements_of (map statement_form c.args.before.rest.now)) c.in-Function.number c.args.member ms c.args.before.count c.in-Ok.count
      c.in-Function.is (rw c.as_slice.ensures at c.in-Ok.ensures),
)

pub returns-in-Err : goal.returns-in-Err
returns-in-Err c = λ s is ms.
    method_stops (map maybe_fun c.args.bodies.now.functions) (maybe_fun c.args.bodies.now.constructor) s
    (statements_of (map statement_form c.args.before.rest.now)) c.in-Function.number c.args.member ms c.args.before.count c.in-Err.place
    c.in-Function.is (rw c.as_slice.ensures at c.in-Err.ensures)
