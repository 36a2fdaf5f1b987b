use Rattle.std.specs.Prelude.{◌≡◌, map, drop}
use Rattle.kt_typed.specs.Bodies.{fun_form, statement_form, statements_of}
use Rattle.kt_limits.specs.Walking.{State, kept, walk, begun, parts_behind}
use Rattle.kt_limits.proofs.bodies.first_statements.Given as goal

abbrev pub invariant-loop-statement : goal.invariant-loop-statement
invariant-loop-statement l =
    (s : State)
    × (l.so_far ≡ kept s)
    × (walk l.count (parts_behind (fun_form l.body) s (statements_of (map statement_form (drop l.statement-index l.statements))))
    ≡ walk l.start (parts_behind (fun_form l.body) (begun (fun_form l.body)) (statements_of (map statement_form l.statements))))
