use Rattle.std.specs.Prelude.{◌≡◌, map, drop}
use Rattle.kt_typed.specs.Bodies.{statement_form, statements_of}
use Rattle.kt_typed.specs.Units.{class_bodies}
use Rattle.kt_limits.specs.Walking.{State, kept, walk, members_behind}
use Rattle.kt_limits.proofs.bodies.member_statements.Given as goal

abbrev pub invariant-loop-member : goal.invariant-loop-member
invariant-loop-member l =
    (s : State)
    → l.start.so_far ≡ kept s
    → (z : State)
    × (l.so_far ≡ kept z)
    × (walk l.count (members_behind (class_bodies l.bodies).functions (class_bodies l.bodies).constructor z
    (statements_of (map statement_form l.rest)) (drop l.member-index l.members))
    ≡ walk l.start.count (members_behind (class_bodies l.bodies).functions (class_bodies l.bodies).constructor s
    (statements_of (map statement_form l.start.rest.now)) l.members))
