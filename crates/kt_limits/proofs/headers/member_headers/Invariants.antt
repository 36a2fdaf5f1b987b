use Rattle.std.specs.Prelude.{◌≡◌, drop}
use Rattle.std.specs.List.{flat_map}
use Rattle.kt_typed.specs.Headers.{class_form}
use Rattle.kt_limits.specs.Parts.{member_headers}
use Rattle.kt_limits.specs.Walking.{walk}
use Rattle.kt_limits.proofs.headers.member_headers.Given as goal

abbrev pub invariant-loop-member : goal.invariant-loop-member
invariant-loop-member l =
    walk l.count (flat_map (member_headers (class_form l.class)) (drop l.member-index (class_form l.class).members))
    ≡ walk l.start (flat_map (member_headers (class_form l.class)) (class_form l.class).members)
