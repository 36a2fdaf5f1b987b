use Rattle.std.proofs.Common.{◌≡◌, map, drop}
use Rattle.kt_typed.specs.Headers.{constant_form}
use Rattle.kt_check_rules.specs.Names.{constant_named}
use Rattle.kt_check_names.proofs.names.constant_named.Given as goal

abbrev pub invariant-loop-each : goal.invariant-loop-each
invariant-loop-each l =
    (constant_named 0 (map constant_form l.headers.constants) l.name
    ≡ constant_named l.number (map constant_form (drop l.each-index l.headers.constants)) l.name)
    × (l.number ≡ l.each-index)
