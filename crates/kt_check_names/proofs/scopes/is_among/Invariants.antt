use Rattle.std.proofs.Common.{◌≡◌, drop, false}
use Rattle.kt_check_names.specs.Lookups.{is_among}
use Rattle.kt_check_names.proofs.scopes.is_among.Given as goal

abbrev pub invariant-loop-each : goal.invariant-loop-each
invariant-loop-each l = is_among l.names l.name false ≡ is_among (drop l.each-index l.names) l.name l.found
