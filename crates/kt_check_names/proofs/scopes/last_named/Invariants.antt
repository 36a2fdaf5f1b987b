use Rattle.std.proofs.Common.{◌≡◌, drop}
use Rattle.kt_check_names.specs.Lookups.{last_named}
use Rattle.kt_check_names.proofs.scopes.last_named.Given as goal

abbrev pub invariant-loop-each : goal.invariant-loop-each
invariant-loop-each l = last_named l.names l.name l.fn.before ≡ last_named (drop l.each-index l.names) l.name l.found
