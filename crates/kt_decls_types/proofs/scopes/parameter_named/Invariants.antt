use Rattle.std.specs.Prelude.{◌≡◌, drop}
use Rattle.kt_decls_types.specs.Scopes.{parameter_from}
use Rattle.kt_decls_types.proofs.scopes.parameter_named.Given as goal

abbrev pub invariant-loop-each : goal.invariant-loop-each
invariant-loop-each l = (l.place ≡ l.each-index) × (parameter_from 0 l.parameters l.name ≡ parameter_from l.place (drop l.each-index l.parameters) l.name)
