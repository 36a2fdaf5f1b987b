use Rattle.std.specs.Prelude.{◌≡◌, ◌++◌, drop}
use Rattle.kt_decls_inherited.proofs.erasing.copy_of.Given as goal

abbrev pub invariant-loop-each : goal.invariant-loop-each
invariant-loop-each l = l.parameters ++ drop l.each-index l.each-items ≡ l.each-items
