use Rattle.std.specs.Prelude.{◌≡◌, ◌+◌, ◌++◌, length, map, drop}
use Rattle.kt_tree.specs.Declarations.{type_parameter_tree}
use Rattle.kt_decls_rules.specs.Tables.{numbered}
use Rattle.kt_decls_table.proofs.type_parameters.numbered.Given as goal

abbrev pub invariant-loop-parameter : goal.invariant-loop-parameter
invariant-loop-parameter l =
    (l.next ≡ l.row + l.parameter-index) × (length l.declared ≡ l.parameter-index) × (l.declared ++ numbered l.next (map type_parameter_tree (drop l.parameter-index l.written)) ≡ numbered l.row (map type_parameter_tree l.written))
