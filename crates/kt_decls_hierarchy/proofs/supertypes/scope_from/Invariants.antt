use Rattle.std.specs.Prelude.{◌≡◌, ◌++◌, ◌+◌, length, map, drop}
use Rattle.kt_tree.specs.Declarations.{type_parameter_tree}
use Rattle.kt_decls_rules.specs.Tables.{numbered}
use Rattle.kt_decls_hierarchy.proofs.supertypes.scope_from.Given as goal

abbrev pub invariant-loop-parameter : goal.invariant-loop-parameter
invariant-loop-parameter l =
    (l.next ≡ l.first + l.parameter-index) × (length l.done ≡ l.parameter-index) × (l.done ++ numbered l.next (map type_parameter_tree (drop l.parameter-index l.parameters)) ≡ numbered l.first (map type_parameter_tree l.parameters))
