use Rattle.std.specs.Prelude.{◌≡◌, map, drop}
use Rattle.kt_tree.specs.Declarations.{constructor_parameter_tree}
use Rattle.kt_decls_headers.specs.Classes.{property_count}
use Rattle.kt_decls_headers.proofs.parts.property_count.Given as goal

abbrev pub invariant-loop-parameter : goal.invariant-loop-parameter
invariant-loop-parameter l =
    property_count l.count (map constructor_parameter_tree (drop l.parameter-index l.parameters)) ≡ property_count 0 (map constructor_parameter_tree l.parameters)
