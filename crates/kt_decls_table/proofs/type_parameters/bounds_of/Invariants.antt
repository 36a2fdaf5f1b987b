use Rattle.std.specs.Prelude.{◌≡◌, map, drop}
use Rattle.kt_tree.specs.Declarations.{type_parameter_tree}
use Rattle.kt_types_tree.specs.Types.{type_form}
use Rattle.kt_decls_types.specs.Scopes.{class_named}
use Rattle.kt_decls_table.specs.Meanings.{behind}
use Rattle.kt_decls_table.specs.TypeParameters.{bounds_meant}
use Rattle.kt_decls_table.proofs.type_parameters.bounds_of.Given as goal

abbrev pub invariant-loop-parameter : goal.invariant-loop-parameter
invariant-loop-parameter l =
    bounds_meant (class_named l.classes) l.scope (map type_parameter_tree l.written) ≡ behind (map type_form l.done) (bounds_meant (class_named l.classes) l.scope (map type_parameter_tree (drop l.parameter-index l.written)))
