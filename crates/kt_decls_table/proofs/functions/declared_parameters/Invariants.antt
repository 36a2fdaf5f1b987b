use Rattle.std.specs.Prelude.{◌≡◌, map, drop}
use Rattle.kt_tree.specs.Declarations.{typed_parameter_tree}
use Rattle.kt_typed.specs.Headers.{parameter_form}
use Rattle.kt_decls_types.specs.Scopes.{class_named}
use Rattle.kt_decls_table.specs.Meanings.{behind}
use Rattle.kt_decls_table.specs.Functions.{parameters_meant}
use Rattle.kt_decls_table.proofs.functions.declared_parameters.Given as goal

abbrev pub invariant-loop-parameter : goal.invariant-loop-parameter
invariant-loop-parameter l =
    parameters_meant (class_named l.classes) l.scope (map typed_parameter_tree l.parameters) ≡ behind (map parameter_form l.done) (parameters_meant (class_named l.classes) l.scope (map typed_parameter_tree (drop l.parameter-index l.parameters)))
