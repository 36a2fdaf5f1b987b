use Rattle.std.specs.Prelude.{◌≡◌, ◌++◌, map, drop}
use Rattle.kt_decls_types.specs.Scopes.{class_named}
use Rattle.kt_tree.specs.Declarations.{constructor_parameter_tree}
use Rattle.kt_typed.specs.Headers.{class_parameter_form}
use Rattle.kt_decls_headers.specs.Classes.{class_parameters}
use Rattle.kt_decls_headers.proofs.parts.class_parameters.Given as goal

abbrev pub invariant-loop-parameter : goal.invariant-loop-parameter
invariant-loop-parameter l =
    map class_parameter_form l.done ++ class_parameters (class_named l.classes) l.scope l.place (map constructor_parameter_tree (drop l.parameter-index l.parameters)) ≡ class_parameters (class_named l.classes) l.scope 0 (map constructor_parameter_tree l.parameters)
