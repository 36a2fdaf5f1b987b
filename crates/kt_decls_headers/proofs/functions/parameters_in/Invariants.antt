use Rattle.std.specs.Prelude.{◌≡◌, ◌++◌, map, drop}
use Rattle.kt_decls_types.specs.Scopes.{class_named}
use Rattle.kt_tree.specs.Declarations.{typed_parameter_tree}
use Rattle.kt_typed.specs.Headers.{parameter_form}
use Rattle.kt_decls_headers.specs.Functions.{parameter_in}
use Rattle.kt_decls_headers.proofs.functions.parameters_in.Given as goal

abbrev pub invariant-loop-parameter : goal.invariant-loop-parameter
invariant-loop-parameter l =
    map parameter_form l.done ++ map (parameter_in (class_named l.classes) l.scope) (map typed_parameter_tree (drop l.parameter-index l.parameters)) ≡ map (parameter_in (class_named l.classes) l.scope) (map typed_parameter_tree l.parameters)
