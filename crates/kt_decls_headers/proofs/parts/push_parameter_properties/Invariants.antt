use Rattle.std.specs.Prelude.{◌≡◌, ◌++◌, map, drop}
use Rattle.std.specs.List.{flat_map}
use Rattle.kt_decls_types.specs.Scopes.{class_named}
use Rattle.kt_tree.specs.Declarations.{constructor_parameter_tree}
use Rattle.kt_typed.specs.Headers.{property_form}
use Rattle.kt_decls_headers.specs.Classes.{parameter_property}
use Rattle.kt_decls_headers.proofs.parts.push_parameter_properties.Given as goal

abbrev pub invariant-loop-parameter : goal.invariant-loop-parameter
invariant-loop-parameter l =
    map property_form l.done ++ flat_map (parameter_property (class_named l.classes) l.scope l.at) (map constructor_parameter_tree (drop l.parameter-index l.parameters)) ≡ map property_form l.fn.done ++ flat_map (parameter_property (class_named l.classes) l.scope l.at) (map constructor_parameter_tree l.parameters)
