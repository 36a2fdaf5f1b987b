use Rattle.std.specs.Prelude.{◌≡◌, ◌++◌, map, drop}
use Rattle.kt_tree.specs.Declarations.{type_parameter_tree}
use Rattle.kt_types_tree.specs.Types.{type_form}
use Rattle.kt_decls_types.specs.Scopes.{class_named}
use Rattle.kt_decls_hierarchy.specs.Drafts.{bounds_in}
use Rattle.kt_decls_hierarchy.proofs.supertypes.push_bounds.Given as goal

abbrev pub invariant-loop-parameter : goal.invariant-loop-parameter
invariant-loop-parameter l =
    map type_form l.bounds ++ bounds_in (class_named l.classes) l.scope (map type_parameter_tree (drop l.parameter-index l.parameters)) ≡ map type_form l.fn.bounds ++ bounds_in (class_named l.classes) l.scope (map type_parameter_tree l.parameters)
