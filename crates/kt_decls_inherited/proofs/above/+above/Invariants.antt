use Rattle.std.specs.Prelude.{◌≡◌, ◌++◌, ◌+◌, ◌*◌, map, option_map, drop}
use Rattle.kt_tree.specs.Declarations.{declaration_tree}
use Rattle.kt_types_tree.specs.Hierarchy.{hierarchy_form, super_form}
use Rattle.kt_decls_types.specs.Scopes.{class_named}
use Rattle.kt_decls_inherited.specs.Erased.{descriptor_form}
use Rattle.kt_decls_inherited.specs.Descriptors.{all_up}
use Rattle.kt_decls_inherited.proofs.above.+above.Given as goal

abbrev pub decreases-descriptors_from : goal.decreases-descriptors_from
decreases-descriptors_from l = 3 * l.steps

abbrev pub decreases-descriptors_in : goal.decreases-descriptors_in
decreases-descriptors_in l = 3 * l.steps + 1

abbrev pub decreases-descriptors_of : goal.decreases-descriptors_of
decreases-descriptors_of l = 3 * l.steps + 2

abbrev pub invariant-descriptors_of-loop-supertype : goal.invariant-descriptors_of-loop-supertype
invariant-descriptors_of-loop-supertype l =
    map (option_map descriptor_form) l.done ++ all_up (class_named l.classes) (hierarchy_form l.h) (map declaration_tree l.file) l.places l.name l.count l.steps (map super_form (drop l.supertype-index l.supertypes)) ≡ all_up (class_named l.classes) (hierarchy_form l.h) (map declaration_tree l.file) l.places l.name l.count l.steps (map super_form l.supertypes)
