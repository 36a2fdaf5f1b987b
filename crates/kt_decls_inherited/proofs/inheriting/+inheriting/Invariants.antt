use Rattle.std.specs.Prelude.{◌≡◌, ◌++◌, ◌+◌, ◌*◌, map, drop}
use Rattle.kt_tree.specs.Declarations.{declaration_tree}
use Rattle.kt_types_tree.specs.Hierarchy.{hierarchy_form, super_form}
use Rattle.kt_decls_types.specs.Scopes.{class_named}
use Rattle.kt_decls_inherited.specs.Sights.{sight_form}
use Rattle.kt_decls_inherited.specs.Rows.{all_up}
use Rattle.kt_decls_inherited.proofs.inheriting.+inheriting.Given as goal

abbrev pub decreases-sights_from : goal.decreases-sights_from
decreases-sights_from l = 3 * l.steps

abbrev pub decreases-sights_in : goal.decreases-sights_in
decreases-sights_in l = 3 * l.steps + 1

abbrev pub decreases-sights_of : goal.decreases-sights_of
decreases-sights_of l = 3 * l.steps + 2

abbrev pub invariant-sights_of-loop-supertype : goal.invariant-sights_of-loop-supertype
invariant-sights_of-loop-supertype l =
    map sight_form l.done ++ all_up (class_named l.classes) (hierarchy_form l.h) (map declaration_tree l.file) l.places l.name l.count l.steps (map super_form (drop l.supertype-index l.supertypes)) ≡ all_up (class_named l.classes) (hierarchy_form l.h) (map declaration_tree l.file) l.places l.name l.count l.steps (map super_form l.supertypes)
