use Rattle.std.specs.Prelude.{◌≡◌, ◌+◌, ◌*◌, map, drop}
use Rattle.kt_tree.specs.Declarations.{declaration_tree}
use Rattle.kt_types_tree.specs.Hierarchy.{hierarchy_form, super_form}
use Rattle.kt_decls_headers.specs.Overridden.{first_by, first_up}
use Rattle.kt_decls_headers.proofs.overridden.+overridden.Given as goal

abbrev pub decreases-first_from : goal.decreases-first_from
decreases-first_from l = 3 * l.steps

abbrev pub decreases-first_at : goal.decreases-first_at
decreases-first_at l = 3 * l.steps + 1

abbrev pub decreases-first_of : goal.decreases-first_of
decreases-first_of l = 3 * l.steps + 2

abbrev pub invariant-first_of-loop-supertype : goal.invariant-first_of-loop-supertype
invariant-first_of-loop-supertype l =
    first_by (hierarchy_form l.h) (map declaration_tree l.file) l.places l.name l.count (first_up (hierarchy_form l.h) (map declaration_tree l.file) l.places l.name l.count l.steps) (map super_form l.supertypes)
    ≡ first_by (hierarchy_form l.h) (map declaration_tree l.file) l.places l.name l.count (first_up (hierarchy_form l.h) (map declaration_tree l.file) l.places l.name l.count l.steps) (map super_form (drop l.supertype-index l.supertypes))
