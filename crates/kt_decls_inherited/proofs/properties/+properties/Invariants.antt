use Rattle.std.specs.Prelude.{◌≡◌, ◌+◌, ◌*◌, map, drop}
use Rattle.std.specs.List.{list_any}
use Rattle.kt_tree.specs.Declarations.{declaration_tree}
use Rattle.kt_types_tree.specs.Hierarchy.{hierarchy_form, super_form}
use Rattle.kt_decls_rules.specs.Names.{is_name}
use Rattle.kt_decls_inherited.specs.Properties.{all_up}
use Rattle.kt_decls_inherited.proofs.properties.+properties.Given as goal

abbrev pub decreases-is_above : goal.decreases-is_above
decreases-is_above l = 2 * l.steps

abbrev pub decreases-is_in_any : goal.decreases-is_in_any
decreases-is_in_any l = 2 * l.steps + 1

abbrev pub invariant-is_in_any-loop-supertype : goal.invariant-is_in_any-loop-supertype
invariant-is_in_any-loop-supertype l =
    list_any (is_name l.name) (all_up (hierarchy_form l.h) (map declaration_tree l.file) l.places l.steps (map super_form l.supertypes)) ≡ list_any (is_name l.name) (all_up (hierarchy_form l.h) (map declaration_tree l.file) l.places l.steps (map super_form (drop l.supertype-index l.supertypes)))
