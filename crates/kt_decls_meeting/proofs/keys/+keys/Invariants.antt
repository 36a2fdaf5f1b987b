use Rattle.std.specs.Prelude.{◌↔◌, ◌+◌, ◌*◌, map, drop}
use Rattle.kt_tree.specs.Declarations.{declaration_tree}
use Rattle.kt_types_tree.specs.Hierarchy.{hierarchy_form, super_form}
use Rattle.kt_decls_rules.specs.ClassRules.{IsFineAbove}
use Rattle.kt_decls_meeting.specs.Keys.{AreKeysBy, AreKeysUp}
use Rattle.kt_decls_meeting.proofs.keys.+keys.Given as goal

abbrev pub decreases-are_fine_up : goal.decreases-are_fine_up
decreases-are_fine_up l = 3 * l.steps

abbrev pub decreases-is_fine_way : goal.decreases-is_fine_way
decreases-is_fine_way l = 3 * l.steps + 1

abbrev pub decreases-are_fine_by : goal.decreases-are_fine_by
decreases-are_fine_by l = 3 * l.steps + 2

abbrev pub invariant-are_fine_by-loop-supertype : goal.invariant-are_fine_by-loop-supertype
invariant-are_fine_by-loop-supertype l =
    AreKeysBy (IsFineAbove (map declaration_tree l.file) l.row l.needs_bodies l.is_data (declaration_tree l.declaration)) (hierarchy_form l.facts.hierarchy) (map declaration_tree l.file) l.places (AreKeysUp (IsFineAbove (map declaration_tree l.file) l.row l.needs_bodies l.is_data (declaration_tree l.declaration)) (hierarchy_form l.facts.hierarchy) (map declaration_tree l.file) l.places l.steps) (map super_form l.supertypes)
    ↔ AreKeysBy (IsFineAbove (map declaration_tree l.file) l.row l.needs_bodies l.is_data (declaration_tree l.declaration)) (hierarchy_form l.facts.hierarchy) (map declaration_tree l.file) l.places (AreKeysUp (IsFineAbove (map declaration_tree l.file) l.row l.needs_bodies l.is_data (declaration_tree l.declaration)) (hierarchy_form l.facts.hierarchy) (map declaration_tree l.file) l.places l.steps) (map super_form (drop l.supertype-index l.supertypes))
