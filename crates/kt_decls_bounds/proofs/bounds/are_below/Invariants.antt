use Rattle.std.specs.Prelude.{◌≡◌, ◌↔◌, map, drop}
use Rattle.kt_types_tree.specs.Types.{forms_of, type_form}
use Rattle.kt_types_tree.specs.Hierarchy.{hierarchy_form}
use Rattle.kt_decls_rules.specs.Rules.{AreBelowBounds, header_at}
use Rattle.kt_decls_bounds.proofs.bounds.are_below.Given as goal

abbrev pub invariant-loop-argument : goal.invariant-loop-argument
invariant-loop-argument l =
    (l.place ≡ l.argument-index) × (AreBelowBounds (hierarchy_form l.h) (header_at (hierarchy_form l.h) l.constructor) (forms_of (map type_form l.all)) 0 (forms_of (map type_form l.all)) ↔ AreBelowBounds (hierarchy_form l.h) (header_at (hierarchy_form l.h) l.constructor) (forms_of (map type_form l.all)) l.place (forms_of (map type_form (drop l.argument-index l.all))))
