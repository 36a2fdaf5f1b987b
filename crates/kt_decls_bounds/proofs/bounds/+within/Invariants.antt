use Rattle.std.specs.Prelude.{◌↔◌, map, drop}
use Rattle.kt_types_tree.specs.Types.{forms_of, type_form}
use Rattle.kt_types_tree.specs.Hierarchy.{hierarchy_form}
use Rattle.kt_decls_rules.specs.Rules.{AreWithinBounds}
use Rattle.kt_decls_bounds.proofs.bounds.+within.Given as goal

abbrev pub invariant-are_within_bounds-loop-t : goal.invariant-are_within_bounds-loop-t
invariant-are_within_bounds-loop-t l =
    AreWithinBounds (hierarchy_form l.h) (forms_of (map type_form l.all)) ↔ AreWithinBounds (hierarchy_form l.h) (forms_of (map type_form (drop l.t-index l.all)))
