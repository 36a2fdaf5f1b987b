use Rattle.std.specs.Prelude.{◌≡◌, ◌+◌, ◌↔◌, map, drop}
use Rattle.kt_tree.specs.Declarations.{declaration_tree, type_parameter_tree}
use Rattle.kt_decls_rules.specs.Rules.{DoBoundsEnd}
use Rattle.kt_decls_rules.specs.Tables.{hierarchy_of}
use Rattle.kt_decls_classes.proofs.cycles.do_bounds_end.Given as goal

abbrev pub invariant-loop-parameter : goal.invariant-loop-parameter
invariant-loop-parameter l =
    (l.row ≡ l.first + l._parameter-index) × (DoBoundsEnd (hierarchy_of (map declaration_tree l.file)) l.first (map type_parameter_tree l.parameters) ↔ DoBoundsEnd (hierarchy_of (map declaration_tree l.file)) l.row (map type_parameter_tree (drop l._parameter-index l.parameters)))
