use Rattle.std.specs.Prelude.{◌≡◌, ◌+◌, ◌≤◌, length, map, drop}
use Rattle.std.specs.List.{filter}
use Rattle.kt_tree.specs.Declarations.{supertype_tree}
use Rattle.kt_decls_rules.specs.ClassRules.{is_called}
use Rattle.kt_decls_classes.proofs.supertypes.has_one_superclass.Given as goal

abbrev pub invariant-loop-each : goal.invariant-loop-each
invariant-loop-each l =
    (l.count ≤ l.each-index) × (l.count + length (filter is_called (map supertype_tree (drop l.each-index l.written))) ≡ length (filter is_called (map supertype_tree l.written)))
