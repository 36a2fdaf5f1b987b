use Rattle.std.specs.Prelude.{◌↔◌, map, drop}
use Rattle.kt_tree.specs.Declarations.{declaration_tree, function_tree}
use Rattle.kt_decls_rules.specs.ClassRules.{IsFineAbove}
use Rattle.kt_decls_meeting.specs.Keys.{AreKeys}
use Rattle.kt_decls_meeting.proofs.keys.are_fine_functions.Given as goal

abbrev pub invariant-loop-function : goal.invariant-loop-function
invariant-loop-function l =
    AreKeys (IsFineAbove (map declaration_tree l.file) l.row l.needs_bodies l.is_data (declaration_tree l.declaration)) (map function_tree l.functions) ↔ AreKeys (IsFineAbove (map declaration_tree l.file) l.row l.needs_bodies l.is_data (declaration_tree l.declaration)) (map function_tree (drop l.function-index l.functions))
