use Rattle.std.specs.Prelude.{◌≡◌, map, drop}
use Rattle.std.specs.List.{list_any}
use Rattle.kt_tree.specs.Declarations.{function_tree}
use Rattle.kt_decls_rules.specs.Tables.{is_function}
use Rattle.kt_decls_hierarchy.proofs.drafts.has_function.Given as goal

abbrev pub invariant-loop-function : goal.invariant-loop-function
invariant-loop-function l =
    list_any (is_function l.name l.count) (map function_tree l.functions) ≡ list_any (is_function l.name l.count) (map function_tree (drop l.function-index l.functions))
