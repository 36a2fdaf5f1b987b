use Rattle.std.specs.Prelude.{◌≡◌, find, map, drop}
use Rattle.kt_tree.specs.Declarations.{function_tree}
use Rattle.kt_decls_rules.specs.Tables.{is_function}
use Rattle.kt_decls_inherited.proofs.finding.found_function.Given as goal

abbrev pub invariant-loop-function : goal.invariant-loop-function
invariant-loop-function l =
    find (is_function l.name l.count) (map function_tree l.functions) ≡ find (is_function l.name l.count) (map function_tree (drop l.function-index l.functions))
