use Rattle.std.specs.Prelude.{◌≡◌, ◌≤◌, map, drop}
use Rattle.kt_tree.specs.Declarations.{function_tree}
use Rattle.kt_decls_headers.specs.Overridden.{place_from}
use Rattle.kt_decls_headers.proofs.overridden.place_in_functions.Given as goal

abbrev pub invariant-loop-function : goal.invariant-loop-function
invariant-loop-function l =
    (l.place ≤ l.function-index) × (place_from l.name l.count 0 (map function_tree l.functions) ≡ place_from l.name l.count l.place (map function_tree (drop l.function-index l.functions)))
