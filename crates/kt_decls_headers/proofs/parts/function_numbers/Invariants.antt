use Rattle.std.specs.Prelude.{◌≡◌, ◌++◌, map, drop}
use Rattle.kt_tree.specs.Declarations.{function_tree}
use Rattle.kt_decls_headers.specs.Classes as spec
use Rattle.kt_decls_headers.proofs.parts.function_numbers.Given as goal

abbrev pub invariant-loop-function : goal.invariant-loop-function
invariant-loop-function l =
    l.done ++ spec.function_numbers l.number (map function_tree (drop l._function-index l.functions)) ≡ spec.function_numbers 0 (map function_tree l.functions)
