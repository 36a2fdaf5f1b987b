use Rattle.std.specs.Prelude.{◌≡◌, ◌++◌, map, drop}
use Rattle.kt_decls_types.specs.Scopes.{class_named}
use Rattle.kt_tree.specs.Declarations.{declaration_tree}
use Rattle.kt_typed.specs.Headers.{function_form}
use Rattle.kt_decls_headers.specs.Files.{functions_from}
use Rattle.kt_decls_headers.proofs.files.functions.Given as goal

abbrev pub invariant-loop-declaration : goal.invariant-loop-declaration
invariant-loop-declaration l =
    map function_form l.done ++ functions_from (class_named l.classes) l.first (map declaration_tree (drop l.declaration-index l.file)) ≡ functions_from (class_named l.classes) 0 (map declaration_tree l.file)
