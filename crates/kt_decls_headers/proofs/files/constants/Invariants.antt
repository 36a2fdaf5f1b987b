use Rattle.std.specs.Prelude.{◌≡◌, ◌++◌, map, drop}
use Rattle.kt_decls_types.specs.Scopes.{class_named}
use Rattle.kt_tree.specs.Declarations.{declaration_tree}
use Rattle.kt_typed.specs.Headers.{constant_form}
use Rattle.kt_decls_headers.specs.Files.{constants_of}
use Rattle.kt_decls_headers.proofs.files.constants.Given as goal

abbrev pub invariant-loop-declaration : goal.invariant-loop-declaration
invariant-loop-declaration l =
    map constant_form l.done ++ constants_of (class_named l.classes) (map declaration_tree (drop l.declaration-index l.file)) ≡ constants_of (class_named l.classes) (map declaration_tree l.file)
