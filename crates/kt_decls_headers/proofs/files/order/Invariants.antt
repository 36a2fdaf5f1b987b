use Rattle.std.specs.Prelude.{◌≡◌, ◌++◌, length, map, drop}
use Rattle.kt_tree.specs.Declarations.{declaration_tree}
use Rattle.kt_types_builtins.specs.Throwables.{throwables}
use Rattle.kt_decls_headers.specs.Files.{order_from}
use Rattle.kt_decls_headers.proofs.files.order.Given as goal

abbrev pub invariant-loop-declaration : goal.invariant-loop-declaration
invariant-loop-declaration l =
    l.done ++ order_from l.functions l.row l.constants (map declaration_tree (drop l.declaration-index l.file)) ≡ order_from 0 (length throwables) 0 (map declaration_tree l.file)
