use Rattle.std.specs.Prelude.{◌≡◌, ◌++◌, map, drop}
use Rattle.kt_tree.specs.Declarations.{declaration_tree}
use Rattle.kt_decls_classes.specs.Kinds.{all_kinds, kind_seen, kinds_from}
use Rattle.kt_decls_classes.proofs.kinds.kinds.Given as goal

abbrev pub invariant-loop-declaration : goal.invariant-loop-declaration
invariant-loop-declaration l =
    map kind_seen l.done ++ kinds_from (map declaration_tree (drop l.declaration-index l.file)) ≡ all_kinds (map declaration_tree l.file)
