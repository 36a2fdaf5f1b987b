use Rattle.std.specs.Prelude.{map, take, drop}
use Rattle.kt_tree.specs.Declarations.{declaration_tree}
use Rattle.kt_decls_names.specs.Taken.{is_taken}
use Rattle.kt_decls_judged.specs.Walk.{IsFileWalk}
use Rattle.kt_decls_judged.proofs.judging.judge_declarations.Given as goal

abbrev pub invariant-loop-declaration : goal.invariant-loop-declaration
invariant-loop-declaration l =
    IsFileWalk (map declaration_tree l.file) (is_taken l.taken) l.row l.first (map declaration_tree (take l.declaration-index l.file)) (map declaration_tree (drop l.declaration-index l.file))
