use Rattle.std.specs.Prelude.{List, ◌≡◌, map, drop}
use Rattle.kt_tree.specs.Declarations.{DeclarationTree, declaration_tree, function_tree, method}
use Rattle.kt_decls_names.specs.Taken.{is_taken}
use Rattle.kt_decls_rules.specs.Names.{Taken}
use Rattle.kt_decls_rules.specs.ClassRules.{row_behind}
use Rattle.kt_decls_rules.specs.Tables.{scope_of}
use Rattle.kt_decls_members.specs.Known.{IsTakenBy}
use Rattle.kt_decls_members.specs.Walk.{IsMemberWalk}
use Rattle.kt_decls_members.proofs.judging.judge_functions.Given as goal

abbrev pub invariant-loop-function : goal.invariant-loop-function
invariant-loop-function l =
    (before : List DeclarationTree) (d : DeclarationTree) (earlier : List Taken) →
    l.row ≡ row_behind before → l.scope ≡ scope_of before d → IsTakenBy (is_taken l.fn.taken) earlier →
    IsMemberWalk (map declaration_tree l.file) before d earlier (map method (map function_tree l.functions)) (is_taken l.taken) (map method (map function_tree (drop l.function-index l.functions)))
