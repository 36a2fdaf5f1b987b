use Rattle.std.proofs.Common.{◌≡◌, ◌++◌, List, map, drop, option_map}
use Rattle.kt_base.specs.declared.stack_code.Plain.{Plain}
use Rattle.kt_tree.specs.Bodies.{statement_tree, statements_of}
use Rattle.kt_first.specs.Programs.{code_of}
use Rattle.kt_first.specs.Trees.{program_of_statements}
use Rattle.kt_first.proofs.files.push_statements.Given as goal

-- the code of what is left, behind the code so far, is that of all behind the code at the start
abbrev pub invariant-loop-statement : goal.invariant-loop-statement
invariant-loop-statement l =
    option_map (λ (code : List Plain). l.code.items ++ code) (option_map code_of (program_of_statements (statements_of (map statement_tree (drop l.statement-index l.statements)))))
    ≡ option_map (λ (code : List Plain). l.initial.code.items ++ code) (option_map code_of (program_of_statements (statements_of (map statement_tree l.statements))))
