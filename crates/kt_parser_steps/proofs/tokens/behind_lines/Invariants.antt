use Rattle.std.proofs.Common.{◌≡◌, length}
use Rattle.kt_grammar_parsers.specs.Parsers.{behind}
use Rattle.kt_tree.specs.Tokens.{is_new_line}
use Rattle.kt_parser_steps.proofs.tokens.behind_lines.Given as goal

abbrev pub invariant-loop-rest : goal.invariant-loop-rest
invariant-loop-rest l = behind is_new_line l.tokens ≡ behind is_new_line l.rest

abbrev pub decreases-loop-rest : goal.decreases-loop-rest
decreases-loop-rest l = length l.rest
