use Rattle.std.proofs.Common.{◌≡◌, length}
use Rattle.kt_grammar_parsers.specs.Parsers.{behind}
use Rattle.kt_grammar.specs.Terminals.{is_separator}
use Rattle.kt_parser_steps.proofs.tokens.behind_separators.Given as goal

abbrev pub invariant-loop-rest : goal.invariant-loop-rest
invariant-loop-rest l = behind is_separator l.tokens ≡ behind is_separator l.rest

abbrev pub decreases-loop-rest : goal.decreases-loop-rest
decreases-loop-rest l = length l.rest
