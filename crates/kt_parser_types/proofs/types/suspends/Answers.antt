use Rattle.std.proofs.Common.{Err, ◌∙◌, sym, ap}
use Rattle.kt_tree.specs.declared.tokens.Token.{Token}
use Rattle.kt_grammar_parsers.specs.Parsers.{Cursor}
use Rattle.kt_parser_steps.proofs.Ways.{past_taken, past_missed, missed_rest}
use Rattle.kt_parser_types.proofs.types.suspends.Goals as goal

pub returns-then-sign_ahead : goal.returns-then-sign_ahead
returns-then-sign_ahead c = past_taken _ _ _ _ _ c.in-Some.ensures ∙ c.if-sign_ahead.ensures

pub returns-else-sign_ahead : goal.returns-else-sign_ahead
returns-else-sign_ahead c = (
  past_taken _ _ _ _ _ c.in-Some.ensures ∙ c.if-sign_ahead.ensures.0 ∙ ap (λ (z : Cursor Token). Err z.far) (sym c.go_to.ensures),
  ap (λ (z : Cursor Token). z.rest) c.go_to.ensures ∙ c.rest-place.ensures,
)

pub returns-in-None : goal.returns-in-None
returns-in-None c = (past_missed _ _ _ _ c.in-None.ensures, missed_rest _ _ _ c.in-None.ensures)
