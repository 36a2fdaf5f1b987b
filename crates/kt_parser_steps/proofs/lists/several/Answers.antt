use Rattle.kt_tree.specs.declared.tokens.Sign.TheVariants as sign
use Rattle.kt_tree.specs.Tokens.{is_new_line, is_sign}
use Rattle.kt_grammar_parsers.specs.Parsers.{more_turn}
use Rattle.kt_parser_steps.specs.Steps.{lead_of}
use Rattle.kt_parser_steps.proofs.Ways.{reads_on}
use Rattle.kt_parser_steps.proofs.Turning.{first_listed}
use Rattle.kt_parser_steps.proofs.lists.several.Goals as goal

pub returns : goal.returns
returns g c p h = first_listed _ p _ _ _ _ (h _ _ _ c.in_ok-first.ensures) _ c.new-items.ensures _ c.in_ok-push.ensures.ok _ _ (c.repeat.ensures (more_turn (lead_of c.args.lead) (is_sign sign.Comma) is_new_line p) (λ s old new r e. reads_on _ _ _ _ _ _ (e.said-raw.1.1.1.1.0.ensures p h) e.said-raw.1.1.1.1.1))
