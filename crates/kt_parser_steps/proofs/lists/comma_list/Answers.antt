use Rattle.kt_tree.specs.declared.tokens.Sign.TheVariants as sign
use Rattle.kt_tree.specs.Tokens.{is_sign}
use Rattle.kt_grammar_parsers.specs.Parsers.{comma_turn}
use Rattle.kt_parser_steps.proofs.Ways.{reads_on}
use Rattle.kt_parser_steps.proofs.Turning.{first_listed}
use Rattle.kt_parser_steps.proofs.lists.comma_list.Goals as goal

pub returns : goal.returns
returns g c p h =
    first_listed _ p _ _ _ _ (h _ _ _ c.in_ok-first.ensures) _ c.new-items.ensures _ c.in_ok-push.ensures.ok _ _ (c.repeat.ensures (comma_turn (is_sign sign.Comma) (is_sign c.args.close) p)
    (λ s old new r e. reads_on _ _ _ _ _ _ (e.said-raw.1.1.1.1.0.ensures p h) e.said-raw.1.1.1.1.1))
