use Rattle.kt_grammar_parsers.specs.Parsers.{item_turn}
use Rattle.kt_grammar.specs.Terminals.{is_separator}
use Rattle.kt_parser_steps.specs.Classes.{is_of}
use Rattle.kt_parser_steps.specs.Steps.{given, ended, place_of}
use Rattle.kt_parser_steps.proofs.Ways.{reads_on}
use Rattle.kt_parser_steps.proofs.SeparatedItems.{items_listed}
use Rattle.kt_parser_steps.proofs.lists.separated.Goals as goal

pub returns : goal.returns
returns g c p h = items_listed _ _ _ p _ _ c.skip_separators.ensures _ c.new.ensures _ _ (c.repeat.ensures (λ xs. given (ended place_of) (item_turn is_separator (is_of c.args.close) p xs)) (λ s old new r e. reads_on _ _ _ _ _ _ (e.said-raw.1.1.1.1.0.ensures p h) e.said-raw.1.1.1.1.1))
