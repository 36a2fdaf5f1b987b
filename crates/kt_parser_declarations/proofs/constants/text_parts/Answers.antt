use Rattle.std.proofs.Common.{rules}
use Rattle.kt_grammar.specs.DeclarationParser.{text_turn}
use Rattle.kt_parser_declarations.proofs.Items.{begun}
use Rattle.kt_parser_declarations.proofs.constants.text_parts.Goals as goal

pub returns : goal.returns
returns c = begun text_turn _ _ c.new.ensures _ _ (c.repeat.ensures text_turn (λ s old new r e. search rules))
