use Rattle.kt_parser_steps.proofs.Turning.{refused}
use Rattle.kt_parser_steps.proofs.SeparatedItems.{placed_err}
use Rattle.kt_grammar_parsers.specs.Parsers.{pure}
use Rattle.kt_grammar.specs.Readers.{separated}
use Rattle.kt_parser_steps.specs.Classes.{is_of}
use Rattle.kt_parser_declarations.proofs.lists.items_until.Goals as goal

pub returns-in_err-items : goal.returns-in_err-items
returns-in_err-items g c p h = refused _ _ c.in_err-items.field-0.0 _ (λ some. placed_err (separated (is_of c.args.close) p) _ (λ xs. pure xs.0) _ (c.in_err-items.ensures p h some)) _ c.from_residual.ensures
