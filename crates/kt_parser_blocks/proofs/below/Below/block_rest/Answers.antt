use Rattle.std.proofs.Common.{rules}
use Rattle.kt_tree.specs.declared.tokens.Sign.TheVariants as sign
use Rattle.kt_tree.specs.Tokens.{is_sign}
use Rattle.kt_tree.specs.Bodies as tree
use Rattle.kt_tree.specs.Bodies.{statements_of}
use Rattle.kt_grammar_parsers.specs.Parsers.{pure}
use Rattle.kt_grammar.specs.Readers.{separated}
use Rattle.kt_grammar.specs.StatementParser.{parsers}
use Rattle.kt_parser_steps.proofs.Turning.{refused}
use Rattle.kt_parser_steps.proofs.SeparatedItems.{placed_err}
use Rattle.kt_parser_blocks.proofs.below.Below.block_rest.Goals as goal

pub returns-in_err-statements : goal.returns-in_err-statements
returns-in_err-statements g c =
    refused _ _ c.in_err-statements.field-0.0 _ (λ some. placed_err (separated (is_sign sign.CloseBrace) ((parsers c.args.self.now.room).statement c.args.at)) c.args.tokens.now (λ b. pure (tree.block (statements_of b.0) b.1.pos)) _ (c.in_err-statements.ensures ((parsers c.args.self.now.room).statement c.args.at) (λ old new r e. search rules) some)) _ c.from_residual.ensures
