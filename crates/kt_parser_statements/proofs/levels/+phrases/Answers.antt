use Rattle.std.proofs.Common.{Err, arith, sym, ap, ◌∙◌}
use Rattle.kt_tree.specs.declared.tokens.Token.{Token}
use Rattle.kt_grammar_parsers.specs.Parsers.{Cursor}
use Rattle.kt_parser_steps.proofs.Ways.{reads_from}
use Rattle.kt_parser_statements.proofs.Depth.{no_expression, no_statement, expression_above, statement_above}
use Rattle.kt_parser_statements.proofs.levels.+phrases.Goals as goal

pub read_expression-returns-then-room-eq0 : goal.read_expression-returns-then-room-eq0
read_expression-returns-then-room-eq0 t c some = no_expression c.args.room c.args.at c.args.tokens.now (omega arith) c.args.precedence ∙ ap (λ (z : Cursor Token). Err z.far) (sym c.refuse.ensures.marked)

pub read_expression-returns : goal.read_expression-returns
read_expression-returns t c = reads_from _ _ _ (expression_above c.args.room _ (omega arith) c.args.at c.args.tokens.now c.args.precedence) _ _ c.whole_expression.ensures

pub read_statement-returns-then-room-eq0 : goal.read_statement-returns-then-room-eq0
read_statement-returns-then-room-eq0 t c some = no_statement c.args.room c.args.at c.args.tokens.now (omega arith) ∙ ap (λ (z : Cursor Token). Err z.far) (sym c.refuse.ensures.marked)

pub read_statement-returns : goal.read_statement-returns
read_statement-returns t c = reads_from _ _ _ (statement_above c.args.room _ (omega arith) c.args.at c.args.tokens.now) _ _ c.whole_statement.ensures
