use Rattle.kt_tree.specs.Bodies.{expression_tree}
use Rattle.kt_parser_steps.proofs.HeldBack.{refused_beside}
use Rattle.kt_parser_steps.proofs.Turning.{refused}
use Rattle.kt_parser_statements.proofs.LoopBody.{body_fails}
use Rattle.kt_parser_statements.proofs.statements.Statements.for_body.Goals as goal

pub returns-in_err-first : goal.returns-in_err-first
returns-in_err-first g c = refused _ _ c.in_err-first.field-0.0 _ (λ some. body_fails c.args.self.now.below.room c.args.at _ c.in_loop.ensures c.args.start.now c.args.variable.now (expression_tree c.args.first) c.args.operator (expression_tree c.args.bound) c.args.tokens.now _ c.skip_lines.ensures _ (refused_beside _ _ _ _ _ c.in_err-first.ensures c.inner_body-body.ensures some)) _ c.from_residual.ensures
