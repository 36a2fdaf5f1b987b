use Rattle.std.proofs.Common.{Option, option_map, map, ap, ◌∙◌}
use Rattle.kt_tree.specs.declared.bodies.Expression.{Expression}
use Rattle.kt_tree.specs.Bodies as e
use Rattle.kt_tree.specs.Bodies.{entry_tree, expression_tree}
use Rattle.kt_parser_steps.proofs.HeldBack.{read_beside, refused_beside}
use Rattle.kt_parser_steps.proofs.Turning.{refused}
use Rattle.kt_parser_blocks.proofs.Entries.{when_made, when_fails}
use Rattle.kt_parser_blocks.proofs.below.Below.entries_rest.Goals as goal

pub returns-in_err-subject : goal.returns-in_err-subject
returns-in_err-subject g c =
    refused _ _ c.in_err-subject.field-0.0 _ (λ some. when_fails c.args.self.now.room c.args.at c.args.tokens.now c.args.start.now c.args.subject c.is_some-has_subject.result c.is_some-has_subject.ensures _
    (refused_beside _ _ _ _ _ c.in_err-subject.ensures c.entries.ensures some)) _ c.from_residual.ensures

pub returns : goal.returns
returns g c =
    when_made c.args.self.now.room c.args.at c.args.tokens.now c.args.start.now c.args.subject c.is_some-has_subject.result c.is_some-has_subject.ensures _ _ _ (read_beside _ _ _ _ _ c.in_ok-subject.ensures.1 c.entries.ensures) _
    (c.in_ok-when.ensures ∙ ap (λ (z : Option Expression). e.when c.args.start.now.pos (e.maybe_expression (option_map expression_tree z)) (e.entries_of (map entry_tree c.in_ok-subject.entries))) c.in_ok-subject.ensures.0)
