use Rattle.std.proofs.Common.{Option, option_map, ap, sym, ◌∙◌}
use Rattle.kt_tree.specs.declared.bodies.Expression.{Expression}
use Rattle.kt_tree.specs.Bodies.{expression_tree}
use Rattle.kt_parser_steps.proofs.HeldBack.{taken_beside}
use Rattle.kt_parser_steps.proofs.Ways.{reads_from}
use Rattle.kt_parser_blocks.specs.Rules as rules
use Rattle.kt_parser_blocks.proofs.Entries.{when_opens}
use Rattle.kt_parser_blocks.proofs.below.Below.when_rest.Goals as goal

pub returns : goal.returns
returns g c = reads_from _ _ _ (when_opens c.args.self.now.room c.args.at c.args.start.now _ _ _ c.in_ok-subject.ensures _ c.skip_lines.ensures c.in_ok-subject-2.field-0-1.now _ (taken_beside _ _ _ _ _ c.in_ok-subject-2.ensures.1 c.expect.ensures)
    ∙ ap (λ (z : Option Expression). rules.entries_rest c.args.self.now.room c.args.at c.args.start.now (option_map expression_tree z) c.expect.new.tokens) (sym c.in_ok-subject-2.ensures.0)) _ _ c.entries_rest.ensures
