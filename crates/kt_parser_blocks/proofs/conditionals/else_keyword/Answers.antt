use Rattle.std.proofs.Common.{◌∙◌}
use Rattle.kt_parser_steps.proofs.Ways.{expects_from}
use Rattle.kt_parser_blocks.proofs.Passing.{either_way, past_lines}
use Rattle.kt_parser_blocks.proofs.conditionals.else_keyword.Goals as goal

pub returns : goal.returns
returns c = expects_from _ _ _ (either_way _ _ _ _ _ c.take_sign-semicolon.ensures ∙ past_lines _ _ _ c.skip_lines.ensures) _ _ c.expect_keyword.ensures
