use Rattle.std.proofs.Common.{rules, refl}
use Rattle.kt_parser_steps.proofs.Choosing.{attempt_if_reads, attempt_if_passes}
use Rattle.kt_parser_blocks.specs.Rules.{catch_head}
use Rattle.kt_parser_blocks.proofs.below.Below.catch_turn.Goals as goal

pub returns-in-Some : goal.returns-in-Some
returns-in-Some g c = attempt_if_reads _ _ _ _ _ _ _ _ _ _ _ _ c.is_deep.ensures (c.in-Some.ensures catch_head (λ old new r e. search rules)) c.catch_more.ensures

pub returns-in-None : goal.returns-in-None
returns-in-None g c = attempt_if_passes _ _ _ _ _ _ _ _ _ c.is_deep.ensures (c.in-None.ensures catch_head (λ old new r e. search rules)) refl
