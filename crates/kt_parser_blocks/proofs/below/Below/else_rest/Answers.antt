use Rattle.std.proofs.Common.{rules, true, refl}
use Rattle.kt_parser_steps.proofs.Choosing.{attempt_reads, attempt_if_passes}
use Rattle.kt_parser_steps.proofs.Optional.{so_made}
use Rattle.kt_parser_blocks.specs.Rules.{else_word}
use Rattle.kt_parser_blocks.proofs.below.Below.else_rest.Goals as goal

pub returns-in-Some : goal.returns-in-Some
returns-in-Some g c = attempt_reads {X = Unit {0}} _ (λ u. u) else_word _ _ _ _ _ _ tt (c.in-Some.ensures else_word (λ old new r e. search rules)) c.else_body.ensures

pub returns-in_ok-if_else-in-None : goal.returns-in_ok-if_else-in-None
returns-in_ok-if_else-in-None g c = attempt_if_passes {X = Unit {0}} true true (λ u. u) else_word _ _ _ _ _ refl (c.in-None.ensures else_word (λ old new r e. search rules)) (so_made _ _ _ c.in_ok-if_else-in-None.ensures)
