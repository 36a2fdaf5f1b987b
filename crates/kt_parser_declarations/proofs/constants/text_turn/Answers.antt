use Rattle.std.proofs.Common.{true, refl}
use Rattle.kt_grammar.specs.Terminals.{text_of}
use Rattle.kt_grammar.specs.Readers.{meant}
use Rattle.kt_parser_steps.specs.Chosen.{found_token}
use Rattle.kt_parser_steps.proofs.Turning.{pushed}
use Rattle.kt_parser_steps.proofs.Choosing.{attempt_if_gives, attempt_skips}
use Rattle.kt_parser_steps.proofs.Optional.{found_is}
use Rattle.kt_parser_declarations.proofs.Items.{goes_on}
use Rattle.kt_parser_declarations.proofs.constants.text_turn.Goals as goal

pub returns-in_ok-push-in-Some : goal.returns-in_ok-push-in-Some
returns-in_ok-push-in-Some c = attempt_if_gives true true found_token (meant text_of) _ _ _ _ _ (c.in-Some.field-0-0, c.in-Some.part) refl (found_is true found_token (meant text_of) _ _ _ _ c.in_ok-next.ensures c.in-Some.is) (goes_on _ _ (pushed _ _ _ _ c.in_ok-push-in-Some.ensures.ok) _)

pub returns-in-None : goal.returns-in-None
returns-in-None c = attempt_skips _ found_token (meant text_of) _ _ _ _ _ _ (found_is true found_token (meant text_of) _ _ _ _ c.in_ok-next.ensures c.in-None.is) c.text_end.ensures
