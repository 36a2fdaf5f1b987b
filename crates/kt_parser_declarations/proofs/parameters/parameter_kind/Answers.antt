use Rattle.std.proofs.Common.{refl, true}
use Rattle.kt_parser_steps.proofs.Choosing.{attempt_if_passes}
use Rattle.kt_parser_steps.proofs.Ways.{attempt_ok}
use Rattle.kt_grammar.specs.Declarations.{kind_of}
use Rattle.kt_grammar.specs.Readers.{meant}
use Rattle.kt_parser_steps.specs.Chosen.{found_token}
use Rattle.kt_parser_declarations.proofs.parameters.parameter_kind.Goals as goal

pub returns-in-Some : goal.returns-in-Some
returns-in-Some c = attempt_ok (meant kind_of) _ _ _ _ _ c.in-Some.ensures

pub returns-in-None : goal.returns-in-None
returns-in-None c = attempt_if_passes true true found_token (meant kind_of) _ _ _ _ _ refl c.in-None.ensures refl
