use Rattle.std.proofs.Common.{refl}
use Rattle.kt_parser_declarations.proofs.Reading.{token_gives, token_fails}
use Rattle.kt_parser_declarations.proofs.constants.text_end.Goals as goal

pub returns-in-Some : goal.returns-in-Some
returns-in-Some c = token_gives _ _ _ _ _ _ c.in-Some.ensures refl

pub returns-in-None : goal.returns-in-None
returns-in-None c some = token_fails _ _ _ _ c.in-None.ensures
