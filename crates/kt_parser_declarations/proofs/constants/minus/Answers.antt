use Rattle.std.proofs.Common.{refl}
use Rattle.kt_parser_steps.proofs.Choosing.{on_gives, on_passes}
use Rattle.kt_parser_declarations.proofs.constants.minus.Goals as goal

pub returns-in-Some : goal.returns-in-Some
returns-in-Some c = on_gives _ _ _ _ _ _ _ c.in-Some.ensures refl

pub returns-in-None : goal.returns-in-None
returns-in-None c = on_passes _ _ _ _ _ _ c.in-None.ensures refl
