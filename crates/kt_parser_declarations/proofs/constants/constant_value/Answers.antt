use Rattle.kt_parser_steps.proofs.Choosing.{on_reads, on_passes}
use Rattle.kt_parser_steps.proofs.Turning.{stopped}
use Rattle.kt_parser_declarations.proofs.constants.constant_value.Goals as goal

pub returns-in-Some : goal.returns-in-Some
returns-in-Some c = on_reads _ _ _ _ _ _ _ _ _ c.in-Some.ensures c.text_value.ensures

pub returns-in_ok-literal_value-in-None : goal.returns-in_ok-literal_value-in-None
returns-in_ok-literal_value-in-None c = on_passes _ _ _ _ _ _ c.in-None.ensures c.in_ok-literal_value-in-None.ensures

pub returns-in_err-literal_value-in-None : goal.returns-in_err-literal_value-in-None
returns-in_err-literal_value-in-None c = stopped _ _ _ (on_passes _ _ _ _ _ _ c.in-None.ensures c.in_err-literal_value-in-None.ensures) _ c.from_residual.ensures.0
