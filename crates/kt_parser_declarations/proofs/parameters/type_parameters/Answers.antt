use Rattle.kt_parser_steps.proofs.Choosing.{on_reads, on_passes}
use Rattle.kt_parser_declarations.proofs.Items.{none_read}
use Rattle.kt_parser_declarations.proofs.parameters.type_parameters.Goals as goal

pub returns-in-Some : goal.returns-in-Some
returns-in-Some c = on_reads _ _ _ _ _ _ _ _ _ c.in-Some.ensures c.type_parameters_rest.ensures

pub returns-in-None : goal.returns-in-None
returns-in-None c = on_passes _ _ _ _ _ _ c.in-None.ensures (none_read _ _ c.new.ensures _)
