use Rattle.std.proofs.Common.{refl}
use Rattle.kt_parser_steps.proofs.Choosing.{on_if_reads, on_if_passes}
use Rattle.kt_parser_blocks.proofs.below.Below.subject.Goals as goal

pub returns-in-Some : goal.returns-in-Some
returns-in-Some g c = on_if_reads _ _ _ _ _ _ _ _ _ _ _ c.is_deep.ensures c.in-Some.ensures c.subject_rest.ensures

pub returns-in-None : goal.returns-in-None
returns-in-None g c = on_if_passes _ _ _ _ _ _ _ _ c.is_deep.ensures c.in-None.ensures refl
