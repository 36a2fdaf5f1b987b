use Rattle.kt_parser_steps.proofs.Choosing.{next_reads, next_passes}
use Rattle.kt_parser_steps.proofs.Optional.{so_made}
use Rattle.kt_parser_primaries.proofs.primaries.Primaries.return_rest.Goals as goal

pub returns-then-class_ahead : goal.returns-then-class_ahead
returns-then-class_ahead g c = next_reads _ _ _ _ _ _ _ _ c.if-class_ahead.ensures c.returned_value.ensures

pub returns-in_ok-return_with : goal.returns-in_ok-return_with
returns-in_ok-return_with g c = next_passes _ _ _ _ _ _ c.if-class_ahead.ensures (so_made _ _ _ c.in_ok-return_with.ensures)
