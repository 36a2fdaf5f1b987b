use Rattle.kt_parser_steps.proofs.Choosing.{looked_reads, looked_skips}
use Rattle.kt_parser_operators.proofs.operators.Operators.plain_suffix_turn.Goals as goal

pub returns-then-class_ahead_if : goal.returns-then-class_ahead_if
returns-then-class_ahead_if g c = looked_reads _ _ _ _ _ _ _ _ _ _ c.has_call-allowed.ensures c.if-class_ahead_if.ensures c.plain_call.ensures

pub returns-else-class_ahead_if : goal.returns-else-class_ahead_if
returns-else-class_ahead_if g c = looked_skips _ _ _ _ _ _ _ _ _ _ c.has_call-allowed.ensures c.if-class_ahead_if.ensures c.other_suffix_turn.ensures
