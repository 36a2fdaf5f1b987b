use Rattle.std.proofs.Common.{arith}
use Rattle.kt_parser_steps.proofs.Ways.{levels_left}
use Rattle.kt_parser_types.proofs.TypeSteps.{name_then_arguments, name_alone}
use Rattle.kt_parser_types.proofs.types.TypesBelow.behind_name.Goals as goal

pub returns-in-Ok : goal.returns-in-Ok
returns-in-Ok g c = name_then_arguments _ _ (levels_left c.args.self.now.room (omega arith)) _ _ _ _ _ c.in-Ok.ensures c.named-in-Ok.ensures

pub returns-in-Err-Refused : goal.returns-in-Err-Refused
returns-in-Err-Refused g c =
    name_alone _ _ (levels_left c.args.self.now.room (omega arith)) _ _ _ (c.in-Err-Refused.ensures {u = tt} (λ z. absurd cc)) _ c.rest-place.ensures _ c.go_to.ensures _ c.new-in-Err-Refused.ensures _ c.named-in-Err-Refused.ensures
