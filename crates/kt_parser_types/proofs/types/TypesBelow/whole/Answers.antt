use Rattle.std.proofs.Common.{arith}
use Rattle.kt_parser_steps.proofs.Ways.{levels_left, reads_from}
use Rattle.kt_parser_types.proofs.TypeSteps.{over_suspend, over_parenthesis, over_named}
use Rattle.kt_parser_types.proofs.types.TypesBelow.whole.Goals as goal

pub returns-then-suspends : goal.returns-then-suspends
returns-then-suspends g c = reads_from _ _ _ (over_suspend _ _ (levels_left c.args.self.now.room (omega arith)) _ _ c.if-suspends.ensures) _ _ c.suspending.ensures

pub returns-in-Some : goal.returns-in-Some
returns-in-Some g c = reads_from _ _ _ (over_parenthesis _ _ (levels_left c.args.self.now.room (omega arith)) _ _ c.if-suspends.ensures.0 c.if-suspends.ensures.1 _ _ c.in-Some.ensures) _ _ c.behind_parenthesis.ensures

pub returns-in-None : goal.returns-in-None
returns-in-None g c = reads_from _ _ _ (over_named _ _ (levels_left c.args.self.now.room (omega arith)) _ _ c.if-suspends.ensures.0 c.if-suspends.ensures.1 _ c.in-None.ensures) _ _ c.named_or_nullable-in-None.ensures
