use Rattle.std.proofs.Common.{rules, map}
use Rattle.kt_tree.specs.Types.{type_tree}
use Rattle.kt_tree.specs.Bodies.{ExpressionTree}
use Rattle.kt_parser_steps.proofs.Choosing.{attempt_if_reads, attempt_if_skips}
use Rattle.kt_parser_steps.proofs.Optional.{found_is}
use Rattle.kt_parser_operators.specs.Rules.{type_arguments_of_call, call_rest, plain_suffix_turn}
use Rattle.kt_parser_operators.proofs.BehindValue.{tried_is, behind_same}
use Rattle.kt_parser_operators.proofs.operators.Operators.suffix_turn.Goals as goal

pub returns-in-Some : goal.returns-in-Some
returns-in-Some g c = attempt_if_reads _ _ _ _ _ _ _ _ _ _ _ _ c.ends_in_name.ensures (found_is _ _ _ _ _ _ _ (tried_is _ _ _ _ _ _ (c.attempt_if-types.ensures (type_arguments_of_call c.args.self.now.below.room) (λ old new r e. search rules)) _ c.in_ok-value.ensures.1) c.in-Some.is)
    (behind_same _ (λ (z : ExpressionTree). call_rest c.args.self.now.below.room c.args.at z (map type_tree c.in-Some.types, c.in-Some.start)) _ _ c.in_ok-value.ensures.0 _ _ _ c.call_rest.ensures)

pub returns-in-None : goal.returns-in-None
returns-in-None g c = attempt_if_skips _ _ _ _ _ _ _ _ _ _ _ c.ends_in_name.ensures (found_is _ _ _ _ _ _ _ (tried_is _ _ _ _ _ _ (c.attempt_if-types.ensures (type_arguments_of_call c.args.self.now.below.room) (λ old new r e. search rules)) _ c.in_ok-value.ensures.1) c.in-None.is)
    (behind_same _ (plain_suffix_turn c.args.self.now.below.room c.args.at) _ _ c.in_ok-value.ensures.0 _ _ _ c.plain_suffix_turn.ensures)
