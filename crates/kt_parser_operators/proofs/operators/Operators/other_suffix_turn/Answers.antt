use Rattle.std.proofs.Common.{Bool, Ok, inl, ap, sym}
use Rattle.kt_tree.specs.Bodies.{ExpressionTree, expression_tree}
use Rattle.kt_parser_steps.proofs.Choosing.{on_if_gives, on_if_reads, on_if_skips}
use Rattle.kt_parser_steps.proofs.Ways.{reads_from}
use Rattle.kt_parser_operators.specs.Rules.{member_turn}
use Rattle.kt_parser_operators.proofs.operators.Operators.other_suffix_turn.Goals as goal

pub returns-in_ok-not_null-in-Some : goal.returns-in_ok-not_null-in-Some
returns-in_ok-not_null-in-Some g c = on_if_gives _ _ _ _ _ _ _ _ _ c.has_more-allowed.ensures c.in-Some.ensures (ap (λ (z : ExpressionTree). Ok (inl z, c.sign_if.new.tokens)) (sym c.in_ok-not_null-in-Some.ensures))

pub returns-in-Some-sign_if : goal.returns-in-Some-sign_if
returns-in-Some-sign_if g c = on_if_skips _ _ _ _ _ _ _ _ _ _ c.has_more-allowed.ensures c.in-None.ensures (on_if_reads _ _ _ _ _ _ _ _ _ _ _ c.has_more-allowed.ensures c.in-Some-sign_if.ensures c.element_rest.ensures)

pub returns-in-None-sign_if : goal.returns-in-None-sign_if
returns-in-None-sign_if g c = on_if_skips _ _ _ _ _ _ _ _ _ _ c.has_more-allowed.ensures c.in-None.ensures (on_if_skips _ _ _ _ _ _ _ _ _ _ c.has_more-allowed.ensures c.in-None-sign_if.ensures
    (reads_from _ _ _ (ap (λ (b : Bool). member_turn b (expression_tree c.args.value) c.sign_if-in-None.new.tokens) (sym c.has_more-allowed.ensures)) _ _ c.member_turn.ensures))
