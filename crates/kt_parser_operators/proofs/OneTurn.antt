-- A row of operators that makes no chain: what a turn gives is the whole, whether it goes on or ends.
use Rattle.std.proofs.Common.{◌≡◌, ℕ, List, Ok, Err, refl, ap, ◌∙◌, ◌⊎◌, inl, inr}
use Rattle.kt_tree.specs.declared.tokens.Token.{Token}
use Rattle.kt_tree.specs.declared.bodies.Expression.{Expression}
use Rattle.kt_tree.specs.Bodies.{ExpressionTree, expression_tree}
use Rattle.kt_grammar.specs.declared.context.Context.{Context}
use Rattle.kt_grammar_parsers.specs.Parsers.{Cursor, Outcome}
use Rattle.kt_grammar.specs.Readers.{lines}
use Rattle.kt_grammar.specs.StatementParser.{parsers}
use Rattle.kt_parser_steps.specs.Operators.{operator_of}
use Rattle.kt_parser_steps.specs.Steps.{turn_tree}
use Rattle.kt_parser_steps.specs.declared.loops.Turn.{Turn}
use Rattle.kt_parser_steps.specs.declared.loops.Turn.TheVariants as turn
use Rattle.kt_parser_steps.specs.declared.meanings.BinaryLevel.TheVariants as level
use Rattle.kt_parser_blocks.specs.Rules.{has_more}
use Rattle.kt_parser_operators.specs.Rules as rules
use Rattle.kt_parser_operators.proofs.SeenBehind.{seen, then_seen, attempt_if_seen}

abbrev pub whole_of : {A : Type 0} → A ⊎ A → A
whole_of (inl a) = a
whole_of (inr a) = a

module _ (n : ℕ) (at : Context) (a : ExpressionTree) (c : Cursor Token) where
  -- a comparison is what its turn gives
  compared : rules.comparison_behind n at a c ≡ seen whole_of (rules.binary_turn n at level.Comparison a c)
  compared = attempt_if_seen whole_of _ _ _ _ (λ o c1. then_seen whole_of _ _ (λ _ c2. then_seen whole_of _ _ (λ b c3. refl) ((parsers n).test at c2)) (lines c1)) (λ c1. refl) (has_more n a) (operator_of level.Comparison) c

  pub compares : (t : Turn Expression Expression) (new : Cursor Token) → rules.binary_turn n at level.Comparison a c ≡ Ok (turn_tree expression_tree expression_tree t, new) → (whole : Expression) → (t ≡ turn.More whole) ⊎ (t ≡ turn.Done whole)
      → rules.comparison_behind n at a c ≡ Ok (expression_tree whole, new)
  compares t new e whole (inl is) = compared ∙ ap (λ (z : Outcome _ _). seen whole_of z) e ∙ ap (λ (z : Turn Expression Expression). Ok (whole_of (turn_tree expression_tree expression_tree z), new)) is
  compares t new e whole (inr is) = compared ∙ ap (λ (z : Outcome _ _). seen whole_of z) e ∙ ap (λ (z : Turn Expression Expression). Ok (whole_of (turn_tree expression_tree expression_tree z), new)) is

  pub compares_not : (k : List Token) → rules.binary_turn n at level.Comparison a c ≡ Err k → rules.comparison_behind n at a c ≡ Err k
  compares_not k e = compared ∙ ap (λ (z : Outcome _ _). seen whole_of z) e
