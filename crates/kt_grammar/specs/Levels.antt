-- What a production may hold: the phrases that have one level less.
use Rattle.std.specs.Prelude.{ℕ, Bool, true, false, List}
use Rattle.kt_base.specs.declared.refusals.Pos.{Pos}
use Rattle.kt_tree.specs.declared.tokens.Token.{Token}
use Rattle.kt_tree.specs.Bodies.{
  ExpressionTree,
  StatementTree,
  BodyTree,
  PartTree,
  ParameterTree,
  EntryTree,
  ConditionTree,
  CatchTree,
}
use Rattle.kt_tree.specs.Bodies as e
use Rattle.kt_grammar.specs.declared.context.Context.{Context}
use Rattle.kt_grammar.specs.Words.{Empty}

-- phrases of at most so many levels, by where they stand
pub record Phrases : Type 1 where
  pub levels : ℕ
  pub disjunction : Context → ExpressionTree → List Token → List Token → Type 0
  pub conjunction : Context → ExpressionTree → List Token → List Token → Type 0
  pub equality : Context → ExpressionTree → List Token → List Token → Type 0
  pub comparison : Context → ExpressionTree → List Token → List Token → Type 0
  pub test : Context → ExpressionTree → List Token → List Token → Type 0
  pub elvis : Context → ExpressionTree → List Token → List Token → Type 0
  pub infixed : Context → ExpressionTree → List Token → List Token → Type 0
  pub additive : Context → ExpressionTree → List Token → List Token → Type 0
  pub multiplicative : Context → ExpressionTree → List Token → List Token → Type 0
  pub cast : Context → ExpressionTree → List Token → List Token → Type 0
  pub prefix : Context → ExpressionTree → List Token → List Token → Type 0
  pub lambda : Context → ExpressionTree → List Token → List Token → Type 0
  pub statement : Context → StatementTree → List Token → List Token → Type 0
  pub body : Context → BodyTree → List Token → List Token → Type 0
  pub part : Context → PartTree → List Token → List Token → Type 0
  pub parameter : ParameterTree → List Token → List Token → Type 0
  -- of a `when` that has a subject, or has none
  pub entry : Context → Bool → EntryTree → List Token → List Token → Type 0
  pub condition : Context → Bool → ConditionTree → List Token → List Token → Type 0
  -- behind `catch`, `(`, the name and `:`
  pub catch : Context → List ℕ → CatchTree → List Token → List Token → Type 0

-- no phrase has no level
abbrev pub none : Phrases
none = record {
  levels = 0;
  disjunction = λ _. Empty;
  conjunction = λ _. Empty;
  equality = λ _. Empty;
  comparison = λ _. Empty;
  test = λ _. Empty;
  elvis = λ _. Empty;
  infixed = λ _. Empty;
  additive = λ _. Empty;
  multiplicative = λ _. Empty;
  cast = λ _. Empty;
  prefix = λ _. Empty;
  lambda = λ _. Empty;
  statement = λ _. Empty;
  body = λ _. Empty;
  part = λ _. Empty;
  parameter = Empty;
  entry = λ _ _. Empty;
  condition = λ _ _. Empty;
  catch = λ _ _. Empty;
}

-- the place of the first token
abbrev pub place : ExpressionTree → Pos
place (e.literal at l) = at
place (e.template at ps) = at
place (e.name at x) = at
place (e.this at) = at
place (e.parenthesized at a) = at
place (e.lambda at l) = at
place (e.prefix at o a) = at
place (e.binary at o a b) = at
place (e.type_check at a not t) = at
place (e.cast at a safe t) = at
place (e.not_null at a) = at
place (e.member at a safe x) = at
place (e.index at a b) = at
place (e.call at f start ts es) = at
place (e.if_else at a b c) = at
place (e.when at a es) = at
place (e.try_catch at b cs f) = at
place (e.throw at a) = at
place (e.return at a) = at
place (e.break at) = at
place (e.continue at) = at

-- a name, a member behind `.`, or an element
abbrev pub is_target : ExpressionTree → Bool
is_target (e.name at x) = true
is_target (e.member at a false x) = true
is_target (e.index at a b) = true
is_target _ = false

-- a name stands last
abbrev pub ends_in_name : ExpressionTree → Bool
ends_in_name (e.name at x) = true
ends_in_name (e.member at a safe x) = true
ends_in_name _ = false
