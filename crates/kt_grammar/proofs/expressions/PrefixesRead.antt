-- Prefixes are read exactly, over suffixes; and there is no operand where no level is left.
use Rattle.std.proofs.Common.{
  ◌≡◌,
  ℕ,
  zero,
  suc,
  ◌<◌,
  Bool,
  true,
  false,
  List,
  [],
  ◌∷◌,
  ◌++◌,
  Option,
  None,
  Some,
  refl,
  sym,
  ap,
  subst,
  ◌∙◌,
  inl,
  inr,
  ◌⊎◌,
  arith,
  ltb-true,
}
use Rattle.std.specs.Prelude.{nat_lt}
use Rattle.kt_tree.specs.declared.tokens.Token.{Token}
use Rattle.kt_tree.specs.declared.tokens.TokenKind.{TokenKind}
use Rattle.kt_tree.specs.declared.tokens.TokenKind.TheVariants as kind
use Rattle.kt_tree.specs.declared.tokens.Sign.TheVariants as sign
use Rattle.kt_tree.specs.declared.bodies.PrefixOperator.{PrefixOperator}
use Rattle.kt_tree.specs.declared.bodies.PrefixOperator.TheVariants as prefix
use Rattle.kt_tree.specs.Tokens.{same_sign, is_sign}
use Rattle.kt_tree.specs.Bodies as e
use Rattle.kt_tree.specs.Bodies.{ExpressionTree}
use Rattle.kt_tree.specs.Levels.{levels}
use Rattle.kt_grammar_parsers.specs.Parsers.{Parser, first, some_levels, ◌>>=◌, pure, attempt, attempt_if}
use Rattle.kt_grammar_parsers.specs.Phrases.{IsNothing, Seq, Either, NotReads}
use Rattle.kt_grammar.specs.Terminals.{prefix_of, means, nothing}
use Rattle.kt_grammar.specs.Words.{IsMeant}
use Rattle.kt_grammar.specs.Levels.{Phrases}
use Rattle.kt_grammar.specs.declared.context.Context.{Context}
use Rattle.kt_grammar.specs.Expressions.{IsPostfix, IsPrefixed}
use Rattle.kt_grammar.specs.Readers.{meant}
use Rattle.kt_grammar.specs.ExpressionParser.{Parsers, postfix, prefix_parser}
use Rattle.kt_grammar_parsers.proofs.Steps.{truth}
use Rattle.kt_grammar.proofs.types.TypesRead.{a_sign}
use Rattle.kt_grammar.proofs.tokens.Closing.{kind_sign}
use Rattle.kt_grammar.proofs.parts.Sequences.{Part, Anything, Closes, then, made}
use Rattle.kt_grammar.proofs.parts.Choices.{either_part, other_part, attempt_if_part}
use Rattle.kt_grammar.proofs.tokens.Begins.{
  of_kind,
  Begins,
  kind_begins_expression,
  first_of_front,
  first_yes,
  seq_begins_with,
  either_begins_with,
}
use Rattle.kt_grammar.proofs.parts.Below.{Halts, IsExpressionRead}
use Rattle.kt_grammar.proofs.tokens.Meanings.{meant_part}
use Rattle.kt_grammar.proofs.tokens.Distinct.{no_sign, means_none, means_some, no_meaning}
use Rattle.kt_grammar.proofs.parts.Productions.{Production, as_part, from_read}

prefix_sign : (t : Token) (o : PrefixOperator) → prefix_of t ≡ Some o → kind_begins_expression t.kind ≡ true
prefix_sign t o h = elim (means_some (is_sign sign.Minus) prefix.Negate (means (is_sign sign.Not) prefix.Not nothing) t o h) [
  | inl minus ↦ ap kind_begins_expression (kind_sign sign.Minus t.kind minus)
  | inr more ↦ elim (means_some (is_sign sign.Not) prefix.Not nothing t o more) [ inl bang ↦ ap kind_begins_expression (kind_sign sign.Not t.kind bang) | inr none ↦ absurd (let i : None ≡ Some o = none in cc) ]
]

module _ (room : ℕ) (below : Parsers) (under : Phrases) (at : Context) (left : Bool) (R : IsExpressionRead left (below.prefix at) (under.prefix at) kind_begins_expression)
    (test : TokenKind → Bool) (no-minus : test (kind.Sign sign.Minus) ≡ false) (no-bang : test (kind.Sign sign.Not) ≡ false) (wide : (k : TokenKind) → test k ≡ true → kind_begins_expression k ≡ true) (P : Production test (postfix room below at) (IsPostfix room under at)) where
  abbrev IsOperated : ExpressionTree → List Token → List Token → Type 0
  IsOperated = Seq (IsMeant prefix_of) (λ o. Seq (under.prefix at) (λ a. IsNothing (e.prefix o.0.pos o.1 a)))

  abbrev operated : Token × PrefixOperator → Parser Token ExpressionTree
  operated o = below.prefix at >>= (λ a. pure (e.prefix o.0.pos o.1 a))

  no_prefix : (a : ExpressionTree) (u rest : List Token) → IsPostfix room under at a u rest → NotReads (IsMeant prefix_of) (u ++ rest)
  no_prefix a u rest l = no_meaning prefix_of test (λ t h. means_none (is_sign sign.Minus) prefix.Negate (means (is_sign sign.Not) prefix.Not nothing) t (no_sign test sign.Minus no-minus t h) (means_none (is_sign sign.Not) prefix.Not nothing t (no_sign test sign.Not no-bang t h) refl))
      (u ++ rest) (first_of_front (of_kind test) u rest (P.begins a u rest l))

  operator_part : Part (meant prefix_of) (IsMeant prefix_of) Anything (λ _. Anything)
  unfolding same_sign
  operator_part = meant_part prefix_of (a_sign sign.Minus) prefix.Negate refl (λ tail h. tt)

  some_prefix : left ≡ true → Part (attempt (meant prefix_of) operated (postfix room below at)) (IsPrefixed room under at) Anything (λ _. Closes)
  some_prefix h = either_part operator_part (λ o. then (from_read R h) (λ a. made (e.prefix o.0.pos o.1 a) (λ tail c. c))) (as_part P) no_prefix

  no_operand : left ≡ false → (a : ExpressionTree) (u rest : List Token) → IsOperated a u rest → ⊥
  no_operand h a u rest s = R.none h s.phrase'.value s.phrase'.front (s.phrase'.back ++ rest) s.phrase'.phrase

  operated_begins : Begins kind_begins_expression IsOperated
  operated_begins = seq_begins_with kind_begins_expression (λ found u rest l. ap (first (of_kind kind_begins_expression)) l.one ∙ prefix_sign found.0 found.1 l.means)

  -- where the parser asks whether a level is left
  pub prefixed : Production kind_begins_expression (attempt_if left (meant prefix_of) operated (postfix room below at)) (IsPrefixed room under at)
  prefixed = record {
    correct = (attempt_if_part left (meant prefix_of) operated (postfix room below at) some_prefix (λ h. other_part (no_operand h) (as_part P))).correct;
    phrase = record { whole = P.phrase.whole; tokens = P.phrase.tokens; phrase = λ tail h. inr (P.phrase.phrase tail h) };
    name = P.name;
    begins = either_begins_with kind_begins_expression operated_begins (λ a u rest l. first_yes (of_kind test) (of_kind kind_begins_expression) u (λ t h. wide t.kind h) (P.begins a u rest l));
  }

-- ---- operands, where there is room for them

-- a tree has a level
some_level : (a : ExpressionTree) → levels a ≡ 0 → ⊥
some_level (e.literal at l) h = omega (arith, h)
some_level (e.template at ps) h = omega (arith, h)
some_level (e.name at x) h = omega (arith, h)
some_level (e.this at) h = omega (arith, h)
some_level (e.parenthesized at a) h = omega (arith, h)
some_level (e.lambda at l) h = omega (arith, h)
some_level (e.prefix at o a) h = omega (arith, h)
some_level (e.binary at o a b) h = omega (arith, h)
some_level (e.type_check at a negated t) h = omega (arith, h)
some_level (e.cast at a safe t) h = omega (arith, h)
some_level (e.not_null at a) h = omega (arith, h)
some_level (e.member at a safe x) h = omega (arith, h)
some_level (e.index at a b) h = omega (arith, h)
some_level (e.call at f start ts es) h = omega (arith, h)
some_level (e.if_else at a b c) h = omega (arith, h)
some_level (e.when at a es) h = omega (arith, h)
some_level (e.try_catch at b cs f) h = omega (arith, h)
some_level (e.throw at a) h = omega (arith, h)
some_level (e.return at a) h = omega (arith, h)
some_level (e.break at) h = omega (arith, h)
some_level (e.continue at) h = omega (arith, h)

pub room_left : (n : ℕ) (a : ExpressionTree) → nat_lt (levels a) (suc n) ≡ true → some_levels n ≡ true
room_left zero a h = absurd (some_level a (omega (arith, ltb-true (levels a) 1 h)))
room_left (suc n) a h = refl
