-- Operators are read exactly, over the operands of one level less.
use Rattle.std.proofs.Common.{
  ◌≡◌,
  ℕ,
  suc,
  ◌<◌,
  ◌⊎◌,
  Bool,
  true,
  false,
  List,
  [],
  ◌∷◌,
  ◌++◌,
  Option,
  Some,
  refl,
  sym,
  ap,
  ◌∙◌,
  inl,
  inr,
}
use Rattle.std.specs.Prelude.{nat_lt}
use Rattle.kt_base.specs.declared.refusals.Pos.{Pos}
use Rattle.kt_tree.specs.declared.tokens.Token.{Token}
use Rattle.kt_tree.specs.declared.tokens.TokenKind.{TokenKind}
use Rattle.kt_tree.specs.declared.tokens.TokenKind.TheVariants as kind
use Rattle.kt_tree.specs.declared.tokens.Sign.TheVariants as sign
use Rattle.kt_tree.specs.declared.tokens.Keyword.TheVariants as word
use Rattle.kt_tree.specs.declared.bodies.BinaryOperator.{BinaryOperator}
use Rattle.kt_tree.specs.declared.bodies.BinaryOperator.TheVariants as binary
use Rattle.kt_tree.specs.Tokens.{same_sign, same_keyword, kind_is_new_line, is_new_line, spelling}
use Rattle.kt_tree.specs.Bodies as e
use Rattle.kt_tree.specs.Bodies.{ExpressionTree}
use Rattle.kt_tree.specs.Types.{TypeTree}
use Rattle.kt_tree.specs.Levels.{levels}
use Rattle.kt_grammar_parsers.specs.Parsers.{Parser, first, ◌>>=◌, ◌>>◌, pure, attempt_if, repeat, chain}
use Rattle.kt_grammar_parsers.specs.Phrases.{IsNothing, Seq, Loop, WhereRoom}
use Rattle.kt_grammar.specs.Terminals.{
  Meaning,
  disjunction_of,
  conjunction_of,
  equality_of,
  comparison_of,
  elvis_of,
  infix_of,
  additive_of,
  multiplicative_of,
  type_check_of,
  cast_of,
}
use Rattle.kt_grammar.specs.Levels.{Phrases, place}
use Rattle.kt_grammar.specs.declared.context.Context.{Context}
use Rattle.kt_grammar.specs.Types.{IsType}
use Rattle.kt_grammar.specs.Words.{IsMeant, IsLines, IsPast}
use Rattle.kt_grammar_parsers.proofs.Optional.{seq_begins}
use Rattle.kt_grammar.specs.Expressions as x
use Rattle.kt_grammar.specs.Expressions.{
  IsPrefixed,
  IsCast,
  IsMultiplicative,
  IsAdditive,
  IsInfix,
  IsElvis,
  IsTest,
  IsComparison,
  IsEquality,
  IsConjunction,
  IsDisjunction,
}
use Rattle.kt_grammar.specs.Readers.{meant, lines, type_parser}
use Rattle.kt_grammar.specs.ExpressionParser.{
  Parsers,
  build,
  prefix_parser,
  cast_parser,
  multiplicative_parser,
  additive_parser,
  infix_parser,
  elvis_parser,
  test_parser,
  comparison_parser,
  equality_parser,
  conjunction_parser,
  disjunction_parser,
}
use Rattle.kt_grammar.proofs.types.TypesRead.{a_sign}
use Rattle.kt_grammar.proofs.parts.Sequences.{Part, Anything, Closes, then, past, made, room_part}
use Rattle.kt_grammar.proofs.parts.Choices.{past_then, turns_part, turns_stop, room_stops}
use Rattle.kt_grammar.proofs.tokens.Begins.{kind_begins_expression}
use Rattle.kt_grammar.proofs.parts.Productions.{Production, goes}
use Rattle.kt_grammar.proofs.types.TypeParts.{type_starts, type_part}
use Rattle.kt_grammar.proofs.tokens.Meanings.{
  closes_halts,
  IsOperator,
  NothingAt,
  token_of,
  meant_part,
  meant_eats,
  meant_absent,
  past_meant_part,
  past_meant_eats,
  meant_past_absent,
}

abbrev here : Pos
here = record { line = 1; column = 1 }

-- an operator: a token that stands for it, and none that ends a phrase or a line does
record Operator (A : Type 0) (of : Meaning A) : Type 0 where
  witness : Token
  value : A
  stands : of witness ≡ Some value
  alone : IsOperator of

-- an operand, where there is room for it
pub record Operand (n : ℕ) (p : Parser Token ExpressionTree) (L : ExpressionTree → List Token → List Token → Type 0) : Type 0 where
  pub read : (a : ExpressionTree) → nat_lt (levels a) (suc n) ≡ true → Part p L Anything (λ _. Closes)
  pub no_line : (a : ExpressionTree) (u rest : List Token) → L a u rest → first is_new_line (u ++ rest) ≡ false

multiplicative_operator : Operator BinaryOperator multiplicative_of
unfolding same_sign
multiplicative_operator = record { witness = a_sign sign.Times; value = binary.Times; stands = refl; alone = (λ at. refl, λ at. refl, λ at. refl, λ at. refl, λ at. refl, λ at. refl, λ at. refl, λ at. refl) }

additive_operator : Operator BinaryOperator additive_of
unfolding same_sign
additive_operator = record { witness = a_sign sign.Plus; value = binary.Plus; stands = refl; alone = (λ at. refl, λ at. refl, λ at. refl, λ at. refl, λ at. refl, λ at. refl, λ at. refl, λ at. refl) }

infix_operator : Operator BinaryOperator infix_of
infix_operator = record { witness = token_of here (kind.Identifier (97 ∷ 110 ∷ 100 ∷ [])); value = binary.And; stands = refl; alone = (λ at. refl, λ at. refl, λ at. refl, λ at. refl, λ at. refl, λ at. refl, λ at. refl, λ at. refl) }

elvis_operator : Operator BinaryOperator elvis_of
unfolding same_sign
elvis_operator = record { witness = a_sign sign.Elvis; value = binary.Elvis; stands = refl; alone = (λ at. refl, λ at. refl, λ at. refl, λ at. refl, λ at. refl, λ at. refl, λ at. refl, λ at. refl) }

equality_operator : Operator BinaryOperator equality_of
unfolding same_sign
equality_operator = record { witness = a_sign sign.Equal; value = binary.Equal; stands = refl; alone = (λ at. refl, λ at. refl, λ at. refl, λ at. refl, λ at. refl, λ at. refl, λ at. refl, λ at. refl) }

comparison_operator : Operator BinaryOperator comparison_of
unfolding same_sign
comparison_operator = record { witness = a_sign sign.Less; value = binary.Less; stands = refl; alone = (λ at. refl, λ at. refl, λ at. refl, λ at. refl, λ at. refl, λ at. refl, λ at. refl, λ at. refl) }

conjunction_operator : Operator BinaryOperator conjunction_of
unfolding same_sign
conjunction_operator = record { witness = a_sign sign.Conjunction; value = binary.Conjunction; stands = refl; alone = (λ at. refl, λ at. refl, λ at. refl, λ at. refl, λ at. refl, λ at. refl, λ at. refl, λ at. refl) }

disjunction_operator : Operator BinaryOperator disjunction_of
unfolding same_sign
disjunction_operator = record { witness = a_sign sign.Disjunction; value = binary.Disjunction; stands = refl; alone = (λ at. refl, λ at. refl, λ at. refl, λ at. refl, λ at. refl, λ at. refl, λ at. refl, λ at. refl) }

type_check_operator : Operator Bool type_check_of
unfolding same_sign same_keyword
type_check_operator = record { witness = a_sign sign.NotIs; value = true; stands = refl; alone = (λ at. refl, λ at. refl, λ at. refl, λ at. refl, λ at. refl, λ at. refl, λ at. refl, λ at. refl) }

cast_operator : Operator Bool cast_of
unfolding same_sign same_keyword
cast_operator = record { witness = a_sign sign.SafeAs; value = true; stands = refl; alone = (λ at. refl, λ at. refl, λ at. refl, λ at. refl, λ at. refl, λ at. refl, λ at. refl, λ at. refl) }

module _ (n : ℕ) (below : Parsers) (under : Phrases) (at : Context) where
  abbrev pub has_more : ExpressionTree → Bool
  has_more a = nat_lt (levels a) (suc n)

  pub record Operands : Type 0 where
    pub conjunction : Operand n (below.conjunction at) (under.conjunction at)
    pub equality : Operand n (below.equality at) (under.equality at)
    pub comparison : Operand n (below.comparison at) (under.comparison at)
    pub test : Operand n (below.test at) (under.test at)
    pub infixed : Operand n (below.infixed at) (under.infixed at)
    pub additive : Operand n (below.additive at) (under.additive at)
    pub multiplicative : Operand n (below.multiplicative at) (under.multiplicative at)
    pub cast : Operand n (below.cast at) (under.cast at)

  abbrev pub IsWhole : Parser Token ExpressionTree → (ExpressionTree → List Token → List Token → Type 0) → Type 0
  IsWhole p L = Production kind_begins_expression p L

  -- operand (operator n operand)*
  module _ {of : Meaning BinaryOperator} (o : Operator BinaryOperator of) {p q : Parser Token ExpressionTree} {First Item : ExpressionTree → List Token → List Token → Type 0} (head : IsWhole p First) (item : Operand n q Item) where
    abbrev Rest : Token × BinaryOperator → ExpressionTree → ExpressionTree ⊎ ExpressionTree → List Token → List Token → Type 0
    Rest sign a = Seq IsLines (λ _. Seq Item (λ b. IsNothing (inl (build (suc n) below at sign a b))))

    rest_part : (a : ExpressionTree) → has_more a ≡ true → (sign : Token × BinaryOperator) → Part (lines >> (q >>= (λ b. pure (inl (build (suc n) below at sign a b))))) (Rest sign a) Anything (λ _. Closes)
    rest_part a h sign = past (λ b u rest s. seq_begins is_new_line Item (λ x. IsNothing (inl (build (suc n) below at sign a x))) false item.no_line b u rest s) (then (item.read a h) (λ b. made (inl (build (suc n) below at sign a b)) (λ tail s. s)))

    chain_part : IsWhole (chain has_more p (meant of) is_new_line q (build (suc n) below at)) (x.IsChain (suc n) under at First (IsMeant of) Item)
    chain_part = goes head (turns_part has_more (meant of) (IsMeant of) (λ s a. lines >> (q >>= (λ b. pure (inl (build (suc n) below at s a b))))) Rest (meant_part of o.witness o.value o.stands (λ tail h. tt)) (meant_eats of) rest_part (λ tail h. meant_absent of o.alone tail (closes_halts tail h)))
        (λ a. a) (λ a tail h. turns_stop has_more (meant of) (IsMeant of) (λ s a. lines >> (q >>= (λ b. pure (inl (build (suc n) below at s a b))))) Rest a tail (meant_absent of o.alone tail h))

    -- behind line ends
    past_chain_part : IsWhole (chain has_more p (lines >> meant of) is_new_line q (build (suc n) below at)) (x.IsChain (suc n) under at First (IsPast (IsMeant of)) Item)
    past_chain_part = goes head (turns_part has_more (lines >> meant of) (IsPast (IsMeant of)) (λ s a. lines >> (q >>= (λ b. pure (inl (build (suc n) below at s a b))))) Rest (past_meant_part of o.witness o.value o.stands o.alone.0) (past_meant_eats of) rest_part (λ tail h. meant_past_absent of o.alone tail (closes_halts tail h)))
        (λ a. a) (λ a tail h. turns_stop has_more (lines >> meant of) (IsPast (IsMeant of)) (λ s a. lines >> (q >>= (λ b. pure (inl (build (suc n) below at s a b))))) Rest a tail (meant_past_absent of o.alone tail h))

  -- operand (operator n part)?
  module _ {O A : Type 0} {of : Meaning O} (o : Operator O of) {p : Parser Token ExpressionTree} {First : ExpressionTree → List Token → List Token → Type 0} (head : IsWhole p First) (q : Parser Token A) (Item : A → List Token → List Token → Type 0)
      (item : (a : ExpressionTree) → has_more a ≡ true → Part q Item Anything (λ _. Closes)) (no_line : (a : A) (u rest : List Token) → Item a u rest → first is_new_line (u ++ rest) ≡ false) (join : Token × O → ExpressionTree → A → ExpressionTree) where
    once_part : IsWhole (p >>= (λ a. attempt_if (has_more a) (meant of) (λ s. lines >> (q >>= (λ b. pure (join s a b)))) (pure a))) (Seq First (λ a. WhereRoom (has_more a) (IsMeant of) (λ s. Seq (IsPast Item) (λ b. IsNothing (join s a b))) (IsNothing a)))
    once_part = goes head (λ a. room_part {D = Anything} (has_more a) (meant_part of o.witness o.value o.stands (λ tail h. tt)) (λ h s. past_then no_line (item a h) (λ b. made (join s a b) (λ tail h. h))) (made a (λ tail h. h)) (λ tail h. meant_absent of o.alone tail (closes_halts tail h)))
        (λ a. a) (λ a tail h. room_stops (has_more a) a tail (meant_absent of o.alone tail h))

  abbrev type_no_line : (t : TypeTree) (u rest : List Token) → IsType (suc n) t u rest → first is_new_line (u ++ rest) ≡ false
  type_no_line = type_starts kind_is_new_line refl (λ name. refl) (suc n)

  module _ (operands : Operands) (prefixed : IsWhole (prefix_parser (suc n) below at) (IsPrefixed (suc n) under at)) where
    pub cast_part : IsWhole (cast_parser (suc n) below at) (IsCast (suc n) under at)
    cast_part = goes prefixed (turns_part has_more (meant cast_of) (IsMeant cast_of) (λ s a. lines >> (type_parser (suc n) >>= (λ t. pure (inl (e.cast (place a) a s.1 t))))) (λ s a. Seq (IsPast (IsType (suc n))) (λ t. IsNothing (inl (e.cast (place a) a s.1 t))))
        (meant_part cast_of cast_operator.witness cast_operator.value cast_operator.stands (λ tail h. tt)) (meant_eats cast_of) (λ a h s. past_then type_no_line (type_part n) (λ t. made (inl (e.cast (place a) a s.1 t)) (λ tail h. h))) (λ tail h. meant_absent cast_of cast_operator.alone tail (closes_halts tail h)))
        (λ a. a) (λ a tail h. turns_stop has_more (meant cast_of) (IsMeant cast_of) (λ s a. lines >> (type_parser (suc n) >>= (λ t. pure (inl (e.cast (place a) a s.1 t))))) (λ s a. Seq (IsPast (IsType (suc n))) (λ t. IsNothing (inl (e.cast (place a) a s.1 t)))) a tail (meant_absent cast_of cast_operator.alone tail h))

    pub multiplicative_part : IsWhole (multiplicative_parser (suc n) below at) (IsMultiplicative (suc n) under at)
    multiplicative_part = chain_part multiplicative_operator cast_part operands.cast

    pub additive_part : IsWhole (additive_parser (suc n) below at) (IsAdditive (suc n) under at)
    additive_part = chain_part additive_operator multiplicative_part operands.multiplicative

    pub infix_part : IsWhole (infix_parser (suc n) below at) (IsInfix (suc n) under at)
    infix_part = chain_part infix_operator additive_part operands.additive

    pub elvis_part : IsWhole (elvis_parser (suc n) below at) (IsElvis (suc n) under at)
    elvis_part = past_chain_part elvis_operator infix_part operands.infixed

    pub test_part : IsWhole (test_parser (suc n) below at) (IsTest (suc n) under at)
    test_part = once_part type_check_operator elvis_part (type_parser (suc n)) (IsType (suc n)) (λ a h. type_part n) type_no_line (λ negated a t. e.type_check (place a) a negated.1 t)

    pub comparison_part : IsWhole (comparison_parser (suc n) below at) (IsComparison (suc n) under at)
    comparison_part = once_part comparison_operator test_part (below.test at) (under.test at) operands.test.read operands.test.no_line (build (suc n) below at)

    pub equality_part : IsWhole (equality_parser (suc n) below at) (IsEquality (suc n) under at)
    equality_part = chain_part equality_operator comparison_part operands.comparison

    pub conjunction_part : IsWhole (conjunction_parser (suc n) below at) (IsConjunction (suc n) under at)
    conjunction_part = past_chain_part conjunction_operator equality_part operands.equality

    pub disjunction_part : IsWhole (disjunction_parser (suc n) below at) (IsDisjunction (suc n) under at)
    disjunction_part = past_chain_part disjunction_operator conjunction_part operands.conjunction
