-- A type of the grammar has as many levels as it may have.
use Rattle.std.proofs.Common.{
  ◌≡◌,
  ℕ,
  zero,
  suc,
  ◌≤◌,
  Bool,
  true,
  false,
  List,
  [],
  ◌∷◌,
  Option,
  None,
  Some,
  arith,
  inl,
  inr,
}
use Rattle.kt_tree.specs.declared.tokens.Token.{Token}
use Rattle.kt_tree.specs.Types.{TypeTree, named, function, nullable, parenthesized, types_of}
use Rattle.kt_tree.specs.Levels.{type_levels, types_levels, maybe_type_levels}
use Rattle.kt_grammar_parsers.specs.Parsers.{some_levels}
use Rattle.kt_grammar.specs.Types.{
  IsType,
  IsTypeOver,
  IsTypeArguments,
  IsNamedType,
  IsMaybeNullable,
  IsResult,
  IsSuspendType,
  IsBehindTypes,
  IsInParentheses,
}
use Rattle.kt_grammar.proofs.levels.Holding.{
  Each,
  All,
  Perhaps,
  each_gives,
  each_either,
  each_seq,
  each_then,
  each_where,
  each_room,
  each_comma_list,
  each_maybe_comma_list,
  each_maybe,
  each_empty,
}

-- a type has at most so many levels
abbrev pub TypeFits : ℕ → TypeTree → Type 0
TypeFits n t = type_levels t ≤ n

pub types_fit : (n : ℕ) (ts : List TypeTree) → All (TypeFits n) ts → types_levels (types_of ts) ≤ n
types_fit n [] all = omega arith
types_fit n (t ∷ ts) all = let h = types_fit n ts all.1 in omega (arith, all.0, h)

pub maybe_type_fits : (n : ℕ) (t : Option TypeTree) → Perhaps (TypeFits n) t → maybe_type_levels t ≤ n
maybe_type_fits n None h = omega arith
maybe_type_fits n (Some t) h = h

module _ (n : ℕ) (Part : TypeTree → List Token → List Token → Type 0) (part : Each Part (TypeFits n)) where
  pub arguments_fit : Each (IsTypeArguments Part) (All (TypeFits n))
  arguments_fit = each_then (λ _. each_comma_list (TypeFits n) part)

  pub named_fits : Each (IsNamedType Part) (TypeFits (suc n))
  named_fits = each_then (λ x. each_where (each_seq arguments_fit (λ ts h. each_gives (let k = types_fit n ts h in omega (arith, k)))) (each_gives (omega arith)))

  nullable_fits : (t : TypeTree) → TypeFits (suc n) t → Each (IsMaybeNullable Part t) (TypeFits (suc n))
  nullable_fits t h = each_where (each_then (λ _. each_gives h)) (each_gives h)

  result_fits : (suspends : Bool) (ts : List TypeTree) → All (TypeFits n) ts → Each (IsResult Part suspends ts) (TypeFits (suc n))
  result_fits suspends ts h = each_seq part (λ t k. each_gives (let j = types_fit n ts h in omega (arith, k, j)))

  behind_fits : (ts : List TypeTree) → All (TypeFits n) ts → Each (IsBehindTypes Part ts) (TypeFits (suc n))
  behind_fits [] h = each_then (λ _. result_fits false [] h)
  behind_fits (t ∷ []) h = each_where (each_then (λ _. result_fits false (t ∷ []) h)) (nullable_fits (parenthesized t) (omega (arith, h.0)))
  behind_fits (t ∷ s ∷ ts) h = each_then (λ _. result_fits false (t ∷ s ∷ ts) h)

  type_over_fits : (deep : Bool) → Each (IsTypeOver Part deep) (TypeFits (suc n))
  type_over_fits deep = each_room deep (λ _. each_then (λ _. each_then (λ _. each_seq (each_maybe_comma_list (TypeFits n) part) (λ ts h. each_then (λ _. result_fits true ts h)))))
      (each_either (each_then (λ _. each_seq (each_maybe_comma_list (TypeFits n) part) behind_fits)) (each_seq named_fits nullable_fits))

pub type_fits : (n : ℕ) → Each (IsType n) (TypeFits n)
unfolding IsType
type_fits zero = each_empty
type_fits (suc n) = type_over_fits n (IsType n) (type_fits n) (some_levels n)
