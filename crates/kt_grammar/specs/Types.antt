-- The grammar of types.
use Rattle.std.specs.Prelude.{ℕ, zero, suc, Bool, true, false, List, [], ◌∷◌}
use Rattle.kt_tree.specs.declared.tokens.Token.{Token}
use Rattle.kt_tree.specs.declared.tokens.Sign.TheVariants as sign
use Rattle.kt_tree.specs.declared.tokens.SoftKeyword.TheVariants as soft
use Rattle.kt_tree.specs.Tokens.{is_sign}
use Rattle.kt_tree.specs.Types.{TypeTree, named, function, nullable, parenthesized, types_of}
use Rattle.kt_grammar_parsers.specs.Parsers.{some_levels}
use Rattle.kt_grammar_parsers.specs.Phrases.{Seq, Either, Where, WhereRoom, IsAhead}
use Rattle.kt_grammar.specs.Words.{Empty, Gives, IsSign, IsSoftKeyword, IsIdentifier, CommaList, MaybeCommaList}
use Rattle.kt_grammar.specs.Terminals.{name_of}

-- over the types that have one level less
module _ (Part : TypeTree → List Token → List Token → Type 0) where
  -- targs : '<' type (',' type)* '>'
  abbrev pub IsTypeArguments : List TypeTree → List Token → List Token → Type 0
  IsTypeArguments = Seq (IsSign sign.Less) (λ _. CommaList (is_sign sign.Greater) Part)

  -- ID targs?
  -- Where tokens read as type arguments, they are read so.
  abbrev pub IsNamedType : TypeTree → List Token → List Token → Type 0
  IsNamedType = Seq IsIdentifier
      (λ x. Where IsTypeArguments (λ ts. Gives (named (name_of x) (types_of ts)))
      (Gives (named (name_of x) (types_of []))))

  -- '?'?
  abbrev pub IsMaybeNullable : TypeTree → TypeTree → List Token → List Token → Type 0
  IsMaybeNullable t = Where (IsSign sign.Question) (λ _. Gives (nullable t)) (Gives t)

  -- the result type of a function type
  abbrev pub IsResult : Bool → List TypeTree → TypeTree → List Token → List Token → Type 0
  IsResult suspends ts = Seq Part (λ t. Gives (function suspends (types_of ts) t))

  -- '(' (type (',' type)*)? ')' '->' type, behind 'suspend'
  abbrev pub IsSuspendType : TypeTree → List Token → List Token → Type 0
  IsSuspendType = Seq (IsSign sign.OpenParenthesis)
      (λ _. Seq (MaybeCommaList (is_sign sign.CloseParenthesis) Part)
      (λ ts. Seq (IsSign sign.Arrow) (λ _. IsResult true ts)))

  -- '->' type | '?'?, behind types in parentheses
  -- One type alone is a type in parentheses where no `->` follows.
  abbrev pub IsBehindTypes : List TypeTree → TypeTree → List Token → List Token → Type 0
  IsBehindTypes (t ∷ []) = Where (IsSign sign.Arrow) (λ _. IsResult false (t ∷ [])) (IsMaybeNullable (parenthesized t))
  IsBehindTypes ts = Seq (IsSign sign.Arrow) (λ _. IsResult false ts)

  -- '(' (type (',' type)*)? ')' '->' type | '(' type ')' '?'?
  abbrev pub IsInParentheses : TypeTree → List Token → List Token → Type 0
  IsInParentheses = Seq (IsSign sign.OpenParenthesis)
      (λ _. Seq (MaybeCommaList (is_sign sign.CloseParenthesis) Part) IsBehindTypes)

  -- 'suspend', where '(' follows: it is no name then
  abbrev pub IsSuspend : Unit {0} → List Token → List Token → Type 0
  IsSuspend = Seq (IsSoftKeyword soft.Suspend) (λ _. IsAhead (is_sign sign.OpenParenthesis))

  -- type : atom '?'?      atom : 'suspend'? '(' (type (',' type)*)? ')' '->' type | ID targs? | '(' type ')'
  -- A function type takes no `?` of its own.
  abbrev pub IsTypeOver : Bool → TypeTree → List Token → List Token → Type 0
  IsTypeOver deep = WhereRoom deep IsSuspend (λ _. IsSuspendType)
      (Either IsInParentheses (Seq IsNamedType IsMaybeNullable))

-- types of at most so many levels
unfoldable pub IsType : ℕ → TypeTree → List Token → List Token → Type 0
IsType zero = Empty
IsType (suc n) = IsTypeOver (IsType n) (some_levels n)
