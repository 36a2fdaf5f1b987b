-- Parsers of single tokens and parts, beside those that serve tokens of any type; parsers of types.
use Rattle.std.specs.Prelude.{ℕ, zero, suc, Bool, true, false, List, [], ◌∷◌, Option, None, Some, Ok, Err}
use Rattle.kt_tree.specs.declared.tokens.Token.{Token}
use Rattle.kt_tree.specs.declared.tokens.Sign.{Sign}
use Rattle.kt_tree.specs.declared.tokens.Sign.TheVariants as sign
use Rattle.kt_tree.specs.declared.tokens.SoftKeyword.TheVariants as soft
use Rattle.kt_tree.specs.Tokens.{is_sign, is_soft_keyword, is_new_line, is_identifier}
use Rattle.kt_tree.specs.Types.{TypeTree, named, function, nullable, parenthesized, types_of}
use Rattle.kt_grammar_parsers.specs.Parsers.{
  some_levels,
  Outcome,
  Parser,
  cursor,
  further,
  ◌>>=◌,
  ◌>>◌,
  pure,
  token,
  skip,
  on,
  attempt_if,
  ahead,
  comma_list,
  maybe_comma_list,
  several,
  items,
}
use Rattle.kt_grammar.specs.Terminals.{Meaning, is_separator, name_of}

-- refuses the next token
abbrev pub refuse : {A : Type 0} → Parser Token A
refuse = λ c. Err (further c.rest c.far)

abbrev pub meant_by : {A : Type 0} → Option A → Token → List Token → List Token → Outcome Token (Token × A)
meant_by (Some a) t ts far = Ok ((t, a), cursor ts far)
meant_by None t ts far = Err (further (t ∷ ts) far)

abbrev pub meant_at : {A : Type 0} → Meaning A → List Token → List Token → Outcome Token (Token × A)
meant_at of [] far = Err (further [] far)
meant_at of (t ∷ ts) far = meant_by (of t) t ts far

-- the next token, which is to stand for something, and what it stands for
unfoldable pub meant : {A : Type 0} → Meaning A → Parser Token (Token × A)
meant of = λ c. meant_at of c.rest c.far

-- where there is room, a choice by the next token
abbrev pub on_if : {A : Type 0} → Bool → (Token → Bool) → (Token → Parser Token A) → Parser Token A → Parser Token A
on_if true test go other = on test go other
on_if false test go other = other

-- n
abbrev pub lines : Parser Token (Unit {0})
lines = skip is_new_line

abbrev pub expect : Sign → Parser Token Token
expect s = token (is_sign s)

-- what stands behind a token that may be absent
abbrev pub maybe : {A : Type 0} → (Token → Bool) → Parser Token A → Parser Token (Option A)
maybe test p = on test (λ _. p >>= (λ a. pure (Some a))) (pure None)

abbrev pub commas : {A : Type 0} → (Token → Bool) → Parser Token A → Parser Token (List A)
commas = comma_list (is_sign sign.Comma)

abbrev pub maybe_commas : {A : Type 0} → (Token → Bool) → Parser Token A → Parser Token (List A)
maybe_commas = maybe_comma_list (is_sign sign.Comma)

abbrev pub several_items : {A : Type 0} → Parser Token (Unit {0}) → Parser Token A → Parser Token (List A)
several_items lead = several lead (is_sign sign.Comma) is_new_line

abbrev pub separated : {A : Type 0} → (Token → Bool) → Parser Token A → Parser Token (List A × Token)
separated = items is_separator

-- ---- types

-- targs
abbrev pub type_arguments : Parser Token TypeTree → Parser Token (List TypeTree)
type_arguments part = expect sign.Less >> commas (is_sign sign.Greater) part

-- ID targs?
abbrev pub named_type : Bool → Parser Token TypeTree → Parser Token TypeTree
named_type deep part = token is_identifier
    >>= (λ x. attempt_if deep (type_arguments part) (λ ts. pure (named (name_of x) (types_of ts)))
    (pure (named (name_of x) (types_of []))))

-- '?'?
abbrev pub maybe_nullable : TypeTree → Parser Token TypeTree
maybe_nullable t = on (is_sign sign.Question) (λ _. pure (nullable t)) (pure t)

abbrev pub result_type : Bool → Parser Token TypeTree → List TypeTree → Parser Token TypeTree
result_type suspends part ts = part >>= (λ t. pure (function suspends (types_of ts) t))

-- '(' types ')' '->' type
abbrev pub suspend_type : Parser Token TypeTree → Parser Token TypeTree
suspend_type part = expect sign.OpenParenthesis
    >> (maybe_commas (is_sign sign.CloseParenthesis) part >>= (λ ts. expect sign.Arrow >> result_type true part ts))

-- behind types in parentheses
abbrev pub behind_types : Parser Token TypeTree → List TypeTree → Parser Token TypeTree
behind_types part (t ∷ []) =
    on (is_sign sign.Arrow) (λ _. result_type false part (t ∷ [])) (maybe_nullable (parenthesized t))
behind_types part ts = expect sign.Arrow >> result_type false part ts

-- behind '(': a function type, or a type in parentheses
abbrev pub behind_parenthesis : Parser Token TypeTree → Parser Token TypeTree
behind_parenthesis part = maybe_commas (is_sign sign.CloseParenthesis) part >>= behind_types part

abbrev pub type_over : Bool → Parser Token TypeTree → Parser Token TypeTree
type_over deep part =
    attempt_if deep (token (is_soft_keyword soft.Suspend) >> ahead (is_sign sign.OpenParenthesis))
    (λ _. suspend_type part)
    (on_if deep (is_sign sign.OpenParenthesis) (λ _. behind_parenthesis part) (named_type deep part >>= maybe_nullable))

-- types of at most so many levels
unfoldable pub type_parser : ℕ → Parser Token TypeTree
type_parser zero = refuse
type_parser (suc n) = type_over (some_levels n) (type_parser n)
