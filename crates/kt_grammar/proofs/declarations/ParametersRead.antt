-- Type parameters, parameters with their types, and the parameters of a constructor are read exactly.
use Rattle.std.proofs.Common.{◌≡◌, Bool, true, false, List, [], ◌∷◌, ◌++◌, None, refl, ap, ◌∙◌, inl, inr, Some}
use Rattle.kt_tree.specs.declared.tokens.Token.{Token}
use Rattle.kt_tree.specs.declared.tokens.TokenKind.{TokenKind}
use Rattle.kt_tree.specs.declared.tokens.TokenKind.TheVariants as kind
use Rattle.kt_tree.specs.declared.tokens.Sign.TheVariants as sign
use Rattle.kt_tree.specs.declared.tokens.Keyword.TheVariants as word
use Rattle.kt_tree.specs.declared.declarations.ConstructorParameterKind.{ConstructorParameterKind}
use Rattle.kt_tree.specs.declared.declarations.ConstructorParameterKind.TheVariants as parameter
use Rattle.kt_tree.specs.Tokens.{
  same_sign,
  same_keyword,
  kind_is_sign,
  kind_is_identifier,
  is_sign,
  is_identifier,
  is_keyword,
}
use Rattle.kt_grammar_parsers.specs.Parsers.{Parser, first, comma_list, ◌>>=◌, attempt, pure, token}
use Rattle.kt_grammar_parsers.specs.Phrases.{IsToken, CommaList, FirstOf, IsNothing, Seq}
use Rattle.kt_grammar.specs.Terminals.{name_of, means, nothing}
use Rattle.kt_grammar.specs.Words.{IsMeant, MaybeCommaList}
use Rattle.kt_grammar.specs.Declarations.{
  IsTypeParameter,
  IsTypeParameters,
  IsTypedParameter,
  IsConstructorParameter,
  IsConstructor,
  kind_of,
}
use Rattle.kt_grammar.specs.Readers.{meant, maybe_commas}
use Rattle.kt_grammar.specs.DeclarationParser.{
  type_parameter,
  type_parameters,
  typed_parameter,
  constructor_parameter,
  constructor_parameters,
}
use Rattle.kt_grammar.proofs.tokens.Apart.{signs_apart}
use Rattle.kt_grammar_parsers.proofs.Forms.{comma_list_correct, comma_list_phrase}
use Rattle.kt_grammar.proofs.types.TypesRead.{a_sign, a_name}
use Rattle.kt_grammar.proofs.parts.Sequences.{Part, Anything, part_of, phrase_of, then, made, where_part, any_part}
use Rattle.kt_grammar.proofs.tokens.Begins.{of_kind, Begins, seq_begins_with, first_yes}
use Rattle.kt_grammar.proofs.tokens.Meanings.{meant_part}
use Rattle.kt_grammar.proofs.parts.Optionals.{on_where_part, maybe_part}
use Rattle.kt_grammar.proofs.tokens.Distinct.{no_meaning, kind_keyword, means_none, means_some, no_keyword}
use Rattle.kt_grammar.proofs.tokens.Witnesses.{a_keyword, sign_is, sign_then, name_begins, name_part}
use Rattle.kt_grammar.proofs.tokens.Following.{
  Next,
  EndsType,
  at_sign_no,
  no_colon,
  stops_part,
  goes_on_type,
  most_type_part,
}
use Rattle.kt_grammar.proofs.parts.Enclosed.{as_read, in_parentheses_part}

-- a name, and what goes on with it
pub name_then : {B : Type 0} {go : Token → Parser Token B} {M : Token → B → List Token → List Token → Type 0} {F : List Token → Type 0} {N : B → List Token → Type 0} → ((tail : List Token) → F (a_name ∷ tail)) → ((t : Token) → Part (go t) (M t) Anything N) → Part (token is_identifier >>= go) (Seq (IsToken is_identifier) M) F N
name_then asked Q = then (name_part asked) Q

-- ---- type parameters

no_comma : (t : Token) → is_sign sign.Greater t ≡ true → is_sign sign.Comma t ≡ false
unfolding same_sign
no_comma = signs_apart sign.Greater sign.Comma refl

at_greater : (tail : List Token) → Next (kind_is_sign sign.Greater) tail → EndsType tail
at_greater = at_sign_no sign.Greater goes_on_type refl

-- tparam : ID (':' type)?
type_parameter_part : Part type_parameter IsTypeParameter Anything (λ _. EndsType)
type_parameter_part = name_then (λ tail. tt) (λ x. any_part (then (maybe_part (is_sign sign.Colon) (a_sign sign.Colon) (sign_is sign.Colon) most_type_part no_colon) (λ t. made (record { name = name_of x; bound = t }) (λ tail h. h))))

type_parameter_list_part : {Stop : List Token → Type 0} → Part (comma_list (is_sign sign.Comma) (is_sign sign.Greater) type_parameter) (CommaList (is_sign sign.Comma) (is_sign sign.Greater) IsTypeParameter) Anything (λ _. Stop)
type_parameter_list_part {Stop} =
    let P = type_parameter_part in
    part_of (comma_list_correct (is_sign sign.Comma) (is_sign sign.Greater) (a_sign sign.Comma) (a_sign sign.Greater) (sign_is sign.Comma) (sign_is sign.Greater) no_comma type_parameter IsTypeParameter (λ _. EndsType) P.correct (phrase_of P) (λ a. at_greater) (λ _. Stop))
    (comma_list_phrase (is_sign sign.Comma) (is_sign sign.Greater) (a_sign sign.Comma) (a_sign sign.Greater) (sign_is sign.Comma) (sign_is sign.Greater) no_comma type_parameter IsTypeParameter (λ _. EndsType) P.correct (phrase_of P) (λ a. at_greater) (λ _. Stop))

-- tparams?, where no `<` follows
pub type_parameters_part : {Stop : List Token → Type 0} → ((tail : List Token) → Stop tail → first (is_sign sign.Less) tail ≡ false) → Part type_parameters IsTypeParameters Stop (λ _. Stop)
type_parameters_part absent = on_where_part (is_sign sign.Less) (a_sign sign.Less) (sign_is sign.Less) (λ t. type_parameter_list_part) (made [] (λ tail h. h)) absent

-- ---- parameters

-- param : ID ':' type
pub typed_parameter_part : {F : List Token → Type 0} → ((tail : List Token) → F (a_name ∷ tail)) → Part typed_parameter IsTypedParameter F (λ _. EndsType)
typed_parameter_part asked = name_then asked (λ x. sign_then sign.Colon (λ tail. tt) (λ _. then most_type_part (λ t. made (record { name = name_of x; annotation = t }) (λ tail h. h))))

pub typed_parameter_begins : Begins kind_is_identifier IsTypedParameter
typed_parameter_begins = seq_begins_with kind_is_identifier (name_begins kind_is_identifier (λ name. refl))

at_parenthesis : (tail : List Token) → Next (kind_is_sign sign.CloseParenthesis) tail → EndsType tail
at_parenthesis = at_sign_no sign.CloseParenthesis goes_on_type refl

-- params? ')'
pub parameters_part : Part (maybe_commas (is_sign sign.CloseParenthesis) typed_parameter) (MaybeCommaList (is_sign sign.CloseParenthesis) IsTypedParameter) Anything (λ _. Anything)
parameters_part = in_parentheses_part (as_read (typed_parameter_part {F = Anything} (λ tail. tt)) typed_parameter_begins) refl at_parenthesis (λ tail h. h) (λ tail. tt)

-- ---- parameters of a constructor

abbrev begins_parameter : TokenKind → Bool
begins_parameter (kind.Identifier name) = true
begins_parameter (kind.Keyword word.Val) = true
begins_parameter (kind.Keyword word.Var) = true
begins_parameter _ = false

no_kind : (t : Token) → kind_is_identifier t.kind ≡ true → kind_of t ≡ None
no_kind t h = means_none (is_keyword word.Val) parameter.Val (means (is_keyword word.Var) parameter.Var nothing) t (no_keyword kind_is_identifier word.Val refl t h) (means_none (is_keyword word.Var) parameter.Var nothing t (no_keyword kind_is_identifier word.Var refl t h) refl)

kind_begins : (t : Token) (k : ConstructorParameterKind) → kind_of t ≡ Some k → begins_parameter t.kind ≡ true
kind_begins t k e = elim (means_some (is_keyword word.Val) parameter.Val (means (is_keyword word.Var) parameter.Var nothing) t k e) [
  | inl y ↦ ap begins_parameter (kind_keyword word.Val t.kind y)
  | inr n ↦ elim (means_some (is_keyword word.Var) parameter.Var nothing t k n) [ inl y ↦ ap begins_parameter (kind_keyword word.Var t.kind y) | inr none ↦ absurd cc ]
]

val_part : {N : List Token → Type 0} → Part (meant kind_of) (IsMeant kind_of) Anything (λ _. N)
unfolding same_keyword
val_part = meant_part kind_of (a_keyword word.Val) parameter.Val refl (λ tail h. tt)

-- ('val' | 'var')?
kind_part : Part (attempt (meant kind_of) (λ k. pure k.1) (pure parameter.Plain)) (FirstOf (IsMeant kind_of) (λ k. IsNothing k.1) (IsNothing parameter.Plain)) (Next kind_is_identifier) (λ _. Next kind_is_identifier)
kind_part = where_part {D = Anything} val_part (λ k. made k.1 (λ tail h. h)) (made parameter.Plain (λ tail h. h)) (no_meaning kind_of kind_is_identifier no_kind)

-- cparam : ('val' | 'var')? ID ':' type
constructor_parameter_part : Part constructor_parameter IsConstructorParameter Anything (λ _. EndsType)
constructor_parameter_part = any_part (then kind_part (λ k. then (typed_parameter_part (λ tail. refl)) (λ p. made (record { kind = k; name = p.name; annotation = p.annotation }) (λ tail h. h))))

identifier_begins_parameter : (k : TokenKind) → kind_is_identifier k ≡ true → begins_parameter k ≡ true
identifier_begins_parameter (kind.Identifier name) h = refl
identifier_begins_parameter _ h = absurd cc

parameter_begins : Begins begins_parameter IsConstructorParameter
parameter_begins a u rest s = elim s.phrase [
  | inl k ↦ ap (first (of_kind begins_parameter)) (s.is ∙ ap (λ (z : List Token). z ++ s.back) (k.is ∙ ap (λ (z : List Token). z ++ k.back) k.phrase.one)) ∙ kind_begins k.value.0 k.value.1 k.phrase.means
  | inr m ↦ ap (first (of_kind begins_parameter)) (s.is ∙ ap (λ (z : List Token). z ++ s.back) m.0.none)
      ∙ seq_begins_with begins_parameter (λ p v more q. first_yes (of_kind kind_is_identifier) (of_kind begins_parameter) v (λ t h. identifier_begins_parameter t.kind h) (typed_parameter_begins p v more q)) a s.back rest s.phrase'
]

-- ('(' cparams? ')')?, where no `(` follows
pub constructor_parameters_part : {Stop : List Token → Type 0} → ((tail : List Token) → Stop tail → first (is_sign sign.OpenParenthesis) tail ≡ false) → Part constructor_parameters IsConstructor Stop (λ _. Stop)
constructor_parameters_part {Stop} absent = on_where_part (is_sign sign.OpenParenthesis) (a_sign sign.OpenParenthesis) (sign_is sign.OpenParenthesis)
    (λ t. stops_part (λ a tail h. tt) (in_parentheses_part {F = Anything} (as_read constructor_parameter_part parameter_begins) refl at_parenthesis (λ tail h. h) (λ tail. tt))) (made [] (λ tail h. h)) absent
