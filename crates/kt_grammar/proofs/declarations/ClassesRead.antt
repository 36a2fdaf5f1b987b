-- Classes and interfaces are read exactly, over expressions and statements.
use Rattle.std.proofs.Common.{◌≡◌, Bool, true, false, List, [], ◌∷◌, ◌++◌, refl, ap, ◌∙◌, inr, None, Some, inl, Option}
use Rattle.kt_base.specs.declared.refusals.Pos.{Pos}
use Rattle.kt_tree.specs.declared.tokens.TokenKind.{TokenKind}
use Rattle.kt_tree.specs.declared.tokens.TokenKind.TheVariants as kind
use Rattle.kt_tree.specs.declared.tokens.Sign.{Sign}
use Rattle.kt_tree.specs.declared.tokens.Sign.TheVariants as sign
use Rattle.kt_tree.specs.declared.tokens.Keyword.TheVariants as word
use Rattle.kt_tree.specs.declared.tokens.SoftKeyword.{SoftKeyword}
use Rattle.kt_tree.specs.declared.tokens.SoftKeyword.TheVariants as soft
use Rattle.kt_tree.specs.declared.tokens.Token.{Token}
use Rattle.kt_tree.specs.declared.declarations.ClassModifiers.{ClassModifiers}
use Rattle.kt_tree.specs.Types.{named, types_of}
use Rattle.kt_tree.specs.Tokens.{
  is_identifier,
  is_keyword,
  is_new_line,
  is_sign,
  kind_is_identifier,
  kind_is_new_line,
  kind_is_sign,
  same_sign,
  same_keyword,
  is_soft_keyword,
}
use Rattle.kt_tree.specs.Declarations as d
use Rattle.kt_tree.specs.Declarations.{ClassTree, InterfaceTree, PropertyTree, SuperArgumentsTree}
use Rattle.kt_grammar_parsers.specs.Parsers.{Parser, behind, first, pure, some_levels, ◌>>=◌}
use Rattle.kt_grammar_parsers.specs.Phrases.{IsToken, Loop, MoreTurn, NotReads, Seq, IsNothing}
use Rattle.kt_grammar.specs.Terminals.{is_separator, kind_is_end, name_of, means, nothing, variable_of}
use Rattle.kt_grammar.specs.Words.{Directly, IsPast, IsMeant, MaybeCommaList}
use Rattle.kt_grammar.specs.Types.{IsNamedType, IsType}
use Rattle.kt_grammar.specs.Statements.{phrases}
use Rattle.kt_grammar.specs.Declarations.{
  IsClassWord,
  IsMembers,
  IsSupertypes,
  IsTypeArgument,
  IsConstructor,
  IsFunction,
  IsMember,
  IsSupertype,
  IsTypeParameters,
  IsTypedParameter,
  arguments_at,
  in_class,
  in_interface,
  most_levels,
  outside,
}
use Rattle.kt_grammar.specs.Readers.{type_parser, maybe_commas, meant}
use Rattle.kt_grammar.specs.StatementParser.{parsers}
use Rattle.kt_grammar.specs.DeclarationParser.{
  class_word,
  members,
  parent,
  supertypes,
  class_rest,
  interface_rest,
  member,
  property_rest,
  supertype,
}
use Rattle.kt_grammar_parsers.proofs.Optional.{not_reads, seq_begins, token_begins}
use Rattle.kt_grammar.proofs.types.TypesRead.{
  a_name,
  a_sign,
  named_type_correct,
  type_phrase,
  types_correct,
  no_arguments,
}
use Rattle.kt_grammar.proofs.tokens.Closing.{kind_end, kind_sign}
use Rattle.kt_grammar.proofs.parts.Sequences.{
  Anything,
  Closes,
  Part,
  made,
  not_past,
  part_of,
  past,
  then,
  where_part,
  any_part,
}
use Rattle.kt_grammar.proofs.parts.Choices.{either_part, past_then, same_part, seq_left, seq_right}
use Rattle.kt_grammar.proofs.tokens.Begins.{
  Begins,
  seq_begins_with,
  either_begins_with,
  first_of_front,
  first_yes,
  of_kind,
}
use Rattle.kt_grammar.proofs.tokens.Meanings.{closes_halts, meant_part}
use Rattle.kt_grammar.proofs.parts.Optionals.{on_where_part}
use Rattle.kt_grammar.proofs.tokens.Distinct.{kind_keyword, means_none, means_some, no_keyword, no_meaning}
use Rattle.kt_grammar.proofs.tokens.Keywords.{or_keyword, keyword_or}
use Rattle.kt_grammar.proofs.tokens.Witnesses.{
  begins_no_line,
  closes_at,
  sign_is,
  sign_part,
  a_keyword,
  sign_then,
  parenthesis_ends,
  brace_ends,
  name_begins,
}
use Rattle.kt_grammar.proofs.tokens.Following.{
  EndsType,
  Next,
  NoNext,
  ends_type,
  goes_on_type,
  next_is,
  stops_part,
  sign_no_line,
}
use Rattle.kt_grammar.proofs.parts.Enclosed.{as_read, items_until_part, several_part, in_parentheses_part}
use Rattle.kt_grammar.proofs.declarations.ModifiersRead.{
  start,
  Distinct,
  Modifier,
  keyword_behind,
  word_begins,
  word_part,
  Unlike,
  word_unlike,
}
use Rattle.kt_grammar.proofs.declarations.ParametersRead.{
  constructor_parameters_part,
  name_then,
  type_parameters_part,
  typed_parameter_part,
}
use Rattle.kt_grammar.proofs.declarations.FunctionsRead.{
  Expressions,
  Statements,
  expression_no_line,
  expression_part,
  function_begins,
  function_part,
}

-- ---- what the end of a file ends

abbrev pub AtEnd : List Token → Type 0
AtEnd = Next kind_is_end

-- a test that the end doesn't pass
pub end_no : (test : TokenKind → Bool) → test kind.End ≡ false → (tail : List Token) → AtEnd tail → NoNext test tail
end_no test = next_is kind_is_end test kind.End false kind_end

pub end_no_sign : (s : Sign) (tail : List Token) → AtEnd tail → first (is_sign s) tail ≡ false
end_no_sign s = end_no (kind_is_sign s) refl

end_type : (tail : List Token) → AtEnd tail → EndsType tail
end_type = end_no goes_on_type refl

end_no_braces : (tail : List Token) → AtEnd tail → NotReads (IsPast (IsToken (is_sign sign.OpenBrace))) tail
end_no_braces tail h = not_past is_new_line (IsToken (is_sign sign.OpenBrace)) tail (end_no kind_is_new_line refl tail h) (not_reads (is_sign sign.OpenBrace) (IsToken (is_sign sign.OpenBrace)) (token_begins (is_sign sign.OpenBrace)) tail (end_no_sign sign.OpenBrace tail h))

comma_begins : (t : Token) (u rest : List Token) → Seq Directly (λ _. IsToken (is_sign sign.Comma)) t u rest → first (is_sign sign.Comma) (u ++ rest) ≡ true
comma_begins t u rest s = ap (λ (z : List Token). first (is_sign sign.Comma) (z ++ rest)) (s.is ∙ ap (λ (z : List Token). z ++ s.back) s.phrase.none ∙ s.phrase'.one) ∙ s.phrase'.passes

end_no_comma : (tail : List Token) → AtEnd tail → NotReads (Seq Directly (λ _. IsToken (is_sign sign.Comma))) tail
end_no_comma tail h = not_reads (is_sign sign.Comma) (Seq Directly (λ _. IsToken (is_sign sign.Comma))) comma_begins tail (end_no_sign sign.Comma tail h)

-- ---- supertypes

-- ID targs?
parent_part : Part parent (IsNamedType IsTypeArgument) Anything (λ _. EndsType)
unfolding type_parser IsType
parent_part = stops_part ends_type (part_of (named_type_correct (type_parser 199) IsTypeArgument (types_correct 198) (type_phrase (IsType 198) (some_levels 198))) (record {
  whole = named (name_of a_name) (types_of []);
  tokens = a_name ∷ [];
  phrase = λ tail h. record { value = a_name; front = a_name ∷ []; back = []; is = refl; phrase = record { passes = refl; one = refl }; phrase' = inr (record { value = refl; none = refl }, no_arguments IsTypeArgument tail h.no_less) };
}))

parent_begins : Begins kind_is_identifier (IsNamedType IsTypeArgument)
parent_begins = seq_begins_with kind_is_identifier (name_begins kind_is_identifier (λ name. refl))

-- (':' n super (',' n super)*)?
supertypes_part : {A : Type 0} {super : Parser Token A} {Super : A → List Token → List Token → Type 0} → Part super Super Anything (λ _. AtEnd) → Begins kind_is_identifier Super → Part (supertypes super) (IsSupertypes Super) AtEnd (λ _. AtEnd)
supertypes_part {super = super} {Super = Super} P begins = on_where_part (is_sign sign.Colon) (a_sign sign.Colon) (sign_is sign.Colon) (λ _. past (seq_begins is_new_line Super (λ x. Loop (MoreTurn Directly (is_sign sign.Comma) is_new_line Super) (x ∷ [])) false no_line) (several_part (pure tt) (then {F' = Anything} (made tt (λ tail h. tt)) (λ _. sign_part sign.Comma (λ tail. tt))) P no_line end_no_comma))
    (made [] (λ tail h. h)) (end_no_sign sign.Colon)
  where
    no_line : (a : _) (u rest : List Token) → Super a u rest → first is_new_line (u ++ rest) ≡ false
    no_line = begins_no_line kind_is_identifier refl begins

-- ---- members

brace_closes : (tail : List Token) → Next (kind_is_sign sign.CloseBrace) tail → Closes tail
brace_closes = closes_at sign.CloseBrace brace_ends

brace_no_separator : (at : Pos) → is_separator (record { kind = kind.Sign sign.CloseBrace; pos = at }) ≡ false
unfolding same_sign
brace_no_separator at = refl

-- (n '{' sep? (item (sep item)*)? sep? '}')?
members_part : {A : Type 0} {item : Parser Token A} {Item : A → List Token → List Token → Type 0} (test : TokenKind → Bool) → Part item Item Anything (λ _. Closes) → Begins test Item → test (kind.Sign sign.CloseBrace) ≡ false → Part (members item) (IsMembers Item) AtEnd (λ _. AtEnd)
members_part test P begins e = where_part {D = Anything} (past (sign_no_line sign.OpenBrace) (sign_part sign.OpenBrace (λ tail. tt)))
    (λ _. then (items_until_part (kind_is_sign sign.CloseBrace) (kind.Sign sign.CloseBrace) (kind_sign sign.CloseBrace) (sign_is sign.CloseBrace) brace_no_separator e brace_closes (as_read P begins)) (λ ms. made ms.0 (λ tail h. tt)))
    (made [] (λ tail h. h)) end_no_braces

-- ---- the word of a class

-- the modifiers of a class
unfoldable pub class_modifiers : List (Modifier ClassModifiers)
class_modifiers = record { word = soft.Open; stands = λ c. c.is_open; add = λ c. record c { is_open = true } } ∷ record { word = soft.Abstract; stands = λ c. c.is_abstract; add = λ c. record c { is_abstract = true } } ∷ record { word = soft.Data; stands = λ c. c.is_data; add = λ c. record c { is_data = true } } ∷ []

no_modifiers : ClassModifiers
no_modifiers = record { is_open = false; is_abstract = false; is_data = false }

all_distinct : Distinct class_modifiers
unfolding class_modifiers
all_distinct = ((refl, (refl, tt)), ((refl, tt), (tt, tt)))

-- ('open' | 'abstract' | 'data')* 'class'
pub class_word_part : Part class_word IsClassWord Anything (λ _. Anything)
unfolding class_modifiers no_modifiers
class_word_part = word_part word.Class class_modifiers all_distinct no_modifiers

pub class_word_begins : Begins (or_keyword word.Class kind_is_identifier) IsClassWord
unfolding class_modifiers no_modifiers
class_word_begins = word_begins word.Class class_modifiers all_distinct no_modifiers (start word.Class class_modifiers all_distinct no_modifiers)

pub class_unlike : (v : SoftKeyword) → Unlike v class_modifiers → (b : Pos × ClassModifiers) (u rest : List Token) → IsClassWord b u rest → first (is_soft_keyword v) (u ++ rest) ≡ false
unfolding class_modifiers no_modifiers
class_unlike v apart = word_unlike word.Class class_modifiers all_distinct no_modifiers v apart (start word.Class class_modifiers all_distinct no_modifiers)

pub class_behind : (b : Pos × ClassModifiers) (u rest : List Token) → IsClassWord b u rest → first (is_keyword word.Class) (behind is_identifier (u ++ rest)) ≡ true
unfolding class_modifiers no_modifiers
class_behind = keyword_behind word.Class class_modifiers all_distinct no_modifiers (start word.Class class_modifiers all_distinct no_modifiers)

-- ---- properties

abbrev begins_member : TokenKind → Bool
begins_member (kind.Identifier name) = true
begins_member (kind.Keyword word.Fun) = true
begins_member (kind.Keyword word.Val) = true
begins_member (kind.Keyword word.Var) = true
begins_member _ = false

abbrev begins_function : TokenKind → Bool
begins_function = or_keyword word.Fun kind_is_identifier

variable_begins : (t : Token) (b : Bool) → variable_of t ≡ Some b → begins_member t.kind ≡ true
variable_begins t b e = elim (means_some (is_keyword word.Val) false (means (is_keyword word.Var) true nothing) t b e) [
  | inl y ↦ ap begins_member (kind_keyword word.Val t.kind y)
  | inr n ↦ elim (means_some (is_keyword word.Var) true nothing t b n) [ inl y ↦ ap begins_member (kind_keyword word.Var t.kind y) | inr none ↦ absurd cc ]
]

no_variable : (t : Token) → begins_function t.kind ≡ true → variable_of t ≡ None
unfolding same_keyword
no_variable t h = means_none (is_keyword word.Val) false (means (is_keyword word.Var) true nothing) t (no_keyword begins_function word.Val refl t h) (means_none (is_keyword word.Var) true nothing t (no_keyword begins_function word.Var refl t h) refl)

variable_part : {N : List Token → Type 0} → Part (meant variable_of) (IsMeant variable_of) Anything (λ _. N)
unfolding same_keyword
variable_part = meant_part variable_of (a_keyword word.Val) false refl (λ tail h. tt)

identifier_begins_member : (k : TokenKind) → kind_is_identifier k ≡ true → begins_member k ≡ true
identifier_begins_member (kind.Identifier name) h = refl
identifier_begins_member _ h = absurd cc

function_begins_member : {A : Type 0} {L : A → List Token → List Token → Type 0} → Begins begins_function L → Begins begins_member L
function_begins_member begins a u rest l = first_yes (of_kind begins_function) (of_kind begins_member) u (λ t h. keyword_or word.Fun kind_is_identifier begins_member refl identifier_begins_member t.kind h) (begins a u rest l)

member_begins : Begins begins_member IsMember
member_begins = either_begins_with begins_member (seq_begins_with begins_member (function_begins_member (function_begins in_class)))
    (seq_begins_with begins_member (seq_begins_with begins_member (λ found u rest l. ap (first (of_kind begins_member)) l.one ∙ variable_begins found.0 found.1 l.means)))

-- what stands behind 'val' or 'var', 'class' and 'interface'
abbrev IsPropertyRest : Token × Bool → PropertyTree → List Token → List Token → Type 0
IsPropertyRest var = Seq IsTypedParameter (λ p. Seq (IsToken (is_sign sign.Assign)) (λ _. Seq (IsPast ((phrases most_levels).disjunction outside)) (λ a. IsNothing (record { at = var.0.pos; is_variable = var.1; name = p.name; annotation = p.annotation; initializer = a }))))

abbrev pub IsClassRest : Pos × ClassModifiers → ClassTree → List Token → List Token → Type 0
IsClassRest m = Seq (IsToken is_identifier) (λ x. Seq IsTypeParameters (λ ts. Seq IsConstructor (λ ps. Seq (IsSupertypes IsSupertype) (λ ss. Seq (IsMembers IsMember) (λ ms.
    IsNothing (record { at = m.0; modifiers = m.1; name = name_of x; type_parameters = ts; parameters = ps; supertypes = ss; members = ms }))))))

abbrev pub IsInterfaceRest : Token → InterfaceTree → List Token → List Token → Type 0
IsInterfaceRest t = Seq (IsToken is_identifier) (λ x. Seq IsTypeParameters (λ ts. Seq (IsSupertypes (IsNamedType IsTypeArgument)) (λ ss. Seq (IsMembers (IsFunction in_interface)) (λ fs.
    IsNothing (record { at = t.pos; name = name_of x; type_parameters = ts; supertypes = ss; functions = fs })))))

module _ (E : Expressions) (S : Statements) where
  -- behind 'val' or 'var': ID ':' type '=' n expr
  property_part : (var : Token × Bool) → Part (property_rest var) (IsPropertyRest var) Anything (λ _. Closes)
  property_part var = then (typed_parameter_part (λ tail. tt)) (λ p. sign_then {F = EndsType} sign.Assign (λ tail. refl) (λ _. past_then (expression_no_line E S) (expression_part E S) (λ a. made (record { at = var.0.pos; is_variable = var.1; name = p.name; annotation = p.annotation; initializer = a }) (λ tail c. c))))

  -- member : fun | ('val' | 'var') ID ':' type '=' n expr
  member_part : Part member IsMember Anything (λ _. Closes)
  member_part = same_part
      (λ b u rest l. elim l [ inl s ↦ inr (seq_left (IsMeant variable_of) IsPropertyRest (λ p. IsNothing (d.property p)) b u rest s) | inr s ↦ inl s ])
      (λ b u rest l. elim l [ inl s ↦ inr s | inr s ↦ inl (seq_right (IsMeant variable_of) IsPropertyRest (λ p. IsNothing (d.property p)) b u rest s) ])
      (either_part {D = Anything} variable_part (λ var. then (property_part var) (λ p. made (d.property p) (λ tail h. h))) (then (function_part E S in_class) (λ f. made (d.method f) (λ tail h. h)))
      (λ b u rest s. no_meaning variable_of begins_function no_variable (u ++ rest) (first_of_front (of_kind begins_function) u rest (seq_begins_with begins_function (function_begins in_class) b u rest s))))

  -- ---- super : ID targs? ('(' args? ')')?

  arguments_part : (at : Token) → Part {A = Option SuperArgumentsTree} (maybe_commas (is_sign sign.CloseParenthesis) ((parsers most_levels).disjunction outside) >>= (λ es. pure (Some (record { at = arguments_at at es; values = es }))))
      (Seq (MaybeCommaList (is_sign sign.CloseParenthesis) ((phrases most_levels).disjunction outside)) (λ es. IsNothing (Some (record { at = arguments_at at es; values = es })))) Anything (λ _. AtEnd)
  arguments_part at = then {F' = Anything} (in_parentheses_part E refl (closes_at sign.CloseParenthesis parenthesis_ends) closes_halts (λ tail. tt)) (λ es. made (Some (record { at = arguments_at at es; values = es })) (λ tail h. tt))

  supertype_part : Part supertype IsSupertype Anything (λ _. AtEnd)
  supertype_part = then parent_part (λ t. then {F' = AtEnd} (on_where_part (is_sign sign.OpenParenthesis) (a_sign sign.OpenParenthesis) (sign_is sign.OpenParenthesis) arguments_part (made None end_type) (end_no_sign sign.OpenParenthesis)) (λ as'. made (record { parent = t; arguments = as' }) (λ tail h. h)))

  -- ---- classes and interfaces

  -- behind 'class'
  pub class_part : (m : Pos × ClassModifiers) → Part (class_rest m) (IsClassRest m) Anything (λ _. AtEnd)
  class_part m = name_then (λ tail. tt) (λ x. any_part (then (type_parameters_part (end_no_sign sign.Less)) (λ ts. then (constructor_parameters_part (end_no_sign sign.OpenParenthesis)) (λ ps. then (supertypes_part supertype_part (seq_begins_with kind_is_identifier parent_begins)) (λ ss.
      then (members_part begins_member member_part member_begins refl) (λ ms. made (record { at = m.0; modifiers = m.1; name = name_of x; type_parameters = ts; parameters = ps; supertypes = ss; members = ms }) (λ tail h. h)))))))

  -- behind 'interface'
  pub interface_part : (t : Token) → Part (interface_rest t) (IsInterfaceRest t) Anything (λ _. AtEnd)
  interface_part t = name_then (λ tail. tt) (λ x. any_part (then (type_parameters_part (end_no_sign sign.Less)) (λ ts. then (supertypes_part (stops_part (λ a. end_type) parent_part) parent_begins) (λ ss.
      then (members_part begins_function (function_part E S in_interface) (function_begins in_interface) refl) (λ fs. made (record { at = t.pos; name = name_of x; type_parameters = ts; supertypes = ss; functions = fs }) (λ tail h. h))))))
