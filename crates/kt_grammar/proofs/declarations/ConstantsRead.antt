-- Enums and constants are read exactly.
use Rattle.std.proofs.Common.{
  ◌≡◌,
  Bool,
  true,
  false,
  List,
  [],
  ◌∷◌,
  ◌++◌,
  None,
  refl,
  ap,
  ◌∙◌,
  inl,
  inr,
  ◌⊎◌,
  ◌<◌,
  Some,
  arith,
  length,
  length-append,
}
use Rattle.kt_tree.specs.declared.tokens.TokenKind.{TokenKind}
use Rattle.kt_tree.specs.declared.tokens.TokenKind.TheVariants as kind
use Rattle.kt_tree.specs.declared.tokens.Sign.TheVariants as sign
use Rattle.kt_tree.specs.declared.tokens.Keyword.TheVariants as word
use Rattle.kt_tree.specs.declared.tokens.Token.{Token}
use Rattle.kt_tree.specs.declared.bodies.Literal.{Literal}
use Rattle.kt_tree.specs.declared.bodies.Literal.TheVariants as literal
use Rattle.kt_tree.specs.declared.bodies.TextPart.{TextPart}
use Rattle.kt_tree.specs.declared.bodies.TextPart.TheVariants as text
use Rattle.kt_tree.specs.declared.declarations.ConstantValue.{ConstantValue}
use Rattle.kt_tree.specs.declared.declarations.ConstantValue.TheVariants as value
use Rattle.kt_tree.specs.Declarations as d
use Rattle.kt_tree.specs.Declarations.{ConstantTree, DeclarationTree}
use Rattle.kt_tree.specs.Tokens.{
  is_identifier,
  is_keyword,
  is_new_line,
  is_sign,
  kind_is_new_line,
  kind_is_sign,
  same_sign,
}
use Rattle.kt_grammar_parsers.specs.Parsers.{◌>>=◌, first, on, pure, repeat}
use Rattle.kt_grammar_parsers.specs.Phrases.{
  Either,
  FirstOf,
  IsNothing,
  IsSkipped,
  IsToken,
  Loop,
  MoreTurn,
  NotReads,
  Seq,
}
use Rattle.kt_grammar.specs.Terminals.{
  is_close_quote,
  is_open_quote,
  kind_is_close_quote,
  kind_is_open_quote,
  kind_literal,
  kind_text,
  literal_of,
  name_of,
  text_of,
}
use Rattle.kt_grammar.specs.Words.{IsMeant, IsPast, Maybe, Several}
use Rattle.kt_grammar.specs.Types.{IsType}
use Rattle.kt_grammar.specs.Declarations.{IsConstantLiteral, IsConstantText, IsEnumEntry, TextTurn, most_levels}
use Rattle.kt_grammar.specs.Readers.{lines, meant, several_items}
use Rattle.kt_grammar.specs.DeclarationParser.{constant_rest, constant_value, enum_entry, enum_rest, text_turn}
use Rattle.kt_grammar_parsers.proofs.Optional.{not_reads, seq_begins, token_begins}
use Rattle.kt_grammar.proofs.types.TypesRead.{a_sign}
use Rattle.kt_grammar.proofs.tokens.Closing.{kind_sign}
use Rattle.kt_grammar.proofs.parts.Sequences.{Anything, Part, any_part, made, not_past, one, past, then}
use Rattle.kt_grammar.proofs.parts.Choices.{either_part, on_part, past_then}
use Rattle.kt_grammar.proofs.tokens.Begins.{
  Begins,
  begins_no,
  either_begins_with,
  first_of_front,
  first_yes,
  of_kind,
  seq_begins_with,
  token_begins_with,
}
use Rattle.kt_grammar.proofs.tokens.Meanings.{meant_part}
use Rattle.kt_grammar.proofs.parts.Optionals.{maybe_part, on_where_part}
use Rattle.kt_grammar.proofs.tokens.Distinct.{no_meaning}
use Rattle.kt_grammar.proofs.tokens.Witnesses.{
  begins_no_line,
  a_keyword,
  keyword_part,
  sign_is,
  sign_part,
  sign_then,
  name_no_line,
  sign_past_then,
}
use Rattle.kt_grammar.proofs.tokens.Following.{EndsType, Next, at_sign_no, most_type_part, no_colon, sign_no_line}
use Rattle.kt_grammar.proofs.parts.Enclosed.{ended_part, several_part, swap_part}
use Rattle.kt_grammar.proofs.declarations.ParametersRead.{name_then}

-- ---- enums

abbrev AtBrace : List Token → Type 0
AtBrace = Next (kind_is_sign sign.CloseBrace)

brace_no_comma : (tail : List Token) → AtBrace tail → first (is_sign sign.Comma) tail ≡ false
unfolding same_sign
brace_no_comma = at_sign_no sign.CloseBrace (kind_is_sign sign.Comma) refl

no_more_entries : (tail : List Token) → AtBrace tail → NotReads (IsPast (IsToken (is_sign sign.Comma))) tail
no_more_entries tail h = not_past is_new_line (IsToken (is_sign sign.Comma)) tail (at_sign_no sign.CloseBrace kind_is_new_line refl tail h) (not_reads (is_sign sign.Comma) (IsToken (is_sign sign.Comma)) (token_begins (is_sign sign.Comma)) tail (brace_no_comma tail h))

entry_part : Part enum_entry IsEnumEntry Anything (λ _. AtBrace)
entry_part = name_then (λ tail. tt) (λ t. made (record { at = t.pos; name = name_of t }) (λ tail h. tt))

entry_no_line : (e : _) (u rest : List Token) → IsEnumEntry e u rest → first is_new_line (u ++ rest) ≡ false
entry_no_line = seq_begins is_new_line (IsToken is_identifier) (λ t. IsNothing (record { at = t.pos; name = name_of t })) false name_no_line

-- ID (n ',' n ID)*
entries_part : Part (several_items lines enum_entry) (Several (IsSkipped is_new_line) IsEnumEntry) Anything (λ _. AtBrace)
entries_part = several_part lines (past (sign_no_line sign.Comma) (sign_part sign.Comma (λ tail. tt))) entry_part entry_no_line no_more_entries

abbrev pub IsEnumRest : Token → DeclarationTree → List Token → List Token → Type 0
IsEnumRest t = Seq (IsToken (is_keyword word.Class)) (λ _. Seq (IsToken is_identifier) (λ x. Seq (IsPast (IsToken (is_sign sign.OpenBrace))) (λ _. Seq (IsPast (Several (IsSkipped is_new_line) IsEnumEntry)) (λ es. Seq (IsPast (IsToken (is_sign sign.CloseBrace))) (λ _.
    IsNothing (d.enum (record { at = t.pos; name = name_of x; entries = es })))))))

-- behind 'enum'
pub enum_part : {N : List Token → Type 0} (t : Token) → Part (enum_rest t) (IsEnumRest t) Anything (λ _. N)
enum_part t = then (keyword_part word.Class) (λ _. name_then (λ tail. tt) (λ x. sign_past_then {F = Anything} sign.OpenBrace (λ tail. tt) (λ _. past_then (seq_begins is_new_line IsEnumEntry (λ e. Loop (MoreTurn (IsSkipped is_new_line) (is_sign sign.Comma) is_new_line IsEnumEntry) (e ∷ [])) false entry_no_line) entries_part (λ es.
    sign_past_then {F = AtBrace} sign.CloseBrace (λ tail. sign_is sign.CloseBrace) (λ _. made (d.enum (record { at = t.pos; name = name_of x; entries = es })) (λ tail h. tt))))))

-- ---- literals

abbrev begins_literal : TokenKind → Bool
begins_literal (kind.Number n) = true
begins_literal (kind.Character unit) = true
begins_literal (kind.Keyword k) = true
begins_literal (kind.Sign sign.Minus) = true
begins_literal _ = false

abbrev begins_value : TokenKind → Bool
begins_value kind.OpenQuote = true
begins_value k = begins_literal k

abbrev NoMinus : List Token → Type 0
NoMinus tail = first (is_sign sign.Minus) tail ≡ false

minus_part : Part (on (is_sign sign.Minus) (λ _. pure true) (pure false)) (FirstOf (IsToken (is_sign sign.Minus)) (λ _. IsNothing true) (IsNothing false)) NoMinus (λ _. NoMinus)
minus_part = on_where_part (is_sign sign.Minus) (a_sign sign.Minus) (sign_is sign.Minus) (λ _. made true (λ tail h. tt)) (made false (λ tail h. h)) (λ tail h. h)

-- '-'? literal
literal_part : {N : List Token → Type 0} → Part (on (is_sign sign.Minus) (λ _. pure true) (pure false) >>= (λ minus. meant literal_of >>= (λ l. pure (value.Literal minus l.1)))) IsConstantLiteral Anything (λ _. N)
literal_part {N} = any_part (then minus_part (λ minus. then {F' = N} (meant_part literal_of (a_keyword word.True) literal.True refl (λ tail h. refl)) (λ l. made (value.Literal minus l.1) (λ tail h. h))))

kind_literal_begins : (k : TokenKind) (l : Literal) → kind_literal k ≡ Some l → begins_literal k ≡ true
kind_literal_begins (kind.Number n) l e = refl
kind_literal_begins (kind.Character unit) l e = refl
kind_literal_begins (kind.Keyword k) l e = refl
kind_literal_begins _ l e = absurd cc

literal_begins : Begins begins_literal IsConstantLiteral
literal_begins a u rest s = elim s.phrase [
  | inl k ↦ ap (first (of_kind begins_literal)) (s.is ∙ ap (λ (z : List Token). z ++ s.back) (k.is ∙ ap (λ (z : List Token). z ++ k.back) k.phrase.one)) ∙ ap begins_literal (kind_sign sign.Minus k.value.kind k.phrase.passes)
  | inr m ↦ ap (first (of_kind begins_literal)) (s.is ∙ ap (λ (z : List Token). z ++ s.back) m.0.none)
      ∙ seq_begins_with begins_literal (λ found v more l. ap (first (of_kind begins_literal)) l.one ∙ kind_literal_begins found.0.kind found.1 l.means) a s.back rest s.phrase'
]

-- ---- strings all of whose parts are text

a_dollar : Token
a_dollar = record { kind = kind.Dollar; pos = record { line = 1; column = 1 } }

an_open_quote : Token
an_open_quote = record { kind = kind.OpenQuote; pos = record { line = 1; column = 1 } }

a_close_quote : Token
a_close_quote = record { kind = kind.CloseQuote; pos = record { line = 1; column = 1 } }

quote_no_text : (k : TokenKind) → kind_is_close_quote k ≡ true → kind_text k ≡ None
quote_no_text kind.CloseQuote h = refl
quote_no_text _ h = absurd cc

abbrev IsQuote : List TextPart → List TextPart ⊎ List TextPart → List Token → List Token → Type 0
IsQuote ps = Seq (IsToken is_close_quote) (λ _. IsNothing (inr ps))

quote_apart : (ps : List TextPart) (b : List TextPart ⊎ List TextPart) (u rest : List Token) → IsQuote ps b u rest → NotReads (IsMeant text_of) (u ++ rest)
quote_apart ps b u rest s = no_meaning text_of kind_is_close_quote (λ t h. quote_no_text t.kind h) (u ++ rest) (first_of_front (of_kind kind_is_close_quote) u rest (seq_begins_with kind_is_close_quote (token_begins_with is_close_quote kind_is_close_quote (λ t h. h)) b u rest s))

text_turn_part : (ps : List TextPart) → Part (text_turn ps) (TextTurn ps) Anything (λ _. Anything)
unfolding a_dollar a_close_quote
text_turn_part ps = either_part {D = Anything} {F' = Anything} (meant_part text_of a_dollar text.Dollar refl (λ tail h. tt)) (λ t. made (inl (ps ++ t.1 ∷ [])) (λ tail h. tt)) (then {F' = Anything} (one is_close_quote a_close_quote refl (λ tail h. tt)) (λ _. made (inr ps) (λ tail h. tt))) (quote_apart ps)

not_ended : (ps qs : List TextPart) → inl ps ≡ inr qs → ⊥
not_ended ps qs e = absurd cc

text_eats : (ps qs : List TextPart) (u rest : List Token) → TextTurn ps (inl qs) u rest → 0 < length u
text_eats ps qs u rest (inl s) = omega (arith, ap length s.is, length-append s.front s.back, ap length s.phrase.one)
text_eats ps qs u rest (inr s) = absurd (not_ended qs ps s.phrase'.value)

text_ends : (ps : List TextPart) (tail : List Token) → TextTurn ps (inr ps) (a_close_quote ∷ []) tail
unfolding a_close_quote
text_ends ps tail = inr (record { value = a_close_quote; front = a_close_quote ∷ []; back = []; is = refl; phrase = record { passes = refl; one = refl }; phrase' = record { value = refl; none = refl } })

-- behind the opening quote
text_part : {N : List Token → Type 0} → Part (repeat text_turn [] >>= (λ ps. pure (value.Text ps))) (Seq (Loop TextTurn []) (λ ps. IsNothing (value.Text ps))) Anything (λ _. N)
text_part = then (ended_part {F = Anything} (λ ps. (text_turn_part ps).correct) text_eats (λ ps. ps) (a_close_quote ∷ []) text_ends (λ tail. tt) []) (λ ps. made (value.Text ps) (λ tail h. tt))

-- ---- constants

literal_no_quote : (k : TokenKind) → begins_literal k ≡ true → kind_is_open_quote k ≡ false
literal_no_quote kind.OpenQuote h = absurd cc
literal_no_quote _ h = refl

-- '-'? literal | string
value_part : {N : List Token → Type 0} → Part constant_value (Either IsConstantLiteral IsConstantText) Anything (λ _. N)
unfolding an_open_quote
value_part = swap_part (on_part an_open_quote refl (λ t. text_part) literal_part (begins_no begins_literal is_open_quote (λ t h. literal_no_quote t.kind h) literal_begins))

literal_begins_value : (k : TokenKind) → begins_literal k ≡ true → begins_value k ≡ true
literal_begins_value kind.OpenQuote h = refl
literal_begins_value _ h = h

quote_begins_value : (k : TokenKind) → kind_is_open_quote k ≡ true → begins_value k ≡ true
quote_begins_value kind.OpenQuote h = refl
quote_begins_value _ h = absurd cc

value_begins : Begins begins_value (Either IsConstantLiteral IsConstantText)
value_begins = either_begins_with begins_value (λ a u rest l. first_yes (of_kind begins_literal) (of_kind begins_value) u (λ t h. literal_begins_value t.kind h) (literal_begins a u rest l))
    (seq_begins_with begins_value (token_begins_with is_open_quote begins_value (λ t h. quote_begins_value t.kind h)))

value_no_line : (v : ConstantValue) (u rest : List Token) → Either IsConstantLiteral IsConstantText v u rest → first is_new_line (u ++ rest) ≡ false
value_no_line = begins_no_line begins_value refl value_begins

abbrev pub IsConstantRest : Token → ConstantTree → List Token → List Token → Type 0
IsConstantRest t = Seq (IsToken (is_keyword word.Val)) (λ _. Seq (IsToken is_identifier) (λ x. Seq (Maybe (is_sign sign.Colon) (IsType most_levels)) (λ a. Seq (IsToken (is_sign sign.Assign)) (λ _. Seq (IsPast (Either IsConstantLiteral IsConstantText)) (λ v.
    IsNothing (record { at = t.pos; name = name_of x; annotation = a; value = v }))))))

-- behind 'const'
pub constant_part : {N : List Token → Type 0} (t : Token) → Part (constant_rest t) (IsConstantRest t) Anything (λ _. N)
constant_part {N} t = then (keyword_part word.Val) (λ _. name_then (λ tail. tt) (λ x. any_part (then (maybe_part (is_sign sign.Colon) (a_sign sign.Colon) (sign_is sign.Colon) most_type_part no_colon) (λ a. sign_then {F = EndsType} sign.Assign (λ tail. refl) (λ _.
    past_then value_no_line (value_part {N = N}) (λ v. made (record { at = t.pos; name = name_of x; annotation = a; value = v }) (λ tail h. h)))))))
