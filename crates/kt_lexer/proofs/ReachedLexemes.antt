-- Where the front of a text spells a lexeme, a shape is found: that of the lexeme, or one that goes further.
use Rattle.std.proofs.Common.{
  ◌≡◌,
  ℕ,
  ◌<◌,
  Bool,
  true,
  cond,
  inl,
  inr,
  List,
  [],
  ◌∷◌,
  ◌++◌,
  Option,
  None,
  Some,
  length,
  refl,
  sym,
  ap,
  subst,
  ◌∙◌,
  arith,
}
use Rattle.std.specs.Prelude.{◌==◌}
use Rattle.kt_base.specs.Text.{utf16_of}
use Rattle.kt_tree.specs.declared.tokens.Keyword.{Keyword}
use Rattle.kt_tree.specs.declared.tokens.Keyword.TheVariants as word
use Rattle.kt_tree.specs.declared.tokens.TokenKind.{TokenKind}
use Rattle.kt_tree.specs.declared.tokens.TokenKind.TheVariants as kind
use Rattle.kt_tree.specs.Tokens.{same_keyword}
use Rattle.kt_lexer.specs.declared.shapes.Shape.{Shape}
use Rattle.kt_lexer.specs.declared.shapes.Shape.TheVariants as shape
use Rattle.kt_lexer.specs.Lexemes as lexemes
use Rattle.kt_lexer.specs.Lexemes.{
  first,
  AllPass,
  is_letter,
  is_word,
  is_run,
  IsOrdinary,
  IsInString,
  IsBlank,
  IsWord,
  IsNameText,
  IsEscape,
}
use Rattle.kt_lexer.specs.Texts.{Lexeme, of_kind, blank, IsLexeme, ordinary, between_tokens, inside}
use Rattle.kt_lexer.specs.Scanning.{
  behind,
  passed,
  keyword_of,
  part_before,
  part_at,
  dollar_at,
  string_escape,
  string_part_at,
  ordinary_at,
  shape_at,
}
use Rattle.kt_lexer.proofs.Cases.{at}
use Rattle.kt_lexer.proofs.Found.{passed_is, keyword_known, letter_word}
use Rattle.kt_lexer.proofs.Reached.{
  Reaches,
  behind_all,
  behind_none,
  behind_some,
  behind_or,
  name_is_none,
  name_reached,
  keyword_reached,
  number_reached,
  long_reached,
}
use Rattle.kt_lexer.proofs.ReachedParts.{
  escape_reached,
  plain_reached,
  escaped_reached,
  comment_reached,
  line_comment_reached,
  sign_reached,
}

ordinary_reached : {u rest : List ℕ} {k : TokenKind} → IsOrdinary u rest k → Reaches u rest (of_kind k) (ordinary_at (u ++ rest))
unfolding ordinary_at
ordinary_reached (lexemes.identifier {u} {rest} n) = name_reached u rest n
ordinary_reached (lexemes.keyword k {rest} w) = keyword_reached k rest w
ordinary_reached (lexemes.number {u} {rest} d) = number_reached u rest d
ordinary_reached (lexemes.long_number {u} {rest} d) = long_reached u rest d
ordinary_reached (lexemes.character {c} {rest} plain) = plain_reached c rest plain
ordinary_reached (lexemes.escaped_character {u} {rest} {unit} e) = escaped_reached u rest unit e
ordinary_reached (lexemes.mark s {rest} follows) = sign_reached s rest follows
ordinary_reached (lexemes.open_quote) = inl (refl, refl)
ordinary_reached (lexemes.line_feed_alone) = inl (refl, refl)
ordinary_reached (lexemes.both_line_ends) = inl (refl, refl)

blank_reached : {u rest : List ℕ} → IsBlank u rest → Reaches u rest blank (ordinary_at (u ++ rest))
unfolding ordinary_at
blank_reached (lexemes.space) = inl (refl, refl)
blank_reached (lexemes.tabulator) = inl (refl, refl)
blank_reached (lexemes.line_comment {u} {rest} e) = line_comment_reached u rest e
blank_reached (lexemes.comment {u} {rest} c) = comment_reached u rest c

run_reached : (c : ℕ) (u rest : List ℕ) → AllPass is_run (c ∷ u) → Reaches (c ∷ u) rest (of_kind (kind.Run (utf16_of (c ∷ u)))) (string_part_at (c ∷ u ++ rest))
unfolding string_part_at
run_reached c u rest pass =
    let all : behind is_run (u ++ rest) ≡ behind is_run rest = behind_all is_run u rest pass.1 in
    let found : string_part_at (c ∷ u ++ rest) ≡ Some (shape.Run, behind is_run rest) = rw (pass.0) (ap (λ l. Some (shape.Run, l)) all) in
    subst (Reaches (c ∷ u) rest (of_kind (kind.Run (utf16_of (c ∷ u))))) (sym found) (elim (behind_or is_run rest) [ inl same ↦ inl (same, refl) | inr less ↦ inr less ])

dollar_is : (c : ℕ) (cs : List ℕ) → is_letter c ≡ true → dollar_at (c ∷ cs) ≡ part_at (c ∷ cs)
unfolding dollar_at
dollar_is c cs letter = rw letter refl

part_is : (u rest : List ℕ) → IsWord u rest → dollar_at (u ++ rest) ≡ part_before (keyword_of u) rest (u ++ rest)
part_is [] rest w = absurd (cc w.letter)
part_is (c ∷ u) rest w =
    let text = c ∷ u ++ rest in
    let all : behind is_word text ≡ rest = behind_all is_word (c ∷ u) rest w.word ∙ behind_none is_word rest w.whole in
    dollar_is c (u ++ rest) w.letter ∙ (λ i. part_before (keyword_of (passed text (all i))) (all i) text) ∙ ap (λ t. part_before (keyword_of t) rest text) (passed_is text (c ∷ u) rest refl)

dollar_part : (text : List ℕ) → string_part_at (36 ∷ text) ≡ Some (dollar_at text)
unfolding string_part_at
dollar_part text = refl

name_part_reached : (u rest : List ℕ) → IsNameText u rest → Reaches (36 ∷ u) rest (of_kind (kind.NamePart u)) (string_part_at (36 ∷ u ++ rest))
name_part_reached u rest n =
    let found : string_part_at (36 ∷ u ++ rest) ≡ Some (shape.NamePart, rest) = dollar_part (u ++ rest) ∙ ap Some (part_is u rest n.word ∙ ap (λ o. part_before o rest (u ++ rest)) (name_is_none u n.free)) in
    subst (Reaches (36 ∷ u) rest (of_kind (kind.NamePart u))) (sym found) (inl (refl, refl))

this_same : same_keyword word.This word.This ≡ true
unfolding same_keyword
this_same = refl

this_part_reached : (rest : List ℕ) → IsWord (lexemes.keyword_text word.This) rest → Reaches (36 ∷ lexemes.keyword_text word.This) rest (of_kind kind.ThisPart) (string_part_at (36 ∷ lexemes.keyword_text word.This ++ rest))
this_part_reached rest w =
    let text = lexemes.keyword_text word.This ++ rest in
    let found : string_part_at (36 ∷ text) ≡ Some (shape.ThisPart, rest) = dollar_part text ∙ ap Some (part_is (lexemes.keyword_text word.This) rest w ∙ ap (λ o. part_before o rest text) (keyword_known word.This)
    ∙ ap (λ b. cond b (shape.ThisPart, rest) (shape.Dollar, text)) this_same) in
    subst (Reaches (36 ∷ lexemes.keyword_text word.This) rest (of_kind kind.ThisPart)) (sym found) (inl (refl, refl))

abbrev DollarReaches : List ℕ → Shape × List ℕ → Type 0
DollarReaches rest found = Reaches (36 ∷ []) rest (of_kind kind.Dollar) (Some found)

part_or_dollar : (rest more : List ℕ) (o : Option Keyword) → length more < length rest → DollarReaches rest (part_before o more rest)
part_or_dollar rest more None less = inr less
part_or_dollar rest more (Some k) less = at (DollarReaches rest) (same_keyword k word.This) _ _ (λ _. inr less) (λ _. inl (refl, refl))

dollar_reached : (rest : List ℕ) → DollarReaches rest (dollar_at rest)
unfolding dollar_at
dollar_reached [] = inl (refl, refl)
dollar_reached (c ∷ cs) = at (DollarReaches (c ∷ cs)) (is_letter c) _ _
    (λ letter. part_or_dollar (c ∷ cs) (behind is_word (c ∷ cs)) (keyword_of (passed (c ∷ cs) (behind is_word (c ∷ cs)))) (behind_some is_word c cs (letter_word c letter)))
    (λ _. at (DollarReaches (c ∷ cs)) (c == 123) _ _ (λ _. inr (omega arith)) (λ _. inl (refl, refl)))

string_escape_reached : (u rest : List ℕ) (unit : ℕ) → IsEscape u unit → Reaches u rest (of_kind (kind.Escape unit)) (string_part_at (u ++ rest))
unfolding string_part_at
string_escape_reached u rest unit e =
    let found = escape_reached e in
    let is : string_part_at (u ++ rest) ≡ Some (shape.Escape unit, rest) = ap (λ l. string_part_at (l ++ rest)) found.1 ∙ ap string_escape (found.2 rest) in
    subst (Reaches u rest (of_kind (kind.Escape unit))) (sym is) (inl (refl, refl))

inside_reached : {u rest : List ℕ} {k : TokenKind} → IsInString u rest k → Reaches u rest (of_kind k) (string_part_at (u ++ rest))
unfolding string_part_at dollar_at
inside_reached (lexemes.run {c} {u} {rest} pass) = run_reached c u rest pass
inside_reached (lexemes.escape {u} {rest} {unit} e) = string_escape_reached u rest unit e
inside_reached (lexemes.name_part {u} {rest} n) = name_part_reached u rest n
inside_reached (lexemes.this_part {rest} w) = this_part_reached rest w
inside_reached (lexemes.open_template) = inl (refl, refl)
inside_reached (lexemes.dollar_alone {rest}) = dollar_reached rest
inside_reached (lexemes.close_quote) = inl (refl, refl)

-- the lexeme is found, or one that goes further
pub lexeme_reached : {within : Bool} {u rest : List ℕ} {lexeme : Lexeme} → IsLexeme within u rest lexeme → Reaches u rest lexeme (shape_at within (u ++ rest))
lexeme_reached (ordinary o) = ordinary_reached o
lexeme_reached (between_tokens b) = blank_reached b
lexeme_reached (inside p) = inside_reached p
