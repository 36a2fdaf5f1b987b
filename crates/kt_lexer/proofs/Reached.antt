-- Where the front of a text spells a lexeme, a shape is found: that of the lexeme, or one that goes further.
use Rattle.std.proofs.Common.{
  ◌≡◌,
  ℕ,
  ◌<◌,
  ◌≤◌,
  Bool,
  true,
  false,
  cond,
  ◌⊎◌,
  inl,
  inr,
  List,
  [],
  ◌∷◌,
  ◌++◌,
  Option,
  None,
  Some,
  length,
  refl,
  sym,
  ap,
  subst,
  ◌∙◌,
  arith,
}
use Rattle.std.specs.Prelude.{◌==◌}
use Rattle.std.proofs.lemmas.Bool.{ne_eqb, lt-leb, leb-true}
use Rattle.std.proofs.lemmas.List.{append_assoc}
use Rattle.kt_tree.specs.declared.tokens.Keyword.{Keyword}
use Rattle.kt_tree.specs.declared.tokens.TokenKind.TheVariants as kind
use Rattle.kt_lexer.specs.declared.shapes.Shape.{Shape}
use Rattle.kt_lexer.specs.Lexemes as lexemes
use Rattle.kt_lexer.specs.Lexemes.{first, AllPass, is_letter, is_digit, is_word, between, IsWord, IsNameText, IsDigits}
use Rattle.kt_lexer.specs.Texts.{Lexeme, of_kind}
use Rattle.kt_lexer.specs.Scanning.{
  Found,
  behind,
  passed,
  lexeme_of,
  keyword_of,
  word_shape,
  behind_safe_as,
  safe_as_or,
  word_at,
  behind_number,
  numbered,
  number_at,
  ordinary_at,
}
use Rattle.kt_lexer.proofs.Cases.{at, both}
use Rattle.kt_lexer.proofs.Found.{passed_is, keyword_written, keyword_known, safe_as_is}

-- the lexeme, which these characters spell before the rest, or one that goes further
abbrev pub Reaches : List ℕ → List ℕ → Lexeme → Found → Type 0
Reaches u rest lexeme None = ⊥
Reaches u rest lexeme (Some found) = ((found.1 ≡ rest) × (lexeme_of found.0 u ≡ lexeme)) ⊎ (length found.1 < length rest)

-- ---- runs

pub behind_all : (test : ℕ → Bool) (u rest : List ℕ) → AllPass test u → behind test (u ++ rest) ≡ behind test rest
behind_all test [] rest pass = refl
behind_all test (c ∷ u) rest pass = rw (pass.0) (behind_all test u rest pass.1)

pub behind_none : (test : ℕ → Bool) (rest : List ℕ) → first test rest ≡ false → behind test rest ≡ rest
behind_none test [] ends = refl
behind_none test (c ∷ cs) ends = rw ends refl

pub behind_shorter : (test : ℕ → Bool) (text : List ℕ) → length (behind test text) ≤ length text
behind_shorter test [] = omega arith
behind_shorter test (c ∷ cs) = at (λ l. length l ≤ length (c ∷ cs)) (test c) _ _ (λ _. omega (arith, behind_shorter test cs)) (λ _. omega arith)

pub behind_some : (test : ℕ → Bool) (c : ℕ) (cs : List ℕ) → test c ≡ true → length (behind test (c ∷ cs)) < length (c ∷ cs)
behind_some test c cs passes = let e : behind test (c ∷ cs) ≡ behind test cs = rw passes refl in omega (arith, ap length e, behind_shorter test cs)

-- what is behind is all of it, or less
pub behind_or : (test : ℕ → Bool) (rest : List ℕ) → (behind test rest ≡ rest) ⊎ (length (behind test rest) < length rest)
behind_or test [] = inl refl
behind_or test (c ∷ cs) = by (test c) refl
  where
    by : (b : Bool) → test c ≡ b → (behind test (c ∷ cs) ≡ c ∷ cs) ⊎ (length (behind test (c ∷ cs)) < length (c ∷ cs))
    by true is = inr (behind_some test c cs is)
    by false is = inl (behind_none test (c ∷ cs) is)

-- ---- words

-- a word ends before `as?` does
safe_as_further : (u rest r : List ℕ) → AllPass is_word u → 0 < length u → u ++ rest ≡ 97 ∷ 115 ∷ 63 ∷ r → length r < length rest
safe_as_further [] rest r pass some is = absurd (omega arith)
safe_as_further (c ∷ []) rest r pass some is = omega (arith, ap length is)
safe_as_further (c ∷ d ∷ []) rest r pass some is = omega (arith, ap length is)
safe_as_further (c ∷ d ∷ e ∷ u) rest r pass some is =
    let same : e ≡ 63 = ap third is in
    let bad : false ≡ true = ap is_word (sym same) ∙ pass.1.1.0 in
    absurd (cc bad)
  where
    third : List ℕ → ℕ
    third (a ∷ b ∷ c ∷ l) = c
    third _ = 0

word_or_further : (u rest : List ℕ) (lexeme : Lexeme) (s : Shape) (o : Option (List ℕ)) → behind_safe_as (u ++ rest) ≡ o → AllPass is_word u → 0 < length u → lexeme_of s u ≡ lexeme
    → Reaches u rest lexeme (Some (safe_as_or o (s, rest)))
word_or_further u rest lexeme s None is pass some same = inl (refl, same)
word_or_further u rest lexeme s (Some r) is pass some same = inr (safe_as_further u rest r pass some (safe_as_is (u ++ rest) r is))

word_at_is : (u rest : List ℕ) → IsWord u rest → word_at (u ++ rest) ≡ safe_as_or (behind_safe_as (u ++ rest)) (word_shape (keyword_of u), rest)
unfolding word_at
word_at_is u rest w =
    let all : behind is_word (u ++ rest) ≡ rest = behind_all is_word u rest w.word ∙ behind_none is_word rest w.whole in
    let text_is : passed (u ++ rest) rest ≡ u = passed_is (u ++ rest) u rest refl in
    (λ i. safe_as_or (behind_safe_as (u ++ rest)) (word_shape (keyword_of (passed (u ++ rest) (all i))), all i)) ∙ ap (λ t. safe_as_or (behind_safe_as (u ++ rest)) (word_shape (keyword_of t), rest)) text_is

word_ordinary : (c : ℕ) (cs : List ℕ) → is_letter c ≡ true → ordinary_at (c ∷ cs) ≡ Some (word_at (c ∷ cs))
unfolding ordinary_at
word_ordinary c cs letter = rw letter refl

word_reached : (u rest : List ℕ) (lexeme : Lexeme) → IsWord u rest → lexeme_of (word_shape (keyword_of u)) u ≡ lexeme → Reaches u rest lexeme (ordinary_at (u ++ rest))
word_reached [] rest lexeme w same = absurd (cc w.letter)
word_reached (c ∷ u) rest lexeme w same =
    subst (Reaches (c ∷ u) rest lexeme) (sym (word_ordinary c (u ++ rest) w.letter ∙ ap Some (word_at_is (c ∷ u) rest w)))
    (word_or_further (c ∷ u) rest lexeme (word_shape (keyword_of (c ∷ u))) (behind_safe_as (c ∷ u ++ rest)) refl w.word (omega arith) same)

pub name_is_none : (u : List ℕ) → ((k : Keyword) → lexemes.keyword_text k ≡ u → ⊥) → keyword_of u ≡ None
name_is_none u free = by (keyword_of u) refl
  where
    by : (o : Option Keyword) → keyword_of u ≡ o → keyword_of u ≡ None
    by None is = is
    by (Some k) is = absurd (free k (keyword_written u k is))

pub name_reached : (u rest : List ℕ) → IsNameText u rest → Reaches u rest (of_kind (kind.Identifier u)) (ordinary_at (u ++ rest))
name_reached u rest n = word_reached u rest _ n.word (ap (λ o. lexeme_of (word_shape o) u) (name_is_none u n.free))

pub keyword_reached : (k : Keyword) (rest : List ℕ) → IsWord (lexemes.keyword_text k) rest → Reaches (lexemes.keyword_text k) rest (of_kind (kind.Keyword k)) (ordinary_at (lexemes.keyword_text k ++ rest))
keyword_reached k rest w = word_reached (lexemes.keyword_text k) rest _ w (ap (λ o. lexeme_of (word_shape o) (lexemes.keyword_text k)) (keyword_known k))

-- ---- numbers

digit_no_letter : (c : ℕ) → is_digit c ≡ true → is_letter c ≡ false
digit_no_letter c digit =
    let bounds = both _ _ digit in
    let high : c ≤ 57 = leb-true c 57 bounds.1 in
    let no_upper = lt-leb 65 c (omega (arith, high)) in
    let no_lower = lt-leb 97 c (omega (arith, high)) in
    let no_line : (c == 95) ≡ false = ne_eqb c 95 (λ is. omega (arith, high, is)) in
    rw (no_upper, no_lower, no_line) refl

number_ordinary : (c : ℕ) (cs : List ℕ) → is_digit c ≡ true → ordinary_at (c ∷ cs) ≡ Some (number_at (c ∷ cs))
unfolding ordinary_at
number_ordinary c cs digit = let no_letter = digit_no_letter c digit in rw (no_letter, digit) refl

other_lead : (u rest : List ℕ) → first (between 49 57) u ≡ true → AllPass is_digit u → behind_number (u ++ rest) ≡ behind is_digit rest
other_lead [] rest lead pass = cc
other_lead (c ∷ u) rest lead pass =
    let low : 49 ≤ c = leb-true 49 c (both _ _ lead).0 in
    let other : (c == 48) ≡ false = ne_eqb c 48 (λ is. omega (arith, low, is)) in
    ap (λ b. cond b (u ++ rest) (behind is_digit (c ∷ u ++ rest))) other ∙ behind_all is_digit (c ∷ u) rest pass

zero_lead : (u rest : List ℕ) → u ≡ 48 ∷ [] → behind_number (u ++ rest) ≡ rest
zero_lead u rest is = ap (λ u. behind_number (u ++ rest)) is

-- the digits are passed, or further ones too
digits_or_further : (u rest : List ℕ) → IsDigits u → (behind_number (u ++ rest) ≡ rest) ⊎ (length (behind_number (u ++ rest)) < length rest)
digits_or_further u rest d = elim d.lead [
  | inl alone ↦ inl (zero_lead u rest alone)
  | inr other ↦ elim (behind_or is_digit rest) [
    | inl all ↦ inl (other_lead u rest other d.digits ∙ all)
    | inr less ↦ inr (omega (arith, ap length (other_lead u rest other d.digits), less))
  ]
]

digits_passed : (u rest : List ℕ) → IsDigits u → first is_digit rest ≡ false → behind_number (u ++ rest) ≡ rest
digits_passed u rest d ends = elim d.lead [
  | inl alone ↦ zero_lead u rest alone
  | inr other ↦ other_lead u rest other d.digits ∙ behind_none is_digit rest ends
]

number_at_is : (u rest : List ℕ) → behind_number (u ++ rest) ≡ rest → number_at (u ++ rest) ≡ numbered (lexemes.value_of u) rest
unfolding number_at
number_at_is u rest all =
    (λ i. numbered (lexemes.value_of (passed (u ++ rest) (all i))) (all i)) ∙ ap (λ t. numbered (lexemes.value_of t) rest) (passed_is (u ++ rest) u rest refl)

numbered_shorter : (value : Option ℕ) (rest : List ℕ) → length (numbered value rest).1 ≤ length rest
numbered_shorter value [] = omega arith
numbered_shorter value (c ∷ cs) = at (λ (f : Shape × List ℕ). length f.1 ≤ length (c ∷ cs)) (c == 76) _ _ (λ _. omega arith) (λ _. omega arith)

number_at_shorter : (text : List ℕ) → length (number_at text).1 ≤ length (behind_number text)
unfolding number_at
number_at_shorter text = numbered_shorter _ (behind_number text)

numbered_reached : (u rest : List ℕ) → Reaches u rest (of_kind (kind.Number (record { value = lexemes.value_of u; long = false }))) (Some (numbered (lexemes.value_of u) rest))
numbered_reached u [] = inl (refl, refl)
numbered_reached u (c ∷ cs) = at (λ f. Reaches u (c ∷ cs) (of_kind (kind.Number (record { value = lexemes.value_of u; long = false }))) (Some f)) (c == 76) _ _ (λ _. inr (omega arith)) (λ _. inl (refl, refl))

number_text : (u rest : List ℕ) → IsDigits u → ordinary_at (u ++ rest) ≡ Some (number_at (u ++ rest))
number_text [] rest d = absurd (cc d.digit)
number_text (c ∷ u) rest d = number_ordinary c (u ++ rest) d.digit

pub number_reached : (u rest : List ℕ) → IsDigits u → Reaches u rest (of_kind (kind.Number (record { value = lexemes.value_of u; long = false }))) (ordinary_at (u ++ rest))
number_reached u rest d = elim (digits_or_further u rest d) [
  | inl all ↦ subst (Reaches u rest _) (sym (number_text u rest d ∙ ap Some (number_at_is u rest all))) (numbered_reached u rest)
  | inr less ↦ subst (Reaches u rest _) (sym (number_text u rest d)) (inr (omega (arith, number_at_shorter (u ++ rest), less)))
]

pub long_reached : (u rest : List ℕ) → IsDigits u → Reaches (u ++ 76 ∷ []) rest (of_kind (kind.Number (record { value = lexemes.value_of u; long = true }))) (ordinary_at ((u ++ 76 ∷ []) ++ rest))
long_reached u rest d =
    let text_is : (u ++ 76 ∷ []) ++ rest ≡ u ++ 76 ∷ rest = append_assoc u (76 ∷ []) rest in
    let all = digits_passed u (76 ∷ rest) d refl in
    let found : ordinary_at ((u ++ 76 ∷ []) ++ rest) ≡ Some (numbered (lexemes.value_of u) (76 ∷ rest)) = ap ordinary_at text_is ∙ number_text u (76 ∷ rest) d ∙ ap Some (number_at_is u (76 ∷ rest) all) in
    subst (Reaches (u ++ 76 ∷ []) rest _) (sym found) (inl (refl, refl))
