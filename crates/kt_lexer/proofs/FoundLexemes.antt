-- What is found at the front of a text, within a string or not, is a lexeme.
use Rattle.std.proofs.Common.{
  ◌≡◌,
  ℕ,
  Bool,
  true,
  false,
  ◌||◌,
  ◌&&◌,
  not,
  List,
  [],
  ◌∷◌,
  ◌++◌,
  Option,
  None,
  Some,
  rules,
  refl,
  sym,
  ap,
  subst,
  ◌∙◌,
  ⊎_elim,
  arith,
}
use Rattle.std.specs.Prelude.{◌==◌}
use Rattle.std.proofs.lemmas.Bool.{eqb-true}
use denote.Enum.Bare.{same_true}
use Rattle.kt_tree.specs.contracts.tokens.Keyword as keyword_kind
use Rattle.kt_tree.specs.declared.tokens.Keyword.{Keyword}
use Rattle.kt_tree.specs.declared.tokens.Keyword.TheVariants as word
use Rattle.kt_tree.specs.Tokens.{same_keyword}
use Rattle.kt_lexer.specs.declared.shapes.Shape.TheVariants as shape
use Rattle.kt_lexer.specs.Lexemes as lexemes
use Rattle.kt_lexer.specs.Lexemes.{first, AllPass, is_letter, is_digit, is_word, is_run}
use Rattle.kt_lexer.specs.Texts.{ordinary, between_tokens, inside}
use Rattle.kt_lexer.specs.Scanning.{
  Found,
  behind,
  keyword_of,
  line_feed_at,
  ordinary_at,
  part_before,
  dollar_at,
  string_escape,
  escape_at,
  string_part_at,
  shape_at,
  slash_at,
  exclamation_at,
  character_at,
}
use Rattle.kt_lexer.proofs.Cases.{at, either}
use Rattle.kt_lexer.proofs.Found.{
  IsFront,
  IsFound,
  run_of,
  passed_is,
  keyword_written,
  no_keyword,
  word_split,
  word_found,
}
use Rattle.kt_lexer.proofs.FoundNumbers.{number_found}
use Rattle.kt_lexer.proofs.FoundLiterals.{IsEscapeFound, escape_found, character_found}
use Rattle.kt_lexer.proofs.FoundSigns.{sign_found, slash_found, exclamation_found}

first_is : (within : Bool) (c code : ℕ) (text : List ℕ) (found : Found) → (c == code) ≡ true → IsFound within (code ∷ text) found → IsFound within (c ∷ text) found
first_is within c code text found is h = subst (λ c. IsFound within (c ∷ text) found) (sym (eqb-true c code is)) h

line_feed_found : (text : List ℕ) → IsFound false (13 ∷ text) (line_feed_at text)
line_feed_found [] = tt
line_feed_found (c ∷ cs) = at (IsFound false (13 ∷ c ∷ cs)) (c == 10) _ _
    (λ is. record { front = 13 ∷ 10 ∷ []; is = λ i. 13 ∷ eqb-true c 10 is i ∷ cs; some = omega arith; lexeme = ordinary lexemes.both_line_ends })
    (λ _. tt)

ordinary_found : (text : List ℕ) → IsFound false text (ordinary_at text)
unfolding ordinary_at
ordinary_found [] = tt
ordinary_found (c ∷ cs) =
    at (IsFound false (c ∷ cs)) (is_letter c) _ _ (λ h. word_found c cs h)
    (λ _. at (IsFound false (c ∷ cs)) (is_digit c) _ _ (λ h. number_found c cs h)
    (λ _. at (IsFound false (c ∷ cs)) ((c == 32) || (c == 9)) _ _
    (λ h. ⊎_elim (λ is. first_is false c 32 cs (Some (shape.Blank, cs)) is (record { front = 32 ∷ []; is = refl; some = omega arith; lexeme = between_tokens lexemes.space }))
    (λ is. first_is false c 9 cs (Some (shape.Blank, cs)) is (record { front = 9 ∷ []; is = refl; some = omega arith; lexeme = between_tokens lexemes.tabulator })) (either _ _ h))
    (λ _. at (IsFound false (c ∷ cs)) (c == 10) _ _ (λ is. first_is false c 10 cs (Some (shape.NewLine, cs)) is (record { front = 10 ∷ []; is = refl; some = omega arith; lexeme = ordinary lexemes.line_feed_alone }))
    (λ _. at (IsFound false (c ∷ cs)) (c == 13) _ _ (λ is. first_is false c 13 cs (line_feed_at cs) is (line_feed_found cs))
    (λ _. at (IsFound false (c ∷ cs)) (c == 34) _ _ (λ is. first_is false c 34 cs (Some (shape.OpenQuote, cs)) is (record { front = 34 ∷ []; is = refl; some = omega arith; lexeme = ordinary lexemes.open_quote }))
    (λ _. at (IsFound false (c ∷ cs)) (c == 39) _ _ (λ is. first_is false c 39 cs (character_at cs) is (character_found cs))
    (λ _. at (IsFound false (c ∷ cs)) (c == 47) _ _ (λ is. first_is false c 47 cs (slash_at cs) is (slash_found cs))
    (λ other. at (IsFound false (c ∷ cs)) (c == 33) _ _ (λ is. first_is false c 33 cs (exclamation_at cs) is (exclamation_found cs))
    (λ _. sign_found c cs (ap (λ b. not (b && first (λ d. d == 42) cs)) other))))))))))

pub keyword_same : (j k : Keyword) → same_keyword j k ≡ true → j ≡ k
unfolding same_keyword
keyword_same j k h = same_true keyword_kind.the_type (search rules) j k h

part_found : (text rest front : List ℕ) (o : Option Keyword) → text ≡ front ++ rest → keyword_of front ≡ o → lexemes.IsWord front rest → IsFront true (36 ∷ text) (part_before o rest text)
part_found text rest front None is none w = record {
  front = 36 ∷ front;
  is = ap (λ l. 36 ∷ l) is;
  some = omega arith;
  lexeme = inside (lexemes.name_part (record { word = w; free = no_keyword front none }));
}
part_found text rest front (Some k) is found w = at (IsFront true (36 ∷ text)) (same_keyword k word.This) _ _
    (λ this. let k_is : k ≡ word.This = keyword_same k word.This this in
    let front_is : lexemes.keyword_text word.This ≡ front = ap lexemes.keyword_text (sym k_is) ∙ keyword_written front k found in
    record {
      front = 36 ∷ lexemes.keyword_text word.This;
      is = ap (λ l. 36 ∷ l) (is ∙ ap (λ l. l ++ rest) (sym front_is));
      some = omega arith;
      lexeme = inside (lexemes.this_part (subst (λ u. lexemes.IsWord u rest) (sym front_is) w));
    })
    (λ _. record { front = 36 ∷ []; is = refl; some = omega arith; lexeme = inside lexemes.dollar_alone })

dollar_found : (text : List ℕ) → IsFront true (36 ∷ text) (dollar_at text)
unfolding dollar_at
dollar_found [] = record { front = 36 ∷ []; is = refl; some = omega arith; lexeme = inside lexemes.dollar_alone }
dollar_found (c ∷ cs) = at (IsFront true (36 ∷ c ∷ cs)) (is_letter c) _ _
    (λ letter. let split = word_split c cs letter in
    let rest = behind is_word (c ∷ cs) in
    subst (λ u. IsFront true (36 ∷ c ∷ cs) (part_before (keyword_of u) rest (c ∷ cs))) (sym (passed_is (c ∷ cs) split.front rest split.is))
    (part_found (c ∷ cs) rest split.front (keyword_of split.front) split.is refl split.word))
    (λ _. at (IsFront true (36 ∷ c ∷ cs)) (c == 123) _ _
    (λ is. record { front = 36 ∷ 123 ∷ []; is = λ i. 36 ∷ eqb-true c 123 is i ∷ cs; some = omega arith; lexeme = inside lexemes.open_template })
    (λ _. record { front = 36 ∷ []; is = refl; some = omega arith; lexeme = inside lexemes.dollar_alone }))

string_escape_found : (text : List ℕ) (o : Option (ℕ × List ℕ)) → IsEscapeFound text o → IsFound true (92 ∷ text) (string_escape o)
string_escape_found text None found = tt
string_escape_found text (Some f) found = record { front = 92 ∷ found.0; is = ap (λ l. 92 ∷ l) found.2; some = omega arith; lexeme = inside (lexemes.escape found.1) }

string_part_found : (text : List ℕ) → IsFound true text (string_part_at text)
unfolding string_part_at
string_part_found [] = tt
string_part_found (c ∷ cs) =
    at (IsFound true (c ∷ cs)) (is_run c) _ _
    (λ is. let run = run_of is_run cs in
    record { front = c ∷ run.front; is = ap (λ l. c ∷ l) run.is; some = omega arith; lexeme = inside (lexemes.run (is, run.pass)) })
    (λ _. at (IsFound true (c ∷ cs)) (c == 34) _ _ (λ is. first_is true c 34 cs (Some (shape.CloseQuote, cs)) is (record { front = 34 ∷ []; is = refl; some = omega arith; lexeme = inside lexemes.close_quote }))
    (λ _. at (IsFound true (c ∷ cs)) (c == 36) _ _ (λ is. first_is true c 36 cs (Some (dollar_at cs)) is (dollar_found cs))
    (λ _. at (IsFound true (c ∷ cs)) (c == 92) _ _ (λ is. first_is true c 92 cs (string_escape (escape_at cs)) is (string_escape_found cs (escape_at cs) (escape_found cs)))
    (λ _. tt))))

-- what is found is a lexeme
pub shape_found : (within : Bool) (text : List ℕ) → IsFound within text (shape_at within text)
shape_found true text = string_part_found text
shape_found false text = ordinary_found text
