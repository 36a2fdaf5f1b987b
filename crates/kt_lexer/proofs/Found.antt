-- What the shape at the front of a text is: a lexeme, whose characters stand before what is left.
use Rattle.std.proofs.Common.{
  ◌≡◌,
  ℕ,
  ◌-◌,
  ◌<◌,
  Bool,
  true,
  false,
  cond,
  ◌||◌,
  ◌&&◌,
  List,
  [],
  ◌∷◌,
  ◌++◌,
  Option,
  None,
  Some,
  length,
  take,
  refl,
  sym,
  ap,
  subst,
  ◌∙◌,
  arith,
}
use Rattle.std.specs.Prelude.{◌==◌, find}
use Rattle.std.specs.Cmp.Lexicographic.{pointwise, same_text}
use Rattle.std.proofs.lemmas.Bool.{eqb-true}
use Rattle.std.proofs.lemmas.List.{length-append}
use Rattle.std.proofs.Math.Seq.{take-append_seam}
use Rattle.kt_tree.specs.declared.tokens.Sign.TheVariants as sign
use Rattle.kt_tree.specs.declared.tokens.Keyword.{Keyword}
use Rattle.kt_tree.specs.declared.tokens.Keyword.TheVariants as word
use Rattle.kt_tree.specs.declared.tokens.TokenKind.TheVariants as kind
use Rattle.kt_lexer.specs.declared.shapes.Shape.{Shape}
use Rattle.kt_lexer.specs.Lexemes as lexemes
use Rattle.kt_lexer.specs.Lexemes.{first, AllPass}
use Rattle.kt_lexer.specs.Texts.{IsLexeme, of_kind, ordinary}
use Rattle.kt_lexer.specs.Scanning.{
  Found,
  behind,
  passed,
  lexeme_of,
  keywords,
  keyword_of,
  word_shape,
  behind_safe_as,
  safe_as_or,
  word_at,
}
use Rattle.kt_lexer.proofs.Cases.{both}

-- the shape is that of a lexeme at the front of the text, with at least one character
pub record IsFront (within : Bool) (text : List ℕ) (found : Shape × List ℕ) : Type 0 where
  pub front : List ℕ
  pub is : text ≡ front ++ found.1
  pub some : 0 < length front
  pub lexeme : IsLexeme within front found.1 (lexeme_of found.0 front)

abbrev pub IsFound : Bool → List ℕ → Found → Type 0
IsFound within text None = Unit {0}
IsFound within text (Some found) = IsFront within text found

-- what comes first and passes the test
pub record IsRun (test : ℕ → Bool) (text rest : List ℕ) : Type 0 where
  pub front : List ℕ
  pub is : text ≡ front ++ rest
  pub pass : AllPass test front
  pub ends : first test rest ≡ false

run_step : (test : ℕ → Bool) (c : ℕ) (text : List ℕ) (b : Bool) → test c ≡ b → IsRun test text (behind test text) → IsRun test (c ∷ text) (cond b (behind test text) (c ∷ text))
run_step test c text true is more = record { front = c ∷ more.front; is = ap (λ l. c ∷ l) more.is; pass = (is, more.pass); ends = more.ends }
run_step test c text false is more = record { front = []; is = refl; pass = tt; ends = is }

pub run_of : (test : ℕ → Bool) (text : List ℕ) → IsRun test text (behind test text)
run_of test [] = record { front = []; is = refl; pass = tt; ends = refl }
run_of test (c ∷ text) = run_step test c text (test c) refl (run_of test text)

-- what is passed is what stands before the rest
pub passed_is : (text front rest : List ℕ) → text ≡ front ++ rest → passed text rest ≡ front
passed_is text front rest is =
    let count : length text - length rest ≡ length front = omega (arith, ap length is, length-append front rest) in
    (λ i. take (count i) (is i)) ∙ take-append_seam front rest

-- ---- words

keyword_step : (text : List ℕ) (ks : List Keyword) (j k : Keyword) (b : Bool) → pointwise ◌==◌ (lexemes.keyword_text j) text ≡ b
    → (find (λ k. pointwise ◌==◌ (lexemes.keyword_text k) text) ks ≡ Some k → pointwise ◌==◌ (lexemes.keyword_text k) text ≡ true)
    → cond b (Some j) (find (λ k. pointwise ◌==◌ (lexemes.keyword_text k) text) ks) ≡ Some k → pointwise ◌==◌ (lexemes.keyword_text k) text ≡ true
keyword_step text ks j k true is more e = let same : j ≡ k = cc in subst (λ k. pointwise ◌==◌ (lexemes.keyword_text k) text ≡ true) same is
keyword_step text ks j k false is more e = more e

keyword_tested : (text : List ℕ) (ks : List Keyword) (k : Keyword) → find (λ k. pointwise ◌==◌ (lexemes.keyword_text k) text) ks ≡ Some k
    → pointwise ◌==◌ (lexemes.keyword_text k) text ≡ true
keyword_tested text [] k e = cc
keyword_tested text (j ∷ ks) k e = keyword_step text ks j k (pointwise ◌==◌ (lexemes.keyword_text j) text) refl (keyword_tested text ks k) e

-- the keyword that is found is written so
pub keyword_written : (text : List ℕ) (k : Keyword) → keyword_of text ≡ Some k → lexemes.keyword_text k ≡ text
unfolding keyword_of
keyword_written text k e = same_text _ _ (sym (keyword_tested text keywords k e))

-- each keyword is found
pub keyword_known : (k : Keyword) → keyword_of (lexemes.keyword_text k) ≡ Some k
unfolding keyword_of keywords
keyword_known word.As = refl
keyword_known word.Break = refl
keyword_known word.Class = refl
keyword_known word.Continue = refl
keyword_known word.Do = refl
keyword_known word.Else = refl
keyword_known word.False = refl
keyword_known word.For = refl
keyword_known word.Fun = refl
keyword_known word.If = refl
keyword_known word.In = refl
keyword_known word.Interface = refl
keyword_known word.Is = refl
keyword_known word.Null = refl
keyword_known word.Object = refl
keyword_known word.Package = refl
keyword_known word.Return = refl
keyword_known word.Super = refl
keyword_known word.This = refl
keyword_known word.Throw = refl
keyword_known word.True = refl
keyword_known word.Try = refl
keyword_known word.TypeAlias = refl
keyword_known word.TypeOf = refl
keyword_known word.Val = refl
keyword_known word.Var = refl
keyword_known word.When = refl
keyword_known word.While = refl

-- where none is found, none is written so
pub no_keyword : (text : List ℕ) → keyword_of text ≡ None → (k : Keyword) → lexemes.keyword_text k ≡ text → ⊥
no_keyword text none k is =
    let known : keyword_of text ≡ Some k = subst (λ t. keyword_of t ≡ Some k) is (keyword_known k) in
    absurd (cc (sym none ∙ known))

-- a word comes first
pub record WordSplit (text rest : List ℕ) : Type 0 where
  pub front : List ℕ
  pub is : text ≡ front ++ rest
  pub some : 0 < length front
  pub word : lexemes.IsWord front rest

pub letter_word : (c : ℕ) → lexemes.is_letter c ≡ true → lexemes.is_word c ≡ true
letter_word c letter = ap (λ b. b || lexemes.is_digit c) letter

pub word_split : (c : ℕ) (cs : List ℕ) → lexemes.is_letter c ≡ true → WordSplit (c ∷ cs) (behind lexemes.is_word (c ∷ cs))
word_split c cs letter =
    let is_w : lexemes.is_word c ≡ true = letter_word c letter in
    let run = run_of lexemes.is_word cs in
    let rest_is : behind lexemes.is_word (c ∷ cs) ≡ behind lexemes.is_word cs = ap (λ b. cond b (behind lexemes.is_word cs) (c ∷ cs)) is_w in
    let split : WordSplit (c ∷ cs) (behind lexemes.is_word cs) = record {
      front = c ∷ run.front;
      is = ap (λ l. c ∷ l) run.is;
      some = omega arith;
      word = record { letter = letter; word = (is_w, run.pass); whole = run.ends };
    } in
    subst (WordSplit (c ∷ cs)) (sym rest_is) split

word_lexeme : (front rest : List ℕ) (o : Option Keyword) → keyword_of front ≡ o → lexemes.IsWord front rest → IsLexeme false front rest (lexeme_of (word_shape o) front)
word_lexeme front rest None none w = ordinary (lexemes.identifier (record { word = w; free = no_keyword front none }))
word_lexeme front rest (Some k) found w =
    let is = keyword_written front k found in
    subst (λ u. IsLexeme false u rest (of_kind (kind.Keyword k))) is (ordinary (lexemes.keyword k (subst (λ u. lexemes.IsWord u rest) (sym is) w)))

pub safe_as_is : (text rest : List ℕ) → behind_safe_as text ≡ Some rest → text ≡ 97 ∷ 115 ∷ 63 ∷ rest
safe_as_is [] rest e = cc
safe_as_is (a ∷ []) rest e = cc
safe_as_is (a ∷ b ∷ []) rest e = cc
safe_as_is (a ∷ b ∷ c ∷ text) rest e = step ((a == 97) && (b == 115) && (c == 63)) refl e
  where
    step : (t : Bool) → ((a == 97) && (b == 115) && (c == 63)) ≡ t → cond t (Some text) None ≡ Some rest → a ∷ b ∷ c ∷ text ≡ 97 ∷ 115 ∷ 63 ∷ rest
    step true is e =
        let last = both _ _ is in
        let parts = both _ _ last.0 in
        let same : text ≡ rest = cc in
        λ i. eqb-true a 97 parts.0 i ∷ eqb-true b 115 parts.1 i ∷ eqb-true c 63 last.1 i ∷ same i
    step false is e = cc

safe_as_found : (text : List ℕ) (other : Shape × List ℕ) (o : Option (List ℕ)) → behind_safe_as text ≡ o → IsFront false text other → IsFront false text (safe_as_or o other)
safe_as_found text other None is found = found
safe_as_found text other (Some rest) is found = record { front = 97 ∷ 115 ∷ 63 ∷ []; is = safe_as_is text rest is; some = omega arith; lexeme = ordinary (lexemes.mark sign.SafeAs refl) }

pub word_found : (c : ℕ) (cs : List ℕ) → lexemes.is_letter c ≡ true → IsFront false (c ∷ cs) (word_at (c ∷ cs))
unfolding word_at
word_found c cs letter =
    let split = word_split c cs letter in
    let rest = behind lexemes.is_word (c ∷ cs) in
    let text_is : passed (c ∷ cs) rest ≡ split.front = passed_is (c ∷ cs) split.front rest split.is in
    let lexeme : IsLexeme false split.front rest (lexeme_of (word_shape (keyword_of (passed (c ∷ cs) rest))) split.front) =
    subst (λ u. IsLexeme false split.front rest (lexeme_of (word_shape (keyword_of u)) split.front)) (sym text_is) (word_lexeme split.front rest (keyword_of split.front) refl split.word) in
    safe_as_found (c ∷ cs) _ (behind_safe_as (c ∷ cs)) refl (record { front = split.front; is = split.is; some = split.some; lexeme = lexeme })
