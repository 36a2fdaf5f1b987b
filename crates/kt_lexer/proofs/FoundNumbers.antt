-- A number that is found at the front of a text is one.
use Rattle.std.proofs.Common.{
  ◌≡◌,
  ℕ,
  ◌<◌,
  ◌≤◌,
  Bool,
  true,
  false,
  cond,
  List,
  [],
  ◌∷◌,
  ◌++◌,
  length,
  refl,
  sym,
  ap,
  subst,
  ◌∙◌,
  inl,
  inr,
  arith,
}
use Rattle.std.specs.Prelude.{◌==◌}
use Rattle.std.proofs.lemmas.Bool.{eqb-true, eqb-false, le-leb, leb-true}
use Rattle.std.proofs.lemmas.List.{append_assoc, length-append}
use Rattle.kt_lexer.specs.Lexemes as lexemes
use Rattle.kt_lexer.specs.Texts.{ordinary}
use Rattle.kt_lexer.specs.Scanning.{behind, behind_number, numbered, number_at}
use Rattle.kt_lexer.proofs.Cases.{at, both}
use Rattle.kt_lexer.proofs.Found.{IsFront, run_of, passed_is}

-- the digits of a number come first
pub record NumberSplit (text rest : List ℕ) : Type 0 where
  pub front : List ℕ
  pub is : text ≡ front ++ rest
  pub some : 0 < length front
  pub digits : lexemes.IsDigits front

-- a digit other than 0 is one from 1 to 9
pub other_digit : (c : ℕ) → lexemes.is_digit c ≡ true → (c == 48) ≡ false → lexemes.between 49 57 c ≡ true
other_digit c digit other =
    let bounds = both _ _ digit in
    let low : 49 ≤ c = omega (arith, leb-true 48 c bounds.0, eqb-false c 48 other) in
    rw (le-leb 49 c low, bounds.1) refl

split_at : (c : ℕ) (cs : List ℕ) (b : Bool) → (c == 48) ≡ b → lexemes.is_digit c ≡ true → NumberSplit (c ∷ cs) (cond b cs (behind lexemes.is_digit (c ∷ cs)))
split_at c cs true zero digit = record {
  front = c ∷ [];
  is = refl;
  some = omega arith;
  digits = record { digit = digit; digits = (digit, tt); lead = inl (ap (λ d. d ∷ []) (eqb-true c 48 zero)) };
}
split_at c cs false other digit =
    let run = run_of lexemes.is_digit cs in
    let rest_is : behind lexemes.is_digit (c ∷ cs) ≡ behind lexemes.is_digit cs = ap (λ b. cond b (behind lexemes.is_digit cs) (c ∷ cs)) digit in
    let split : NumberSplit (c ∷ cs) (behind lexemes.is_digit cs) = record {
      front = c ∷ run.front;
      is = ap (λ l. c ∷ l) run.is;
      some = omega arith;
      digits = record { digit = digit; digits = (digit, run.pass); lead = inr (other_digit c digit other) };
    } in
    subst (NumberSplit (c ∷ cs)) (sym rest_is) split

number_split : (c : ℕ) (cs : List ℕ) → lexemes.is_digit c ≡ true → NumberSplit (c ∷ cs) (behind_number (c ∷ cs))
number_split c cs digit = split_at c cs (c == 48) refl digit

numbered_found : (text front rest : List ℕ) → text ≡ front ++ rest → 0 < length front → lexemes.IsDigits front → IsFront false text (numbered (lexemes.value_of front) rest)
numbered_found text front [] is some digits = record { front = front; is = is; some = some; lexeme = ordinary (lexemes.number digits) }
numbered_found text front (c ∷ cs) is some digits = at (IsFront false text) (c == 76) _ _
    (λ long. record {
      front = front ++ 76 ∷ [];
      is = is ∙ (λ i. front ++ eqb-true c 76 long i ∷ cs) ∙ sym (append_assoc front (76 ∷ []) cs);
      some = omega (arith, length-append front (76 ∷ []));
      lexeme = ordinary (lexemes.long_number digits);
    })
    (λ short. record { front = front; is = is; some = some; lexeme = ordinary (lexemes.number digits) })

pub number_found : (c : ℕ) (cs : List ℕ) → lexemes.is_digit c ≡ true → IsFront false (c ∷ cs) (number_at (c ∷ cs))
unfolding number_at
number_found c cs digit =
    let split = number_split c cs digit in
    let rest = behind_number (c ∷ cs) in
    subst (λ u. IsFront false (c ∷ cs) (numbered (lexemes.value_of u) rest)) (sym (passed_is (c ∷ cs) split.front rest split.is))
    (numbered_found (c ∷ cs) split.front rest split.is split.some split.digits)
