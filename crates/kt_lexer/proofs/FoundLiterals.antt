-- A character literal and an escape that are found at the front of a text are such.
use Rattle.std.proofs.Common.{
  ◌≡◌,
  ℕ,
  true,
  false,
  ◌&&◌,
  List,
  [],
  ◌∷◌,
  ◌++◌,
  Option,
  None,
  Some,
  refl,
  sym,
  ap,
  subst,
  ◌∙◌,
  arith,
}
use Rattle.std.specs.Prelude.{◌==◌}
use Rattle.std.proofs.lemmas.Bool.{eqb-true}
use Rattle.std.proofs.lemmas.List.{append_assoc}
use Rattle.kt_tree.specs.declared.tokens.TokenKind.TheVariants as kind
use Rattle.kt_lexer.specs.Lexemes as lexemes
use Rattle.kt_lexer.specs.Lexemes.{IsSimpleEscape, IsEscape, simple, by_digits, IsOrdinary}
use Rattle.kt_lexer.specs.Texts.{ordinary}
use Rattle.kt_lexer.specs.Scanning.{
  simple_escape,
  four_digits,
  simple_or,
  escape_at,
  closed_character,
  escaped_character,
  character_at,
}
use Rattle.kt_lexer.proofs.Cases.{at, both}
use Rattle.kt_lexer.proofs.Found.{IsFound}

-- what is found behind a `\` is an escape
abbrev pub IsEscapeFound : List ℕ → Option (ℕ × List ℕ) → Type 0
IsEscapeFound text None = Unit {0}
IsEscapeFound text (Some found) = (u : List ℕ) × IsEscape (92 ∷ u) found.0 × (text ≡ u ++ found.1)

abbrev IsSimple : ℕ → Option ℕ → Type 0
IsSimple c None = Unit {0}
IsSimple c (Some unit) = IsSimpleEscape c unit

one : (c d unit : ℕ) → (c == d) ≡ true → IsSimpleEscape d unit → IsSimpleEscape c unit
one c d unit is e = subst (λ c. IsSimpleEscape c unit) (sym (eqb-true c d is)) e

simple_found : (c : ℕ) → IsSimple c (simple_escape c)
unfolding simple_escape
simple_found c =
    at (IsSimple c) (c == 116) _ _ (λ is. one c 116 9 is lexemes.tab) (λ _. at (IsSimple c) (c == 98) _ _ (λ is. one c 98 8 is lexemes.backspace)
    (λ _. at (IsSimple c) (c == 110) _ _ (λ is. one c 110 10 is lexemes.line_feed) (λ _. at (IsSimple c) (c == 114) _ _ (λ is. one c 114 13 is lexemes.carriage_return)
    (λ _. at (IsSimple c) (c == 39) _ _ (λ is. one c 39 39 is lexemes.quote) (λ _. at (IsSimple c) (c == 34) _ _ (λ is. one c 34 34 is lexemes.double_quote)
    (λ _. at (IsSimple c) (c == 92) _ _ (λ is. one c 92 92 is lexemes.backslash) (λ _. at (IsSimple c) (c == 36) _ _ (λ is. one c 36 36 is lexemes.dollar) (λ _. tt))))))))

simple_or_found : (c : ℕ) (cs : List ℕ) (o : Option ℕ) → IsSimple c o → IsEscapeFound (c ∷ cs) (simple_or o cs)
simple_or_found c cs None is = tt
simple_or_found c cs (Some unit) is = (c ∷ [], simple is, refl)

four_found : (text : List ℕ) → IsEscapeFound (117 ∷ text) (four_digits text)
unfolding four_digits
four_found [] = tt
four_found (a ∷ []) = tt
four_found (a ∷ b ∷ []) = tt
four_found (a ∷ b ∷ c ∷ []) = tt
four_found (a ∷ b ∷ c ∷ d ∷ rest) =
    at (IsEscapeFound (117 ∷ a ∷ b ∷ c ∷ d ∷ rest)) (lexemes.is_hexadecimal a && lexemes.is_hexadecimal b && lexemes.is_hexadecimal c && lexemes.is_hexadecimal d) _ _
    (λ is. let abc = both _ _ is in
    let ab = both _ _ abc.0 in
    let one = both _ _ ab.0 in
    (117 ∷ a ∷ b ∷ c ∷ d ∷ [], by_digits a b c d (one.0, (one.1, (ab.1, (abc.1, tt)))), refl))
    (λ _. tt)

pub escape_found : (text : List ℕ) → IsEscapeFound text (escape_at text)
unfolding escape_at
escape_found [] = tt
escape_found (c ∷ cs) = at (IsEscapeFound (c ∷ cs)) (c == 117) _ _
    (λ is. subst (λ c. IsEscapeFound (c ∷ cs) (four_digits cs)) (sym (eqb-true c 117 is)) (four_found cs))
    (λ _. simple_or_found c cs (simple_escape c) (simple_found c))

closed_found : (u : List ℕ) (unit : ℕ) (rest text : List ℕ) → text ≡ 39 ∷ (u ++ rest) → ((more : List ℕ) → IsOrdinary (39 ∷ (u ++ 39 ∷ [])) more (kind.Character unit))
    → IsFound false text (closed_character unit rest)
closed_found u unit [] text is literal = tt
closed_found u unit (c ∷ cs) text is literal = at (IsFound false text) (c == 39) _ _
    (λ quote. record {
      front = 39 ∷ (u ++ 39 ∷ []);
      is = is ∙ (λ i. 39 ∷ (u ++ eqb-true c 39 quote i ∷ cs)) ∙ ap (λ l. 39 ∷ l) (sym (append_assoc u (39 ∷ []) cs));
      some = omega arith;
      lexeme = ordinary (literal cs);
    })
    (λ _. tt)

escaped_found : (text : List ℕ) (o : Option (ℕ × List ℕ)) → IsEscapeFound text o → IsFound false (39 ∷ 92 ∷ text) (escaped_character o)
escaped_found text None found = tt
escaped_found text (Some f) found =
    closed_found (92 ∷ found.0) f.0 f.1 (39 ∷ 92 ∷ text) (ap (λ l. 39 ∷ 92 ∷ l) found.2) (λ more. lexemes.escaped_character found.1)

pub character_found : (text : List ℕ) → IsFound false (39 ∷ text) (character_at text)
unfolding character_at
character_found [] = tt
character_found (c ∷ cs) = at (IsFound false (39 ∷ c ∷ cs)) (lexemes.is_plain c) _ _
    (λ plain. closed_found (c ∷ []) c cs (39 ∷ c ∷ cs) refl (λ more. lexemes.character plain))
    (λ _. at (IsFound false (39 ∷ c ∷ cs)) (c == 92) _ _
    (λ is. subst (λ c. IsFound false (39 ∷ c ∷ cs) (escaped_character (escape_at cs))) (sym (eqb-true c 92 is)) (escaped_found cs (escape_at cs) (escape_found cs)))
    (λ _. tt))
