-- A sign that is found at the front of a text is one.
use Rattle.std.proofs.Common.{
  ◌≡◌,
  ℕ,
  ◌<◌,
  Bool,
  true,
  false,
  cond,
  ◌&&◌,
  not,
  List,
  [],
  ◌∷◌,
  ◌++◌,
  Option,
  None,
  Some,
  length,
  drop,
  refl,
  sym,
  ap,
  subst,
  ◌∙◌,
  arith,
}
use Rattle.std.specs.Prelude.{◌==◌}
use Rattle.std.specs.Option.{option_map}
use Rattle.std.proofs.lemmas.Bool.{eqb-true}
use Rattle.kt_tree.specs.declared.tokens.Sign.{Sign}
use Rattle.kt_tree.specs.declared.tokens.Sign.TheVariants as sign
use Rattle.kt_tree.specs.declared.tokens.TokenKind.TheVariants as kind
use Rattle.kt_lexer.specs.declared.shapes.Shape.TheVariants as shape
use Rattle.kt_lexer.specs.Lexemes as lexemes
use Rattle.kt_lexer.specs.Lexemes.{first, sign_text, may_follow, is_word}
use Rattle.kt_lexer.specs.Texts.{IsLexeme, of_kind, ordinary, between_tokens}
use Rattle.kt_lexer.specs.Scanning.{
  double_sign,
  single_sign,
  single_at,
  double_or,
  sign_at,
  slash_at,
  behind_is,
  exclamation_at,
  comment_rest,
  blank_before,
  Found,
}
use Rattle.kt_lexer.proofs.Cases.{at, both}
use Rattle.kt_lexer.proofs.Found.{IsFront, IsFound}
use Rattle.kt_lexer.proofs.FoundComments.{line_split, comment_found}

abbrev IsDouble : ℕ → ℕ → Option Sign → Type 0
IsDouble c d None = Unit {0}
IsDouble c d (Some s) = (sign_text s ≡ c ∷ d ∷ []) × ((rest : List ℕ) → may_follow s rest ≡ true)

pair : (a b c d : ℕ) → (c == a) ≡ true → (d == b) ≡ true → a ∷ b ∷ [] ≡ c ∷ d ∷ []
pair a b c d x y = λ i. sym (eqb-true c a x) i ∷ sym (eqb-true d b y) i ∷ []

twice : (a c d : ℕ) → not (c == d) ≡ false → (c == a) ≡ true → a ∷ a ∷ [] ≡ c ∷ d ∷ []
twice a c d same x =
    let is_c = eqb-true c a x in
    let is_d = eqb-true c d (negated (c == d) same) in
    λ i. sym is_c i ∷ (sym is_c ∙ is_d) i ∷ []
  where
    negated : (b : Bool) → not b ≡ false → b ≡ true
    negated true h = refl
    negated false h = cc

double_found : (c d : ℕ) → IsDouble c d (double_sign c d)
unfolding double_sign
double_found c d =
    at (IsDouble c d) (c == 43) _ _ (λ x. at (IsDouble c d) (d == 43) _ _ (λ y. (pair 43 43 c d x y, λ rest. refl)) (λ _. at (IsDouble c d) (d == 61) _ _ (λ y. (pair 43 61 c d x y, λ rest. refl)) (λ _. tt)))
    (λ _. at (IsDouble c d) (c == 45) _ _ (λ x. at (IsDouble c d) (d == 45) _ _ (λ y. (pair 45 45 c d x y, λ rest. refl)) (λ _. at (IsDouble c d) (d == 61) _ _ (λ y. (pair 45 61 c d x y, λ rest. refl))
    (λ _. at (IsDouble c d) (d == 62) _ _ (λ y. (pair 45 62 c d x y, λ rest. refl)) (λ _. tt))))
    (λ _. at (IsDouble c d) (c == 33) _ _ (λ x. at (IsDouble c d) (d == 61) _ _ (λ y. (pair 33 61 c d x y, λ rest. refl)) (λ _. at (IsDouble c d) (d == 33) _ _ (λ y. (pair 33 33 c d x y, λ rest. refl)) (λ _. tt)))
    (λ _. at (IsDouble c d) (c == 63) _ _ (λ x. at (IsDouble c d) (d == 46) _ _ (λ y. (pair 63 46 c d x y, λ rest. refl)) (λ _. at (IsDouble c d) (d == 58) _ _ (λ y. (pair 63 58 c d x y, λ rest. refl)) (λ _. tt)))
    (λ _. at (IsDouble c d) (d == 61) _ _
    (λ y. at (IsDouble c d) (c == 42) _ _ (λ x. (pair 42 61 c d x y, λ rest. refl)) (λ _. at (IsDouble c d) (c == 47) _ _ (λ x. (pair 47 61 c d x y, λ rest. refl))
    (λ _. at (IsDouble c d) (c == 37) _ _ (λ x. (pair 37 61 c d x y, λ rest. refl)) (λ _. at (IsDouble c d) (c == 61) _ _ (λ x. (pair 61 61 c d x y, λ rest. refl))
    (λ _. at (IsDouble c d) (c == 60) _ _ (λ x. (pair 60 61 c d x y, λ rest. refl)) (λ _. at (IsDouble c d) (c == 62) _ _ (λ x. (pair 62 61 c d x y, λ rest. refl)) (λ _. tt)))))))
    (λ _. at (IsDouble c d) (not (c == d)) _ _ (λ _. tt)
    (λ same. at (IsDouble c d) (c == 38) _ _ (λ x. (twice 38 c d same x, λ rest. refl)) (λ _. at (IsDouble c d) (c == 124) _ _ (λ x. (twice 124 c d same x, λ rest. refl))
    (λ _. at (IsDouble c d) (c == 46) _ _ (λ x. (twice 46 c d same x, λ rest. refl)) (λ _. tt)))))))))

-- no comment begins
abbrev NoComment : ℕ → List ℕ → Type 0
NoComment c rest = not ((c == 47) && first (λ d. d == 42) rest) ≡ true

abbrev IsSingle : ℕ → Option Sign → Type 0
IsSingle c None = Unit {0}
IsSingle c (Some s) = (sign_text s ≡ c ∷ []) × ((rest : List ℕ) → NoComment c rest → may_follow s rest ≡ true)

alone : (a c : ℕ) → (c == a) ≡ true → a ∷ [] ≡ c ∷ []
alone a c x = λ i. sym (eqb-true c a x) i ∷ []

single_found : (c : ℕ) → IsSingle c (single_sign c)
unfolding single_sign
single_found c =
    at (IsSingle c) (c == 40) _ _ (λ x. (alone 40 c x, λ rest h. refl)) (λ _. at (IsSingle c) (c == 41) _ _ (λ x. (alone 41 c x, λ rest h. refl))
    (λ _. at (IsSingle c) (c == 91) _ _ (λ x. (alone 91 c x, λ rest h. refl)) (λ _. at (IsSingle c) (c == 93) _ _ (λ x. (alone 93 c x, λ rest h. refl))
    (λ _. at (IsSingle c) (c == 123) _ _ (λ x. (alone 123 c x, λ rest h. refl)) (λ _. at (IsSingle c) (c == 125) _ _ (λ x. (alone 125 c x, λ rest h. refl))
    (λ _. at (IsSingle c) (c == 46) _ _ (λ x. (alone 46 c x, λ rest h. refl)) (λ _. at (IsSingle c) (c == 44) _ _ (λ x. (alone 44 c x, λ rest h. refl))
    (λ _. at (IsSingle c) (c == 58) _ _ (λ x. (alone 58 c x, λ rest h. refl)) (λ _. at (IsSingle c) (c == 59) _ _ (λ x. (alone 59 c x, λ rest h. refl))
    (λ _. at (IsSingle c) (c == 61) _ _ (λ x. (alone 61 c x, λ rest h. refl)) (λ _. at (IsSingle c) (c == 43) _ _ (λ x. (alone 43 c x, λ rest h. refl))
    (λ _. at (IsSingle c) (c == 45) _ _ (λ x. (alone 45 c x, λ rest h. refl)) (λ _. at (IsSingle c) (c == 42) _ _ (λ x. (alone 42 c x, λ rest h. refl))
    (λ _. at (IsSingle c) (c == 47) _ _ (λ x. (alone 47 c x, λ rest h. (λ i. not (sym x i && first (λ d. d == 42) rest)) ∙ h))
    (λ _. at (IsSingle c) (c == 37) _ _ (λ x. (alone 37 c x, λ rest h. refl))
    (λ _. at (IsSingle c) (c == 60) _ _ (λ x. (alone 60 c x, λ rest h. refl)) (λ _. at (IsSingle c) (c == 62) _ _ (λ x. (alone 62 c x, λ rest h. refl))
    (λ _. at (IsSingle c) (c == 33) _ _ (λ x. (alone 33 c x, λ rest h. refl)) (λ _. at (IsSingle c) (c == 63) _ _ (λ x. (alone 63 c x, λ rest h. refl))
    (λ _. tt))))))))))))))))))))

mark_found : (s : Sign) (u rest text : List ℕ) → sign_text s ≡ u → may_follow s rest ≡ true → text ≡ u ++ rest → 0 < length u → IsFront false text (shape.Sign s, rest)
mark_found s u rest text is follows split some = record {
  front = u;
  is = split;
  some = some;
  lexeme = subst (λ u. IsLexeme false u rest (of_kind (kind.Sign s))) is (ordinary (lexemes.mark s follows));
}

single_at_found : (c : ℕ) (text : List ℕ) (o : Option Sign) → IsSingle c o → NoComment c text → IsFound false (c ∷ text) (single_at o text)
single_at_found c text None is free = tt
single_at_found c text (Some s) is free = mark_found s (c ∷ []) text (c ∷ text) is.0 (is.1 text free) refl (omega arith)

double_or_found : (c d : ℕ) (rest : List ℕ) (o : Option Sign) (other : Found) → IsDouble c d o → IsFound false (c ∷ d ∷ rest) other → IsFound false (c ∷ d ∷ rest) (double_or o rest other)
double_or_found c d rest None other is found = found
double_or_found c d rest (Some s) other is found = mark_found s (c ∷ d ∷ []) rest (c ∷ d ∷ rest) is.0 (is.1 rest) refl (omega arith)

pub sign_found : (c : ℕ) (text : List ℕ) → NoComment c text → IsFound false (c ∷ text) (sign_at c text)
unfolding sign_at
sign_found c [] free = single_at_found c [] (single_sign c) (single_found c) free
sign_found c (d ∷ rest) free = double_or_found c d rest (double_sign c d) _ (double_found c d) (single_at_found c (d ∷ rest) (single_sign c) (single_found c) free)

comment_at_found : (text : List ℕ) (o : Option (List ℕ)) → comment_rest 0 text ≡ o → IsFound false (47 ∷ 42 ∷ text) (blank_before o)
comment_at_found text None is = tt
comment_at_found text (Some rest) is = let found = comment_found text rest is in
    record { front = 47 ∷ 42 ∷ found.0; is = ap (λ l. 47 ∷ 42 ∷ l) found.2; some = omega arith; lexeme = between_tokens (lexemes.comment found.1) }

pub slash_found : (text : List ℕ) → IsFound false (47 ∷ text) (slash_at text)
unfolding slash_at
slash_found [] = sign_found 47 [] refl
slash_found (d ∷ cs) = at (IsFound false (47 ∷ d ∷ cs)) (d == 47) _ _
    (λ is. let split = line_split cs in
    record { front = 47 ∷ 47 ∷ split.front; is = λ i. 47 ∷ eqb-true d 47 is i ∷ split.is i; some = omega arith; lexeme = between_tokens (lexemes.line_comment split.to_end) })
    (λ _. at (IsFound false (47 ∷ d ∷ cs)) (d == 42) _ _
    (λ is. subst (λ d. IsFound false (47 ∷ d ∷ cs) (blank_before (comment_rest 0 cs))) (sym (eqb-true d 42 is)) (comment_at_found cs (comment_rest 0 cs) refl))
    (λ no. sign_found 47 (d ∷ cs) (ap not no)))

is_found : (text rest : List ℕ) → behind_is text ≡ Some rest → (text ≡ 105 ∷ 115 ∷ rest) × (drop 2 text ≡ rest) × (not (first is_word rest) ≡ true)
is_found [] rest e = cc
is_found (c ∷ []) rest e = cc
is_found (c ∷ d ∷ cs) rest e = step ((c == 105) && (d == 115) && not (first is_word cs)) refl e
  where
    step : (b : Bool) → ((c == 105) && (d == 115) && not (first is_word cs)) ≡ b → cond b (Some cs) None ≡ Some rest
        → (c ∷ d ∷ cs ≡ 105 ∷ 115 ∷ rest) × (drop 2 (c ∷ d ∷ cs) ≡ rest) × (not (first is_word rest) ≡ true)
    step true is e =
        let parts = both _ _ is in
        let spelled = both _ _ parts.0 in
        let same : cs ≡ rest = cc in
        ((λ i. eqb-true c 105 spelled.0 i ∷ eqb-true d 115 spelled.1 i ∷ same i), same, ap (λ l. not (first is_word l)) (sym same) ∙ parts.1)
    step false is e = cc

not_is_found : (text : List ℕ) (o : Option (List ℕ)) (other : Found) → behind_is text ≡ o → IsFound false (33 ∷ text) other
    → IsFound false (33 ∷ text) (double_or (option_map (λ rest. sign.NotIs) o) (drop 2 text) other)
not_is_found text None other is found = found
not_is_found text (Some rest) other is found =
    let parts = is_found text rest is in
    subst (λ r. IsFront false (33 ∷ text) (shape.Sign sign.NotIs, r)) (sym parts.1) (mark_found sign.NotIs (33 ∷ 105 ∷ 115 ∷ []) rest (33 ∷ text) refl parts.2 (ap (λ l. 33 ∷ l) parts.0) (omega arith))

pub exclamation_found : (text : List ℕ) → IsFound false (33 ∷ text) (exclamation_at text)
unfolding exclamation_at
exclamation_found text = not_is_found text (behind_is text) _ refl (sign_found 33 text refl)
