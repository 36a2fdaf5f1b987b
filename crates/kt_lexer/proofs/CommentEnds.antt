-- What stands behind a comment, by its first two characters.
use Rattle.std.proofs.Common.{
  ◌≡◌,
  ℕ,
  ◌+◌,
  ◌-◌,
  ◌<◌,
  ◌≤◌,
  true,
  false,
  List,
  [],
  ◌∷◌,
  Some,
  None,
  length,
  get_or,
  take,
  drop,
  refl,
  sym,
  ◌∙◌,
  arith,
}
use Rattle.std.specs.Prelude.{◌==◌, if◌then◌else◌}
use Rattle.std.proofs.lemmas.List.{take_all, length-drop}
use Rattle.kt_lexer.specs.Scanning.{comment_rest, opens_comment, closes_comment}

pub rest_is : (k : ℕ) (text : List ℕ) → take (length text - k) (drop k text) ≡ drop k text
rest_is k text = take_all _ _ (omega (arith, length-drop k text))

pub rest_shorter : (k : ℕ) (text : List ℕ) → k ≤ length text → length (take (length text - k) (drop k text)) + k ≡ length text
rest_shorter k text h = rw (rest_is k text) (omega (arith, length-drop k text))

module _ (depth : ℕ) where
  pub too_short : (text : List ℕ) → length text < 2 → comment_rest depth text ≡ None
  too_short [] h = refl
  too_short (c ∷ []) h = refl
  too_short (c ∷ d ∷ text) h = absurd (omega arith)

  module _ (c d : ℕ) where
    -- where a comment opens, it goes on one deeper
    pub at_opening : (text : List ℕ) → c ≡ get_or text 0 c → d ≡ get_or text 1 d → 2 ≤ length text → opens_comment c d ≡ true
        → comment_rest depth text ≡ comment_rest (depth + 1) (take (length text - 2) (drop 2 text))
    at_opening [] first second two is = absurd (omega arith)
    at_opening (c' ∷ []) first second two is = absurd (omega arith)
    at_opening (c' ∷ d' ∷ text) first second two is =
        let opens : opens_comment c' d' ≡ true = (λ i. opens_comment (sym first i) (sym second i)) ∙ is in
        rw (opens, rest_is 2 (c' ∷ d' ∷ text)) refl

    -- where one closes, it goes on one higher, or ends
    pub at_closing : (text : List ℕ) → c ≡ get_or text 0 c → d ≡ get_or text 1 d → 2 ≤ length text → opens_comment c d ≡ false → closes_comment c d ≡ true
        → comment_rest depth text ≡ (if depth == 0 then Some (take (length text - 2) (drop 2 text)) else comment_rest (depth - 1) (take (length text - 2) (drop 2 text)))
    at_closing [] first second two not_opening is = absurd (omega arith)
    at_closing (c' ∷ []) first second two not_opening is = absurd (omega arith)
    at_closing (c' ∷ d' ∷ text) first second two not_opening is =
        let opens : opens_comment c' d' ≡ false = (λ i. opens_comment (sym first i) (sym second i)) ∙ not_opening in
        let closes : closes_comment c' d' ≡ true = (λ i. closes_comment (sym first i) (sym second i)) ∙ is in
        rw (opens, closes, rest_is 2 (c' ∷ d' ∷ text)) refl

    pub elsewhere : (text : List ℕ) → c ≡ get_or text 0 c → d ≡ get_or text 1 d → 2 ≤ length text → opens_comment c d ≡ false → closes_comment c d ≡ false
        → comment_rest depth text ≡ comment_rest depth (take (length text - 1) (drop 1 text))
    elsewhere [] first second two not_opening is = absurd (omega arith)
    elsewhere (c' ∷ []) first second two not_opening is = absurd (omega arith)
    elsewhere (c' ∷ d' ∷ text) first second two not_opening is =
        let opens : opens_comment c' d' ≡ false = (λ i. opens_comment (sym first i) (sym second i)) ∙ not_opening in
        let closes : closes_comment c' d' ≡ false = (λ i. closes_comment (sym first i) (sym second i)) ∙ is in
        rw (opens, closes, rest_is 1 (c' ∷ d' ∷ text)) refl
