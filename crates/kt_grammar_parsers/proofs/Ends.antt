-- Ends of one list.
use Rattle.std.proofs.Common.{
  ◌≡◌,
  ◌≤◌,
  ◌<◌,
  List,
  [],
  ◌∷◌,
  ◌++◌,
  length,
  refl,
  sym,
  ap,
  ◌∙◌,
  append_assoc,
  arith,
  inl,
  inr,
  ◌⊎◌,
  length-append,
}
use Rattle.std.proofs.lemmas.List.{append_cancel_right}
use Rattle.std.proofs.lemmas.Bool.{cases_lt, le-leb, lt-leb}
use Rattle.kt_grammar_parsers.specs.Parsers.{Cursor, cursor, further}

-- both are ends of one list
pub record Tied {T : Type 0} (c : Cursor T) : Type 0 where
  pub whole : List T
  pub before : List T
  pub before' : List T
  pub is : whole ≡ before ++ c.rest
  pub is' : whole ≡ before' ++ c.far

pub record Split {T : Type 0} (b c : List T) : Type 0 where
  pub front : List T
  pub is : b ≡ front ++ c

pub longer_end : {T : Type 0} (u c a b : List T) → u ++ c ≡ a ++ b → length c ≤ length b → Split b c
longer_end u c [] b e h = record { front = u; is = sym e }
longer_end [] c (s ∷ a) b e h = absurd (omega (arith, ap length e, length-append a b))
longer_end (r ∷ u) c (s ∷ a) b e h = let tails : u ++ c ≡ a ++ b = cc in longer_end u c a b tails h

pub same_end : {T : Type 0} (a b x y : List T) → a ++ x ≡ b ++ y → length x ≡ length y → x ≡ y
same_end [] [] x y e n = e
same_end [] (t ∷ b) x y e n = absurd (omega (arith, ap length e, length-append b y))
same_end (s ∷ a) [] x y e n = absurd (omega (arith, ap length e, length-append a x))
same_end (s ∷ a) (t ∷ b) x y e n = let tails : a ++ x ≡ b ++ y = cc in same_end a b x y tails n

-- another common end
pub tied_move : {T : Type 0} (u z k c : List T) → Tied (cursor (u ++ k) (z ++ k)) → Tied (cursor (u ++ c) (z ++ c))
tied_move {T} u z k c t =
    let e : t.before ++ u ≡ t.before' ++ z = append_cancel_right (t.before ++ u) (t.before' ++ z) k (append_assoc t.before u k ∙ sym t.is ∙ t.is' ∙ sym (append_assoc t.before' z k)) in
    record { whole = (t.before ++ u) ++ c; before = t.before; before' = t.before'; is = append_assoc t.before u c; is' = ap (λ (q : List T). q ++ c) e ∙ append_assoc t.before' z c }

-- where the parts in front of a common end are known
pub tied_as : {T : Type 0} (c : Cursor T) (u z k : List T) → Tied c → c.rest ≡ u ++ k → c.far ≡ z ++ k → Tied (cursor (u ++ k) (z ++ k))
tied_as {T} c u z k t e f = record { whole = t.whole; before = t.before; before' = t.before'; is = t.is ∙ ap (λ (q : List T). t.before ++ q) e; is' = t.is' ∙ ap (λ (q : List T). t.before' ++ q) f }

pub cursor_as : {T : Type 0} (c : Cursor T) (u z k : List T) → c.rest ≡ u ++ k → c.far ≡ z ++ k → c ≡ cursor (u ++ k) (z ++ k)
cursor_as {T} c u z k e f = ap (λ (q : List T). cursor q c.far) e ∙ ap (λ (q : List T). cursor (u ++ k) q) f

-- what was examined in vain begins before k, where it is longer than k
pub far_split : {T : Type 0} (c : Cursor T) (u k : List T) → Tied c → c.rest ≡ u ++ k → length k ≤ length c.far → Split c.far k
far_split {T} c u k t e h = longer_end (t.before ++ u) k t.before' c.far (append_assoc t.before u k ∙ ap (λ (q : List T). t.before ++ q) (sym e) ∙ sym t.is ∙ t.is') h

pub far_same : {T : Type 0} (c : Cursor T) (u k : List T) → Tied c → c.rest ≡ u ++ k → length k ≡ length c.far → k ≡ c.far
far_same {T} c u k t e h = same_end (t.before ++ u) t.before' k c.far (append_assoc t.before u k ∙ ap (λ (q : List T). t.before ++ q) (sym e) ∙ sym t.is ∙ t.is') h

-- ---- the further of two ends

pub further_first : {T : Type 0} (a b : List T) → length a ≤ length b → further a b ≡ a
unfolding further
further_first a b h = rw (le-leb (length a) (length b) h) refl

pub further_second : {T : Type 0} (a b : List T) → length b < length a → further a b ≡ b
unfolding further
further_second a b h = rw (lt-leb (length a) (length b) h) refl

pub further_cases : {T : Type 0} (a b : List T) → ((length a ≤ length b) × (further a b ≡ a)) ⊎ ((length b < length a) × (further a b ≡ b))
further_cases a b = elim (cases_lt (length b) (length a)) [ inl lt ↦ inr (lt, further_second a b lt) | inr le ↦ inl (le, further_first a b le) ]

pub further_short : {T : Type 0} (a b : List T) → (length (further a b) ≤ length a) × (length (further a b) ≤ length b)
further_short a b = elim (further_cases a b) [
  | inl f ↦ (omega (arith, ap length f.1), omega (arith, f.0, ap length f.1))
  | inr f ↦ (omega (arith, f.0, ap length f.1), omega (arith, ap length f.1))
]

-- which of two ends is the further does not depend on their common end
pub record Picks {T : Type 0} (u z : List T) : Type 0 where
  pub front : List T
  pub is : (k : List T) → further (u ++ k) (z ++ k) ≡ front ++ k
  pub short : length front ≤ length u
  pub short' : length front ≤ length z

pub picks : {T : Type 0} (u z : List T) → Picks u z
picks u z = elim (cases_lt (length z) (length u)) [
  | inl lt ↦ record { front = z; is = λ k. further_second (u ++ k) (z ++ k) (omega (arith, lt, length-append u k, length-append z k)); short = omega (arith, lt); short' = omega arith }
  | inr le ↦ record { front = u; is = λ k. further_first (u ++ k) (z ++ k) (omega (arith, le, length-append u k, length-append z k)); short = omega arith; short' = omega (arith, le) }
]

-- the mark at an end that the rest has
pub tied_mark : {T : Type 0} (c : Cursor T) (u k : List T) → Tied c → c.rest ≡ u ++ k → Tied (cursor c.rest (further k c.far))
tied_mark {T} c u k t e = elim (further_cases k c.far) [
  | inl f ↦ record { whole = t.whole; before = t.before; before' = t.before ++ u; is = t.is; is' = t.is ∙ ap (λ (q : List T). t.before ++ q) e ∙ sym (append_assoc t.before u k) ∙ ap (λ (q : List T). (t.before ++ u) ++ q) (sym f.1) }
  | inr f ↦ record { whole = t.whole; before = t.before; before' = t.before'; is = t.is; is' = t.is' ∙ ap (λ (q : List T). t.before' ++ q) (sym f.1) }
]

-- the rest moves to an end of it
pub tied_rest : {T : Type 0} (c : Cursor T) (u k : List T) → Tied c → c.rest ≡ u ++ k → Tied (cursor k c.far)
tied_rest {T} c u k t e = record { whole = t.whole; before = t.before ++ u; before' = t.before'; is = t.is ∙ ap (λ (q : List T). t.before ++ q) e ∙ sym (append_assoc t.before u k); is' = t.is' }
