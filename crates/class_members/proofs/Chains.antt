-- One more step up.
use Rattle.std.proofs.Common.{ℕ, zero, suc, ◌+◌, ◌≤◌, ◌<◌, ◌⊎◌, inl, inr, ◌≡◌, refl, sym, ap, subst, ◌∙◌, List, [], ◌∷◌, ◌++◌, Option, None, arith}
use Rattle.class_members.specs.Above.{chain_below, climbed, list_of, parent_at}

pub chain_next : (parents : List (Option ℕ)) (n c : ℕ) (chain : List ℕ) (here : Option ℕ) → chain ≡ chain_below parents n c → here ≡ climbed parents n c → chain ++ list_of here ≡ chain_below parents (n + 1) c
unfolding chain_below
chain_next parents n c chain here e h =
    let next : suc n ≡ n + 1 = omega arith in
    subst (λ m. chain ++ list_of here ≡ chain_below parents m c) next (rw (e, h) refl)

pub climbed_next : (parents : List (Option ℕ)) (n c : ℕ) (here : Option ℕ) → here ≡ climbed parents n c → parent_at parents here ≡ climbed parents (n + 1) c
unfolding climbed
climbed_next parents n c here h =
    let next : suc n ≡ n + 1 = omega arith in
    subst (λ m. parent_at parents here ≡ climbed parents m c) next (rw h refl)

nil_right : (xs : List ℕ) → xs ++ [] ≡ xs
nil_right [] = refl
nil_right (x ∷ xs) = ap (λ ys. x ∷ ys) (nil_right xs)

below_or_at : (step n : ℕ) → step ≤ suc n → (step ≤ n) ⊎ (step ≡ suc n)
below_or_at zero n h = inl (omega arith)
below_or_at (suc step) zero h = inr (omega arith)
below_or_at (suc step) (suc n) h = elim (below_or_at step n (omega arith)) [ inl l ↦ inl (omega arith) | inr e ↦ inr (ap suc e) ]

none_at : (step n : ℕ) → step ≤ n → n ≡ 0 → step ≡ 0
none_at step n le e = omega arith

-- above what is above nothing there is nothing
stays : (parents : List (Option ℕ)) (c step n : ℕ) → climbed parents step c ≡ None → step ≤ n → climbed parents n c ≡ None
unfolding climbed
stays parents c step zero h le = subst (λ m. climbed parents m c ≡ None) (none_at step zero le refl) h
stays parents c step (suc n) h le = elim (below_or_at step n le) [
  | inl l ↦ ap (parent_at parents) (stays parents c step n h l)
  | inr e ↦ subst (λ m. climbed parents m c ≡ None) e h
]

chain_within : (parents : List (Option ℕ)) (c step n : ℕ) → climbed parents step c ≡ None → step ≤ n → chain_below parents n c ≡ chain_below parents step c
unfolding chain_below
chain_within parents c step zero h le = ap (λ m. chain_below parents m c) (sym (none_at step zero le refl))
chain_within parents c step (suc n) h le = elim (below_or_at step n le) [
  | inl l ↦ ap (λ o. chain_below parents n c ++ list_of o) (stays parents c step n h l)
      ∙ nil_right (chain_below parents n c) ∙ chain_within parents c step n h l
  | inr e ↦ ap (λ m. chain_below parents m c) (sym e)
]

pub chain_ends : (parents : List (Option ℕ)) (c step n : ℕ) (chain : List ℕ) (here : Option ℕ) → chain ≡ chain_below parents step c → here ≡ climbed parents step c → here ≡ None → step < n → chain ≡ chain_below parents n c
chain_ends parents c step n chain here e h none lt =
    e ∙ sym (chain_within parents c step n (sym h ∙ none) (omega arith))
