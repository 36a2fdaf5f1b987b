-- Marks that are set, and lists of what waits.
use Rattle.std.proofs.Common.{ℕ, suc, zero, ◌+◌, ◌*◌, Bool, true, false, ◌≡◌, ◌<◌, ◌≤◌, refl, sym, ap, subst, ◌∙◌, ◌⊎◌, inl, inr, List, [], ◌∷◌, ◌++◌, Option, Some, None, length, arith}
use Rattle.std.specs.Prelude.{slice_get, slice_set}
use Rattle.std.proofs.Math.ListN.{replicate}
use Rattle.class_supers.specs.Graph.{Graph, row_or_none}
use Rattle.class_supers.specs.Search.{Waits, open_count, link_count}

pub either_way : (c d : ℕ) → (c ≡ d) ⊎ (c ≡ d → ⊥)
either_way zero zero = inl refl
either_way zero (suc d) = inr (λ e. omega arith)
either_way (suc c) zero = inr (λ e. omega arith)
either_way (suc c) (suc d) = elim (either_way c d) [ inl e ↦ inl (ap suc e) | inr f ↦ inr (λ e. f (omega arith)) ]

-- ---- marks

pub set_other : (seen : List Bool) (c d : ℕ) → (c ≡ d → ⊥) → slice_get (slice_set seen c true) d ≡ slice_get seen d
set_other [] c d h = refl
set_other (x ∷ xs) zero zero h = absurd (h refl)
set_other (x ∷ xs) zero (suc d) h = refl
set_other (x ∷ xs) (suc c) zero h = refl
set_other (x ∷ xs) (suc c) (suc d) h = set_other xs c d (λ e. h (ap suc e))

pub set_here : (seen : List Bool) (c : ℕ) → slice_get seen c ≡ Some false → slice_get (slice_set seen c true) c ≡ Some true
set_here [] c h = cc
set_here (x ∷ xs) zero h = refl
set_here (x ∷ xs) (suc c) h = set_here xs c h

pub set_stays : (seen : List Bool) (c d : ℕ) → slice_get seen c ≡ Some false → slice_get seen d ≡ Some true → slice_get (slice_set seen c true) d ≡ Some true
set_stays seen c d o h = elim (either_way c d) [
  | inl e ↦ subst (λ x. slice_get (slice_set seen c true) x ≡ Some true) e (set_here seen c o)
  | inr f ↦ set_other seen c d f ∙ h
]

pub set_none : (seen : List Bool) (c d : ℕ) → slice_get seen d ≡ None → slice_get (slice_set seen c true) d ≡ None
set_none [] c d h = refl
set_none (x ∷ xs) zero zero h = cc
set_none (x ∷ xs) zero (suc d) h = h
set_none (x ∷ xs) (suc c) zero h = cc
set_none (x ∷ xs) (suc c) (suc d) h = set_none xs c d h

pub set_length : (seen : List Bool) (c : ℕ) → length (slice_set seen c true) ≡ length seen
set_length [] c = refl
set_length (x ∷ xs) zero = refl
set_length (x ∷ xs) (suc c) = ap suc (set_length xs c)

pub was_seen : (seen : List Bool) (c d : ℕ) → slice_get (slice_set seen c true) d ≡ Some true → (c ≡ d) ⊎ (slice_get seen d ≡ Some true)
was_seen seen c d h = elim (either_way c d) [ inl e ↦ inl e | inr f ↦ inr (sym (set_other seen c d f) ∙ h) ]

pub not_false : (seen : List Bool) (d : ℕ) → (slice_get seen d ≡ Some false → ⊥) → (slice_get seen d ≡ Some true) ⊎ (slice_get seen d ≡ None)
not_false [] d f = inr refl
not_false (true ∷ xs) zero f = inl refl
not_false (false ∷ xs) zero f = absurd (f refl)
not_false (x ∷ xs) (suc d) f = not_false xs d f

pub set_count : (seen : List Bool) (c : ℕ) → slice_get seen c ≡ Some false → open_count seen ≡ suc (open_count (slice_set seen c true))
set_count [] c h = cc
set_count (true ∷ xs) zero h = cc
set_count (false ∷ xs) zero h = refl
set_count (true ∷ xs) (suc c) h = set_count xs c h
set_count (false ∷ xs) (suc c) h = ap suc (set_count xs c h)

-- a mark past the end is none
pub none_past : (seen : List Bool) (d : ℕ) → slice_get seen d ≡ None → length seen ≤ d
none_past [] d h = omega arith
none_past (x ∷ xs) zero h = cc
none_past (x ∷ xs) (suc d) h = let le = none_past xs d h in omega arith

-- ---- fresh marks

none_in : (n d : ℕ) → slice_get (replicate n false) d ≡ Some true → ⊥
none_in zero d h = cc
none_in (suc n) zero h = cc
none_in (suc n) (suc d) h = none_in n d h

all_in : (n : ℕ) → length (replicate n false) ≡ n
all_in zero = refl
all_in (suc n) = ap suc (all_in n)

pub none_marked : (seen : List Bool) (n d : ℕ) → seen ≡ replicate n false → slice_get seen d ≡ Some true → ⊥
none_marked seen n d e h = none_in n d (subst (λ xs. slice_get xs d ≡ Some true) e h)

pub as_long : (seen : List Bool) (n : ℕ) → seen ≡ replicate n false → length seen ≡ n
as_long seen n e = ap length e ∙ all_in n

-- ---- what waits

pub has_left : (d : ℕ) (xs ys : List ℕ) → Waits d xs → Waits d (xs ++ ys)
has_left d [] ys h = absurd h
has_left d (x ∷ xs) ys (inl e) = inl e
has_left d (x ∷ xs) ys (inr h) = inr (has_left d xs ys h)

pub has_right : (d : ℕ) (xs ys : List ℕ) → Waits d ys → Waits d (xs ++ ys)
has_right d [] ys h = h
has_right d (x ∷ xs) ys h = inr (has_right d xs ys h)

pub has_split : (d : ℕ) (xs ys : List ℕ) → Waits d (xs ++ ys) → Waits d xs ⊎ Waits d ys
has_split d [] ys h = inr h
has_split d (x ∷ xs) ys (inl e) = inl (inl e)
has_split d (x ∷ xs) ys (inr h) = elim (has_split d xs ys h) [ inl a ↦ inl (inr a) | inr b ↦ inr b ]

pub has_at : (xs : List ℕ) (i d : ℕ) → slice_get xs i ≡ Some d → Waits d xs
has_at [] i d h = cc
has_at (x ∷ xs) zero d h = let e : d ≡ x = cc in inl e
has_at (x ∷ xs) (suc i) d h = inr (has_at xs i d h)

pub at_has : (xs : List ℕ) (d : ℕ) → Waits d xs → (i : ℕ) × (slice_get xs i ≡ Some d)
at_has [] d h = absurd h
at_has (x ∷ xs) d (inl e) = (0, ap Some (sym e))
at_has (x ∷ xs) d (inr h) = let r = at_has xs d h in (suc r.0, r.1)

-- ---- how much is left to do

few_links : (g : Graph) (d : ℕ) (o : Option (List ℕ)) → slice_get g d ≡ o → length (row_or_none o) ≤ link_count g
few_links g d None e = omega arith
few_links [] d (Some links) e = cc
few_links (x ∷ g) zero (Some links) e = let same : x ≡ links = cc in rw (← same) (omega arith)
few_links (x ∷ g) (suc d) (Some links) e = let r : length links ≤ link_count g = few_links g d (Some links) e in omega arith

room : (u v m w k : ℕ) → u ≡ suc v → k ≤ m → v * (m + 1) + (w + k) < u * (m + 1) + (w + 1)
room u v m w k e le = rw e (omega arith)

pub less_waits : (u m w : ℕ) → u * (m + 1) + w < u * (m + 1) + (w + 1)
less_waits u m w = omega arith

pub fewer_open : (g : Graph) (seen : List Bool) (next w : ℕ) → slice_get seen next ≡ Some false → open_count (slice_set seen next true) * (link_count g + 1) + (w + length (row_or_none (slice_get g next))) < open_count seen * (link_count g + 1) + (w + 1)
fewer_open g seen next w o = room (open_count seen) (open_count (slice_set seen next true)) (link_count g) w (length (row_or_none (slice_get g next))) (set_count seen next o) (few_links g next (slice_get g next) refl)
