-- What is marked in the end is what has no row at or above it that leads back to itself.
use Rattle.std.proofs.Common.{ℕ, suc, zero, Bool, true, false, ◌≡◌, ◌<◌, ◌≤◌, refl, sym, ap, subst, ◌∙◌, ◌⊎◌, inl, inr, List, [], ◌∷◌, Some, None, Option, length, arith}
use Rattle.std.specs.Prelude.{slice_get, slice_set, IsTrue}
use Rattle.std.specs.List.{list_any, IsDistinct, AllByRecursion}
use Rattle.std.proofs.Math.Dec.{eqb}
use Rattle.std.proofs.Math.ListN.{replicate}
use Rattle.std.proofs.lemmas.Bool.Decides.{eqb_tells}
use Rattle.std.proofs.lemmas.Map.Steps.{length-le_from_distinct_below}
use Rattle.kt_types.specs.Kinds.{flag, or_false}
use Rattle.kt_types_order.specs.Graph.{Graph, Leads, Reaches, at_once, further, row_or_none}
use Rattle.kt_types_climbing.proofs.Weights.{IsWay, there, further_up}
use Rattle.kt_types_cycles.specs.Settled.{IsDone, IsSettled, IsOpenLink, AreLinksDone, open_count}
use Rattle.kt_types_cycles.proofs.Marks as marks
use Rattle.kt_types_cycles.proofs.Settling.{marked}
use Rattle.kt_decls_grounded.specs.Grounded.{IsGroundedIn, IsStuck}

pub settled_on : (g : Graph) (slice done : List Bool) (row : ℕ) → IsSettled g done → slice_get done row ≡ Some false → AreLinksDone (row_or_none (slice_get g row)) slice → slice ≡ done → IsSettled g (slice_set done row true)
settled_on g slice done row settled open_now all same = marked g done settled row open_now (subst (AreLinksDone (row_or_none (slice_get g row))) same all)

set_length : (m : List Bool) (row : ℕ) → length (slice_set m row true) ≡ length m
set_length [] row = refl
set_length (b ∷ m) zero = refl
set_length (b ∷ m) (suc row) = ap suc (set_length m row)

pub long_on : (m : List Bool) (row n : ℕ) → length m ≡ n → length (slice_set m row true) ≡ n
long_on m row n e = set_length m row ∙ e

pub fewer_open : (m : List Bool) (row : ℕ) → slice_get m row ≡ Some false → open_count (slice_set m row true) < open_count m
fewer_open m row e = let c = marks.set_count m row e in omega arith

long_as : (n : ℕ) → length (replicate n false) ≡ n
long_as zero = refl
long_as (suc n) = ap suc (long_as n)

pub long_first : (m : List Bool) (n : ℕ) → m ≡ replicate n false → length m ≡ n
long_first m n e = ap length e ∙ long_as n

open_at : (n row : ℕ) → row < n → slice_get (replicate n false) row ≡ Some false
open_at zero row lt = absurd (omega arith)
open_at (suc n) zero lt = refl
open_at (suc n) (suc row) lt = open_at n row (omega arith)

flag_set : (m : List Bool) (row : ℕ) → flag m row ≡ true → IsDone m row
flag_set m row f e = let clash : false ≡ true = sym (ap or_false e) ∙ f in cc

open_or_set : (m : List Bool) (row : ℕ) → row < length m → (slice_get m row ≡ Some false) ⊎ (flag m row ≡ true)
open_or_set [] row lt = absurd (omega arith)
open_or_set (true ∷ m) zero lt = inr refl
open_or_set (false ∷ m) zero lt = inl refl
open_or_set (b ∷ m) (suc row) lt = open_or_set m row (omega arith)

module _ (g : Graph) where
  -- the rows on a way
  places : (n c : ℕ) → IsWay g n c → List ℕ
  places zero c w = []
  places (suc n) c w = c ∷ places n w.0 w.1.1

  as_many : (n c : ℕ) (w : IsWay g n c) → length (places n c w) ≡ n
  unfolding places
  as_many zero c w = refl
  as_many (suc n) c w = ap suc (as_many n w.0 w.1.1)

  below_rest : (q c : ℕ) (rest : List ℕ) → c < length g → (list_any (eqb q) rest ≡ true → q < length g) → list_any (eqb q) (c ∷ rest) ≡ true → q < length g
  below_rest q c rest lt more h = elim (eqb_tells q c) [ inl e ↦ subst (λ x. x < length g) (sym e.1) lt | inr e ↦ more (rw e.0 at h) ]

  all_below : (n c : ℕ) (w : IsWay g n c) (q : ℕ) → list_any (eqb q) (places n c w) ≡ true → q < length g
  unfolding places
  all_below zero c w q h = cc
  all_below (suc n) c w q h = below_rest q c (places n w.0 w.1.1) (there g c w.0 w.1.0) (all_below n w.0 w.1.1 q) h

  onwards : (c d e : ℕ) → Leads g c d → (d ≡ e) ⊎ Reaches g d e → Reaches g c e
  onwards c d e l (inl same) = at_once (subst (Leads g c) same l)
  onwards c d e l (inr r) = further l r

  up_one : (c d : ℕ) → IsGroundedIn g c → Leads g c d → IsGroundedIn g d
  up_one c d ends l = λ e r. ends e (inr (onwards c d e l r))

  apart : (c d : ℕ) → IsGroundedIn g c → Reaches g c d → eqb c d ≡ false
  apart c d ends r = elim (eqb_tells c d) [ inl e ↦ absurd (ends c (inl refl) (subst (Reaches g c) (sym e.1) r)) | inr e ↦ e.0 ]

  all_apart : (c n d : ℕ) (w : IsWay g n d) → IsGroundedIn g c → Reaches g c d → AllByRecursion (λ y. eqb c y ≡ false) (places n d w)
  unfolding places
  all_apart c zero d w ends r = tt
  all_apart c (suc n) d w ends r = (apart c d ends r, all_apart c n w.0 w.1.1 ends (further_up g w.0 r w.1.0))

  distinct : (n c : ℕ) (w : IsWay g n c) → IsGroundedIn g c → IsDistinct eqb (places n c w)
  unfolding IsDistinct places
  distinct zero c w ends = tt
  distinct (suc n) c w ends = (all_apart c n w.0 w.1.1 ends (at_once w.1.0), distinct n w.0 w.1.1 (up_one c w.0 ends w.1.0))

  short : (n c : ℕ) → IsWay g n c → IsGroundedIn g c → n ≤ length g
  short n c w ends = subst (λ m. m ≤ length g) (as_many n c w) (length-le_from_distinct_below (places n c w) (length g) (distinct n c w ends) (all_below n c w))

  module _ (done : List Bool) (stuck : (row : ℕ) → row < length g → IsStuck g done row) where
    on_and_on : (n row : ℕ) → slice_get done row ≡ Some false → row < length g → (long : length done ≡ length g) → IsWay g n row
    on_and_on zero row o lt long = tt
    on_and_on (suc n) row o lt long =
        let next = stuck row lt o in
        (next.0, ((next.1.0, next.1.1.0), on_and_on n next.0 next.1.1.1 (subst (λ m. next.0 < m) long (within done next.0 next.1.1.1)) long))
      where
        within : (m : List Bool) (d : ℕ) → slice_get m d ≡ Some false → d < length m
        within [] d e = absurd cc
        within (b ∷ m) zero e = omega arith
        within (b ∷ m) (suc d) e = let r : d < length m = within m d e in omega arith

    not_grounded : (row : ℕ) → slice_get done row ≡ Some false → row < length g → length done ≡ length g → IsGroundedIn g row → ⊥
    not_grounded row o lt long ends = let h : suc (length g) ≤ length g = short (suc (length g)) row (on_and_on (suc (length g)) row o lt long) ends in omega arith

  module _ (done : List Bool) (settled : IsSettled g done) where
    reached_done : (c d : ℕ) → IsDone done c → Reaches g c d → IsDone done d
    reached_done c d h (at_once l) = settled.closed c d h l
    reached_done c d h (further {d = e} l r) = reached_done e d (settled.closed c e h l) r

    is_grounded : (row : ℕ) → IsDone done row → IsGroundedIn g row
    is_grounded row h d (inl e) r = settled.grounded d (subst (IsDone done) e h) r
    is_grounded row h d (inr up) r = settled.grounded d (reached_done row d h up) r

  pub told : (done : List Bool) → IsSettled g done → length done ≡ length g → ((row : ℕ) → row < length g → IsStuck g done row) → (row : ℕ) → row < length g → (IsTrue (flag done row) → IsGroundedIn g row) × (IsGroundedIn g row → IsTrue (flag done row))
  told done settled long stuck row lt = (
    λ t. is_grounded done settled row (flag_set done row t),
    λ ends. elim (open_or_set done row (subst (λ m. row < m) (sym long) lt)) [
      | inl o ↦ absurd (not_grounded done stuck row o lt long ends)
      | inr f ↦ f
    ],
  )

pub begins : (g : Graph) (m : List Bool) → m ≡ replicate (length g) false → IsSettled g m
begins g m e = record {
  closed = λ c d h l. absurd (h (subst (λ xs. slice_get xs c ≡ Some false) (sym e) (open_at (length g) c (there g c d l))));
  grounded = λ c h r. absurd (h (subst (λ xs. slice_get xs c ≡ Some false) (sym e) (open_at (length g) c (starts c c r))));
}
  where
    starts : (c d : ℕ) → Reaches g c d → c < length g
    starts c d (at_once l) = there g c d l
    starts c d (further {d = x} l r) = there g c x l
