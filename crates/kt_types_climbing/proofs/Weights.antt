-- Without a cycle a row weighs two more than all to which it leads.
use Rattle.std.proofs.Common.{ℕ, suc, zero, true, false, ◌≡◌, refl, ap, sym, subst, ◌∙◌, ◌<◌, ◌≤◌, ◌+◌, List, [], ◌∷◌, length, Option, Some, None, arith, inl, inr}
use Rattle.std.specs.Prelude.{slice_get}
use Rattle.std.specs.List.{list_any, IsDistinct, AllByRecursion}
use Rattle.std.proofs.Math.Dec.{eqb}
use Rattle.std.proofs.lemmas.Bool.Decides.{eqb_tells}
use Rattle.std.proofs.lemmas.Option.{slice_get_within}
use Rattle.std.proofs.lemmas.Map.Steps.{length-le_from_distinct_below}
use Rattle.kt_types_order.specs.Graph.{Graph, Leads, Reaches, HasNoCycle, at_once, further, row_or_none}
use Rattle.kt_types_climbing.specs.Weights.{sum_of, paths, weight}

module _ (g : Graph) where
  -- so many steps
  abbrev pub IsWay : ℕ → ℕ → Type 0
  IsWay zero c = Unit {0}
  IsWay (suc n) c = (d : ℕ) × (Leads g c d × IsWay n d)

  abbrev places : (n c : ℕ) → IsWay n c → List ℕ
  places zero c w = []
  places (suc n) c w = c ∷ places n w.0 w.1.1

  as_many : (n c : ℕ) (w : IsWay n c) → length (places n c w) ≡ n
  as_many zero c w = refl
  as_many (suc n) c w = ap suc (as_many n w.0 w.1.1)

  leads_from : (c : ℕ) (row : Option (List ℕ)) (i d : ℕ) → slice_get g c ≡ row → slice_get (row_or_none row) i ≡ Some d → c < length g
  leads_from c None i d e h = cc
  leads_from c (Some ds) i d e h = slice_get_within g c ds e

  pub there : (c d : ℕ) → Leads g c d → c < length g
  there c d l = leads_from c (slice_get g c) l.0 d refl l.1

  below_rest : (q c : ℕ) (rest : List ℕ) → c < length g → (list_any (eqb q) rest ≡ true → q < length g) → list_any (eqb q) (c ∷ rest) ≡ true → q < length g
  below_rest q c rest lt more h = elim (eqb_tells q c) [ inl e ↦ subst (λ x. x < length g) (sym e.1) lt | inr e ↦ more (rw e.0 at h) ]

  all_below : (n c : ℕ) (w : IsWay n c) (q : ℕ) → list_any (eqb q) (places n c w) ≡ true → q < length g
  all_below zero c w q h = cc
  all_below (suc n) c w q h = below_rest q c (places n w.0 w.1.1) (there c w.0 w.1.0) (all_below n w.0 w.1.1 q) h

  pub further_up : {c d : ℕ} (e : ℕ) → Reaches g c d → Leads g d e → Reaches g c e
  further_up e (at_once l) m = further l (at_once m)
  further_up e (further l r) m = further l (further_up e r m)

  module _ (ends : HasNoCycle g) where
    apart : (c d : ℕ) → Reaches g c d → eqb c d ≡ false
    apart c d r = elim (eqb_tells c d) [ inl e ↦ absurd (ends c (subst (Reaches g c) (sym e.1) r)) | inr e ↦ e.0 ]

    all_apart : (c n d : ℕ) (w : IsWay n d) → Reaches g c d → AllByRecursion (λ y. eqb c y ≡ false) (places n d w)
    all_apart c zero d w r = tt
    all_apart c (suc n) d w r = (apart c d r, all_apart c n w.0 w.1.1 (further_up w.0 r w.1.0))

    distinct : (n c : ℕ) (w : IsWay n c) → IsDistinct eqb (places n c w)
    unfolding IsDistinct
    distinct zero c w = tt
    distinct (suc n) c w = (all_apart c n w.0 w.1.1 (at_once w.1.0), distinct n w.0 w.1.1)

    -- no way has more steps than there are rows
    pub short : (n c : ℕ) → IsWay n c → n ≤ length g
    short n c w = subst (λ m. m ≤ length g) (as_many n c w) (length-le_from_distinct_below (places n c w) (length g) (distinct n c w) (all_below n c w))

    none_longer : (c : ℕ) → IsWay (suc (length g)) c → ⊥
    none_longer c w = let h : suc (length g) ≤ length g = short (suc (length g)) c w in omega arith

  sum_same : (f h : ℕ → ℕ) (ds : List ℕ) → ((i d : ℕ) → slice_get ds i ≡ Some d → f d ≡ h d) → sum_of f ds ≡ sum_of h ds
  sum_same f h [] same = refl
  sum_same f h (d ∷ ds) same = let a : f d ≡ h d = same 0 d refl in let b : sum_of f ds ≡ sum_of h ds = sum_same f h ds (λ i e m. same (suc i) e m) in rw (a, b) refl

  -- where no way is so long, more room counts no more
  settled : (k c : ℕ) → (IsWay k c → ⊥) → paths g k c ≡ paths g (suc k) c
  unfolding paths
  settled zero c none = absurd (none tt)
  settled (suc k) c none = ap (λ n. 2 + n) (sum_same (paths g k) (paths g (suc k)) (row_or_none (slice_get g c)) (λ i d m. settled k d (λ w. none (d, ((i, m), w)))))

  one_more : (k c : ℕ) → paths g (suc k) c ≡ 2 + sum_of (paths g k) (row_or_none (slice_get g c))
  unfolding paths
  one_more k c = refl

  pub weighs : HasNoCycle g → (c : ℕ) → weight g c ≡ 2 + sum_of (weight g) (row_or_none (slice_get g c))
  weighs ends c = settled (suc (length g)) c (none_longer ends c) ∙ one_more (suc (length g)) c

  one_of : (f : ℕ → ℕ) (ds : List ℕ) (i d : ℕ) → slice_get ds i ≡ Some d → f d ≤ sum_of f ds
  one_of f [] i d h = cc
  one_of f (e ∷ ds) zero d h = let s : e ≡ d = cc in rw s (omega arith)
  one_of f (e ∷ ds) (suc i) d h = let r : f d ≤ sum_of f ds = one_of f ds i d h in omega arith

  -- each that it leads to weighs less
  pub lighter : HasNoCycle g → (c d : ℕ) → Leads g c d → weight g d < weight g c
  lighter ends c d l = let w = weighs ends c in let o : weight g d ≤ sum_of (weight g) (row_or_none (slice_get g c)) = one_of (weight g) (row_or_none (slice_get g c)) l.0 d l.1 in omega arith
