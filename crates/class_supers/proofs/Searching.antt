-- One step of a search, and its end.
use Rattle.std.proofs.Common.{ℕ, suc, zero, Bool, true, false, ◌≡◌, ◌≤◌, refl, sym, subst, ◌∙◌, ◌⊎◌, inl, inr, List, [], ◌∷◌, ◌++◌, Some, None, length, arith}
use Rattle.std.specs.Prelude.{slice_get, slice_set}
use Rattle.class_supers.specs.Graph.{Graph, Leads, IsUnder, same, up, row_or_none}
use Rattle.class_supers.specs.Search.{Waits, IsMet, IsSearch, IsReached}
use Rattle.class_supers.proofs.Marks.{set_here, set_stays, set_none, set_length, was_seen, not_false, none_past, has_left, has_right, has_split, has_at, at_has}

no_row : (g : Graph) (c : ℕ) → length g ≤ c → row_or_none (slice_get g c) ≡ []
no_row [] c le = refl
no_row (x ∷ g) zero le = absurd (omega arith)
no_row (x ∷ g) (suc c) le = no_row g c (omega arith)

-- what is no row leads nowhere
pub nowhere : (g : Graph) (c d : ℕ) → length g ≤ c → Leads g c d → ⊥
nowhere g c d le l =
    let h : slice_get [] l.0 ≡ Some d = subst (λ row. slice_get row l.0 ≡ Some d) (no_row g c le) l.1 in cc

pub one_more : (g : Graph) (c d e : ℕ) → IsUnder g c d → Leads g d e → IsUnder g c e
one_more g c d e (same q) l = subst (λ x. IsUnder g x e) (sym q) (up l (same refl))
one_more g c d e (up {d = x} k r) l = up k (one_more g x d e r l)

pub both_ways : (g : Graph) (c d e : ℕ) → IsUnder g c d → IsUnder g d e → IsUnder g c e
both_ways g c d e (same q) r = subst (λ x. IsUnder g x e) (sym q) r
both_ways g c d e (up {d = x} k r) s = up k (both_ways g x d e r s)

module _ (g : Graph) (start : ℕ) where
  none_seen : (seen : List Bool) → ((d : ℕ) → slice_get seen d ≡ Some true → ⊥) → length seen ≡ length g → IsSearch g start seen (start ∷ [])
  none_seen seen none long = record {
    long = long;
    found = λ d h. elim h [ inl e ↦ same (sym e) | inr n ↦ absurd n ];
    under = λ d h. absurd (none d h);
    begun = inr (inl (inl refl));
    closed = λ d e h. absurd (none d h);
  }

  pub begins : (seen : List Bool) (waiting : List ℕ) → ((d : ℕ) → slice_get seen d ≡ Some true → ⊥) → length seen ≡ length g → waiting ≡ start ∷ [] → IsSearch g start seen waiting
  begins seen waiting none long e = rw e (none_seen seen none long)

  module _ (seen : List Bool) (waiting shorter : List ℕ) (next : ℕ) (is : IsSearch g start seen waiting) (popped : waiting ≡ shorter ++ next ∷ []) where
    last : Waits next waiting
    last = rw popped (has_right next shorter (next ∷ []) (inl refl))

    split : (d : ℕ) → Waits d waiting → Waits d shorter ⊎ (d ≡ next)
    split d h = elim (has_split d shorter (next ∷ []) (rw popped at h)) [
      | inl a ↦ inl a
      | inr b ↦ elim b [ inl e ↦ inr e | inr n ↦ absurd n ]
    ]

    met_dropped : (slice_get seen next ≡ Some false → ⊥) → (d : ℕ) → IsMet seen waiting d → IsMet seen shorter d
    met_dropped f d (inl s) = inl s
    met_dropped f d (inr (inr n)) = inr (inr n)
    met_dropped f d (inr (inl w)) = elim (split d w) [
      | inl a ↦ inr (inl a)
      | inr e ↦ elim (not_false seen next f) [ inl s ↦ inl (rw e s) | inr n ↦ inr (inr (rw e n)) ]
    ]

    pub dropped : (slice_get seen next ≡ Some false → ⊥) → IsSearch g start seen shorter
    dropped f = record {
      long = is.long;
      found = λ d h. is.found d (rw popped (has_left d shorter (next ∷ []) h));
      under = is.under;
      begun = met_dropped f start is.begun;
      closed = λ d e s l. met_dropped f e (is.closed d e s l);
    }

    met_added : slice_get seen next ≡ Some false → (more : List ℕ) (d : ℕ) → IsMet seen waiting d → IsMet (slice_set seen next true) (shorter ++ more) d
    met_added o more d (inl s) = inl (set_stays seen next d o s)
    met_added o more d (inr (inr n)) = inr (inr (set_none seen next d n))
    met_added o more d (inr (inl w)) = elim (split d w) [
      | inl a ↦ inr (inl (has_left d shorter more a))
      | inr e ↦ inl (rw e (set_here seen next o))
    ]

    added_here : slice_get seen next ≡ Some false → IsSearch g start (slice_set seen next true) (shorter ++ row_or_none (slice_get g next))
    added_here o = record {
      long = set_length seen next ∙ is.long;
      found = λ d h. elim (has_split d shorter (row_or_none (slice_get g next)) h) [
        | inl a ↦ is.found d (rw popped (has_left d shorter (next ∷ []) a))
        | inr b ↦ one_more g start next d (is.found next last) (at_has (row_or_none (slice_get g next)) d b)
      ];
      under = λ d s. elim (was_seen seen next d s) [ inl q ↦ subst (λ x. IsUnder g start x) q (is.found next last) | inr old ↦ is.under d old ];
      begun = met_added o (row_or_none (slice_get g next)) start is.begun;
      closed = λ d e s l. elim (was_seen seen next d s) [
        | inl q ↦ let k = subst (λ x. Leads g x e) (sym q) l in inr (inl (has_right e shorter (row_or_none (slice_get g next)) (has_at (row_or_none (slice_get g next)) k.0 e k.1)))
        | inr old ↦ met_added o (row_or_none (slice_get g next)) e (is.closed d e old l)
      ];
    }

    pub added : (longer : List ℕ) → slice_get seen next ≡ Some false → longer ≡ shorter ++ row_or_none (slice_get g next) → IsSearch g start (slice_set seen next true) longer
    added longer o e = rw e (added_here o)

  -- from what was seen no row is reached that wasn't
  module _ (seen : List Bool) (is : IsSearch g start seen []) where
    past : (c d : ℕ) → slice_get seen c ≡ None → IsUnder g c d → slice_get seen d ≡ Some false → ⊥
    past c d n (same q) h = let e : slice_get seen d ≡ None = subst (λ x. slice_get seen x ≡ None) q n in cc
    past c d n (up {d = x} l r) h = nowhere g c x (rw (← is.long) (none_past seen c n)) l

    seen_up : (c d : ℕ) → slice_get seen c ≡ Some true → IsUnder g c d → slice_get seen d ≡ Some false → ⊥
    seen_up c d s (same q) h = let e : slice_get seen d ≡ Some true = subst (λ x. slice_get seen x ≡ Some true) q s in cc
    seen_up c d s (up {d = x} l r) h = elim (is.closed c x s l) [
      | inl t ↦ seen_up x d t r h
      | inr o ↦ elim o [ inl w ↦ absurd w | inr n ↦ past x d n r h ]
    ]

    reached : IsReached g start seen
    reached = record {
      long = is.long;
      under = is.under;
      all = λ d r h. elim is.begun [
        | inl s ↦ seen_up start d s r h
        | inr o ↦ elim o [ inl w ↦ absurd w | inr n ↦ past start d n r h ]
      ];
    }

  pub ends : (seen : List Bool) (waiting : List ℕ) → IsSearch g start seen waiting → waiting ≡ [] → IsReached g start seen
  ends seen waiting is e = reached seen (subst (IsSearch g start seen) e is)
