-- One step of a search, and its end.
use Rattle.std.proofs.Common.{ℕ, suc, zero, ◌+◌, ◌*◌, Bool, true, false, ◌≡◌, ◌<◌, ◌≤◌, refl, sym, ap, subst, ◌∙◌, ◌⊎◌, inl, inr, List, [], ◌∷◌, ◌++◌, Option, Some, None, length, arith}
use Rattle.std.specs.Prelude.{slice_get, slice_set}
use Rattle.std.proofs.Math.ListN.{replicate}
use Rattle.kt_types_order.specs.Graph.{Graph, Leads, Reaches, at_once, further, row_or_none}
use Rattle.kt_types_climbing.proofs.Weights.{there, further_up}
use Rattle.kt_types_cycles.specs.Settled.{open_count}
use Rattle.kt_types_cycles.specs.Search.{Has, IsMet, IsSearch, link_count}
use Rattle.kt_types_cycles.proofs.Marks.{either_way, set_other, set_count}

has_left : (d : ℕ) (xs ys : List ℕ) → Has d xs → Has d (xs ++ ys)
has_left d [] ys h = absurd h
has_left d (x ∷ xs) ys (inl e) = inl e
has_left d (x ∷ xs) ys (inr h) = inr (has_left d xs ys h)

has_right : (d : ℕ) (xs ys : List ℕ) → Has d ys → Has d (xs ++ ys)
has_right d [] ys h = h
has_right d (x ∷ xs) ys h = inr (has_right d xs ys h)

has_split : (d : ℕ) (xs ys : List ℕ) → Has d (xs ++ ys) → Has d xs ⊎ Has d ys
has_split d [] ys h = inr h
has_split d (x ∷ xs) ys (inl e) = inl (inl e)
has_split d (x ∷ xs) ys (inr h) = elim (has_split d xs ys h) [ inl a ↦ inl (inr a) | inr b ↦ inr b ]

has_at : (xs : List ℕ) (i d : ℕ) → slice_get xs i ≡ Some d → Has d xs
has_at [] i d h = cc
has_at (x ∷ xs) zero d h = let e : d ≡ x = cc in inl e
has_at (x ∷ xs) (suc i) d h = inr (has_at xs i d h)

at_has : (xs : List ℕ) (d : ℕ) → Has d xs → (i : ℕ) × (slice_get xs i ≡ Some d)
at_has [] d h = absurd h
at_has (x ∷ xs) d (inl e) = (0, ap Some (sym e))
at_has (x ∷ xs) d (inr h) = let r = at_has xs d h in (suc r.0, r.1)

set_here : (seen : List Bool) (c : ℕ) → slice_get seen c ≡ Some false → slice_get (slice_set seen c true) c ≡ Some true
set_here [] c h = cc
set_here (x ∷ xs) zero h = refl
set_here (x ∷ xs) (suc c) h = set_here xs c h

set_stays : (seen : List Bool) (c d : ℕ) → slice_get seen c ≡ Some false → slice_get seen d ≡ Some true → slice_get (slice_set seen c true) d ≡ Some true
set_stays seen c d o h = elim (either_way c d) [ inl e ↦ subst (λ x. slice_get (slice_set seen c true) x ≡ Some true) e (set_here seen c o) | inr f ↦ set_other seen c d f ∙ h ]

set_none : (seen : List Bool) (c d : ℕ) → slice_get seen d ≡ None → slice_get (slice_set seen c true) d ≡ None
set_none [] c d h = refl
set_none (x ∷ xs) zero zero h = cc
set_none (x ∷ xs) zero (suc d) h = h
set_none (x ∷ xs) (suc c) zero h = cc
set_none (x ∷ xs) (suc c) (suc d) h = set_none xs c d h

set_length : (seen : List Bool) (c : ℕ) → length (slice_set seen c true) ≡ length seen
set_length [] c = refl
set_length (x ∷ xs) zero = refl
set_length (x ∷ xs) (suc c) = ap suc (set_length xs c)

was_seen : (seen : List Bool) (c d : ℕ) → slice_get (slice_set seen c true) d ≡ Some true → (c ≡ d) ⊎ (slice_get seen d ≡ Some true)
was_seen seen c d h = elim (either_way c d) [ inl e ↦ inl e | inr f ↦ inr (sym (set_other seen c d f) ∙ h) ]

within : (seen : List Bool) (d : ℕ) → d < length seen → slice_get seen d ≡ None → ⊥
within [] d lt h = omega arith
within (x ∷ xs) zero lt h = cc
within (x ∷ xs) (suc d) lt h = within xs d (omega arith) h

not_false : (seen : List Bool) (d : ℕ) → (slice_get seen d ≡ Some false → ⊥) → (slice_get seen d ≡ Some true) ⊎ (slice_get seen d ≡ None)
not_false [] d f = inr refl
not_false (true ∷ xs) zero f = inl refl
not_false (false ∷ xs) zero f = absurd (f refl)
not_false (x ∷ xs) (suc d) f = not_false xs d f

module _ (g : Graph) (row : ℕ) where
  none_seen : (seen : List Bool) → ((d : ℕ) → slice_get seen d ≡ Some true → ⊥) → length seen ≡ length g → IsSearch g row seen (row_or_none (slice_get g row))
  none_seen seen none long = record {
    long = long;
    found = λ d h. at_once (at_has (row_or_none (slice_get g row)) d h);
    begun = λ d l. inr (inl (has_at (row_or_none (slice_get g row)) l.0 d l.1));
    other = λ d h. absurd (none d h);
    closed = λ d e h. absurd (none d h);
  }

  pub begins : (seen : List Bool) (waiting : List ℕ) → ((d : ℕ) → slice_get seen d ≡ Some true → ⊥) → length seen ≡ length g → waiting ≡ row_or_none (slice_get g row) → IsSearch g row seen waiting
  begins seen waiting none long e = rw e (none_seen seen none long)

  module _ (seen : List Bool) (waiting shorter : List ℕ) (next : ℕ) (is : IsSearch g row seen waiting) (popped : waiting ≡ shorter ++ next ∷ []) where
    last : Has next waiting
    last = rw popped (has_right next shorter (next ∷ []) (inl refl))

    pub comes_back : next ≡ row → Reaches g row row
    comes_back e = subst (λ x. Reaches g row x) e (is.found next last)

    split : (d : ℕ) → Has d waiting → Has d shorter ⊎ (d ≡ next)
    split d h = elim (has_split d shorter (next ∷ []) (rw popped at h)) [ inl a ↦ inl a | inr b ↦ elim b [ inl e ↦ inr e | inr n ↦ absurd n ] ]

    met_dropped : (slice_get seen next ≡ Some false → ⊥) → (d : ℕ) → IsMet seen waiting d → IsMet seen shorter d
    met_dropped f d (inl s) = inl s
    met_dropped f d (inr (inr n)) = inr (inr n)
    met_dropped f d (inr (inl w)) = elim (split d w) [
      | inl a ↦ inr (inl a)
      | inr e ↦ elim (not_false seen next f) [ inl s ↦ inl (rw e s) | inr n ↦ inr (inr (rw e n)) ]
    ]

    pub dropped : (slice_get seen next ≡ Some false → ⊥) → IsSearch g row seen shorter
    dropped f = record {
      long = is.long;
      found = λ d h. is.found d (rw popped (has_left d shorter (next ∷ []) h));
      begun = λ d l. met_dropped f d (is.begun d l);
      other = is.other;
      closed = λ d e s l. met_dropped f e (is.closed d e s l);
    }

    met_added : slice_get seen next ≡ Some false → (more : List ℕ) (d : ℕ) → IsMet seen waiting d → IsMet (slice_set seen next true) (shorter ++ more) d
    met_added o more d (inl s) = inl (set_stays seen next d o s)
    met_added o more d (inr (inr n)) = inr (inr (set_none seen next d n))
    met_added o more d (inr (inl w)) = elim (split d w) [
      | inl a ↦ inr (inl (has_left d shorter more a))
      | inr e ↦ inl (rw e (set_here seen next o))
    ]

    added_here : slice_get seen next ≡ Some false → (next ≡ row → ⊥) → IsSearch g row (slice_set seen next true) (shorter ++ row_or_none (slice_get g next))
    added_here o f = record {
      long = set_length seen next ∙ is.long;
      found = λ d h. elim (has_split d shorter (row_or_none (slice_get g next)) h) [
        | inl a ↦ is.found d (rw popped (has_left d shorter (next ∷ []) a))
        | inr b ↦ further_up g d (is.found next last) (at_has (row_or_none (slice_get g next)) d b)
      ];
      begun = λ d l. met_added o (row_or_none (slice_get g next)) d (is.begun d l);
      other = λ d s e. elim (was_seen seen next d s) [ inl same ↦ f (same ∙ e) | inr old ↦ is.other d old e ];
      closed = λ d e s l. elim (was_seen seen next d s) [
        | inl same ↦ let k = subst (λ x. Leads g x e) (sym same) l in inr (inl (has_right e shorter (row_or_none (slice_get g next)) (has_at (row_or_none (slice_get g next)) k.0 e k.1)))
        | inr old ↦ met_added o (row_or_none (slice_get g next)) e (is.closed d e old l)
      ];
    }

    pub added : (longer : List ℕ) → slice_get seen next ≡ Some false → (next ≡ row → ⊥) → longer ≡ shorter ++ row_or_none (slice_get g next) → IsSearch g row (slice_set seen next true) longer
    added longer o f e = rw e (added_here o f)

  met_none : (seen : List Bool) (d : ℕ) → IsMet seen [] d → d < length seen → slice_get seen d ≡ Some true
  met_none seen d (inl s) lt = s
  met_none seen d (inr (inl w)) lt = absurd w
  met_none seen d (inr (inr n)) lt = absurd (within seen d lt n)

  reaches_from : (c d : ℕ) → Reaches g c d → c < length g
  reaches_from c d (at_once l) = there g c d l
  reaches_from c d (further {d = e} l r) = there g c e l

  -- from what was seen the row isn't reached
  never : (seen : List Bool) → IsSearch g row seen [] → row < length g → (d e : ℕ) → slice_get seen d ≡ Some true → Reaches g d e → e ≡ row → ⊥
  never seen is lt d e s (at_once l) same = is.other e (met_none seen e (is.closed d e s l) (rw (is.long, same) lt)) same
  never seen is lt d e s (further {d = x} l r) same = never seen is lt x e (met_none seen x (is.closed d x s l) (rw is.long (reaches_from x e r))) r same

  from_row : (seen : List Bool) → IsSearch g row seen [] → row < length g → (e : ℕ) → Reaches g row e → e ≡ row → ⊥
  from_row seen is lt e (at_once l) same = is.other e (met_none seen e (is.begun e l) (rw (is.long, same) lt)) same
  from_row seen is lt e (further {d = x} l r) same = never seen is lt x e (met_none seen x (is.begun x l) (rw is.long (reaches_from x e r))) r same

  pub ends : (seen : List Bool) (waiting : List ℕ) → IsSearch g row seen waiting → waiting ≡ [] → Reaches g row row → ⊥
  ends seen waiting is e r = from_row seen (subst (IsSearch g row seen) e is) (reaches_from row row r) row r refl

few_links : (g : Graph) (d : ℕ) (o : Option (List ℕ)) → slice_get g d ≡ o → length (row_or_none o) ≤ link_count g
few_links g d None e = omega arith
few_links [] d (Some links) e = cc
few_links (x ∷ g) zero (Some links) e = let same : x ≡ links = cc in rw (← same) (omega arith)
few_links (x ∷ g) (suc d) (Some links) e = let r : length links ≤ link_count g = few_links g d (Some links) e in omega arith

room : (u v m w k : ℕ) → u ≡ suc v → k ≤ m → v * (m + 1) + (w + k) < u * (m + 1) + (w + 1)
room u v m w k e le = rw e (omega arith)

pub less_waits : (u m w : ℕ) → u * (m + 1) + w < u * (m + 1) + (w + 1)
less_waits u m w = omega arith

pub fewer_open : (g : Graph) (seen : List Bool) (next w : ℕ) → slice_get seen next ≡ Some false → open_count (slice_set seen next true) * (link_count g + 1) + (w + length (row_or_none (slice_get g next))) < open_count seen * (link_count g + 1) + (w + 1)
fewer_open g seen next w o = room (open_count seen) (open_count (slice_set seen next true)) (link_count g) w (length (row_or_none (slice_get g next))) (set_count seen next o) (few_links g next (slice_get g next) refl)

none_in : (n d : ℕ) → slice_get (replicate n false) d ≡ Some true → ⊥
none_in zero d h = cc
none_in (suc n) zero h = cc
none_in (suc n) (suc d) h = none_in n d h

all_in : (n : ℕ) → length (replicate n false) ≡ n
all_in zero = refl
all_in (suc n) = ap suc (all_in n)

-- fresh marks
pub none_marked : (seen : List Bool) (n d : ℕ) → seen ≡ replicate n false → slice_get seen d ≡ Some true → ⊥
none_marked seen n d e h = none_in n d (subst (λ xs. slice_get xs d ≡ Some true) e h)

pub as_long : (seen : List Bool) (n : ℕ) → seen ≡ replicate n false → length seen ≡ n
as_long seen n e = ap length e ∙ all_in n
