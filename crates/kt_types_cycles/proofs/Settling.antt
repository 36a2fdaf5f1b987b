-- Rows are marked after all to which they lead.
use Rattle.std.proofs.Common.{ℕ, suc, ◌+◌, ◌*◌, ◌-◌, Bool, true, false, ◌≡◌, ◌<◌, ◌≤◌, refl, sym, ap, subst, ◌∙◌, inl, inr, List, [], ◌∷◌, ◌++◌, Some, length, length-append, arith}
use Rattle.std.specs.Prelude.{slice_get, slice_set}
use Rattle.kt_types_order.specs.Graph.{Graph, Leads, Reaches, HasNoCycle, at_once, further, row_or_none}
use Rattle.kt_types_climbing.proofs.Weights.{IsWay, short, there}
use Rattle.kt_types_cycles.specs.Settled.{IsDone, IsSettled, IsSettling, first_of, IsTrail, AreOpen, open_count, AreLinksDone, IsOpenLink}
use Rattle.kt_types_cycles.proofs.Marks.{either_way, set_other, set_count, not_open, done_stays, was_done}

module _ (g : Graph) (done : List Bool) (settled : IsSettled g done) where
  reached_done : (c d : ℕ) → IsDone done c → Reaches g c d → IsDone done d
  reached_done c d h (at_once l) = settled.closed c d h l
  reached_done c d h (further {d = e} l r) = reached_done e d (settled.closed c e h l) r

  reached_marked : (c d : ℕ) → AreLinksDone (row_or_none (slice_get g c)) done → Reaches g c d → IsDone done d
  reached_marked c d all (at_once l) = all l.0 d l.1
  reached_marked c d all (further {d = e} l r) = reached_done e d (all l.0 e l.1) r

  mark_closed : (c : ℕ) → AreLinksDone (row_or_none (slice_get g c)) done → (d e : ℕ) → IsDone (slice_set done c true) d → Leads g d e → IsDone (slice_set done c true) e
  mark_closed c all d e h l = done_stays done c e (elim (either_way c d) [
    | inl f ↦ let k = subst (λ x. Leads g x e) (sym f) l in all k.0 e k.1
    | inr f ↦ settled.closed d e (was_done done c d f h) l
  ])

  mark_grounded : (c : ℕ) → slice_get done c ≡ Some false → AreLinksDone (row_or_none (slice_get g c)) done → (d : ℕ) → IsDone (slice_set done c true) d → Reaches g d d → ⊥
  mark_grounded c o all d h r = elim (either_way c d) [
    | inl e ↦ reached_marked c c all (subst (λ x. Reaches g x x) (sym e) r) o
    | inr f ↦ settled.grounded d (was_done done c d f h) r
  ]

  pub marked : (c : ℕ) → slice_get done c ≡ Some false → AreLinksDone (row_or_none (slice_get g c)) done → IsSettled g (slice_set done c true)
  marked c o all = record { closed = mark_closed c all; grounded = mark_grounded c o all }

module _ (g : Graph) where
  first_push : (xs : List ℕ) (c d : ℕ) → first_of (xs ++ c ∷ []) d ≡ first_of xs c
  first_push [] c d = refl
  first_push (x ∷ xs) c d = refl

  push_trail : (xs : List ℕ) (c d : ℕ) → IsTrail g xs c → Leads g c d → IsTrail g (xs ++ c ∷ []) d
  push_trail [] c d t l = (l, tt)
  push_trail (x ∷ xs) c d t l = (subst (λ y. Leads g x y) (sym (first_push xs c d)) t.0, push_trail xs c d t.1 l)

  pop_trail : (xs : List ℕ) (x c : ℕ) → IsTrail g (xs ++ x ∷ []) c → IsTrail g xs x
  pop_trail [] x c t = tt
  pop_trail (y ∷ ys) x c t = (subst (λ z. Leads g y z) (first_push ys x c) t.0, pop_trail ys x c t.1)

  way_of : (xs : List ℕ) (c : ℕ) → IsTrail g xs c → IsWay g (length xs) (first_of xs c)
  way_of [] c t = tt
  way_of (x ∷ xs) c t = (first_of xs c, (t.0, way_of xs c t.1))

  -- a trail that is too long has a cycle in it
  too_long : (xs : List ℕ) (c : ℕ) → IsTrail g xs c → length g < length xs → HasNoCycle g → ⊥
  too_long xs c t lt ends = let h : length xs ≤ length g = short g ends (length xs) (first_of xs c) (way_of xs c t) in omega arith

open_push : (done : List Bool) (xs : List ℕ) (c : ℕ) → AreOpen done xs → slice_get done c ≡ Some false → AreOpen done (xs ++ c ∷ [])
open_push done [] c h o = (o, tt)
open_push done (x ∷ xs) c h o = (h.0, open_push done xs c h.1 o)

open_pop : (done : List Bool) (xs : List ℕ) (x : ℕ) → AreOpen done (xs ++ x ∷ []) → AreOpen done xs × (slice_get done x ≡ Some false)
open_pop done [] x h = (tt, h.0)
open_pop done (y ∷ ys) x h = let r = open_pop done ys x h.1 in ((h.0, r.0), r.1)

first_open : (done : List Bool) (xs : List ℕ) (c : ℕ) → AreOpen done xs → slice_get done c ≡ Some false → slice_get done (first_of xs c) ≡ Some false
first_open done [] c h o = o
first_open done (x ∷ xs) c h o = h.0

module _ (g : Graph) (done : List Bool) where
  apart : (x c d : ℕ) → AreLinksDone (row_or_none (slice_get g c)) done → slice_get done d ≡ Some false → Leads g x d → c ≡ x → ⊥
  apart x c d all o l e = let k = subst (λ y. Leads g y d) (sym e) l in all k.0 d k.1 o

  -- what waits is not what is marked
  open_marked : (xs : List ℕ) (c : ℕ) → IsTrail g xs c → AreOpen done xs → slice_get done c ≡ Some false → AreLinksDone (row_or_none (slice_get g c)) done → AreOpen (slice_set done c true) xs
  open_marked [] c t h o all = tt
  open_marked (x ∷ xs) c t h o all = (set_other done c x (apart x c (first_of xs c) all (first_open done xs c h.1 o) t.0) ∙ h.0, open_marked xs c t.1 h.1 o all)

module _ (g : Graph) (before done : List Bool) (first : ℕ) where
  leads : (c d : ℕ) → IsOpenLink (row_or_none (slice_get g c)) done d → Leads g c d
  leads c d o = (o.0, o.1.0)

  pub pushed : (waiting longer : List ℕ) (c d : ℕ) → IsSettling g before first done waiting c → IsOpenLink (row_or_none (slice_get g c)) done d → longer ≡ waiting ++ c ∷ [] → length longer ≤ length g → IsSettling g before first done longer d
  pushed waiting longer c d s o e le = let r : IsSettling g before first done (waiting ++ c ∷ []) d = record {
    settled = s.settled;
    kept = s.kept;
    trail = push_trail g waiting c d s.trail (leads c d o);
    waits = open_push done waiting c s.waits s.open_here;
    open_here = o.1.1;
    few = rw e at le;
    bottom = first_push g waiting c d ∙ s.bottom;
  } in rw e r

  pub popped : (waiting shorter : List ℕ) (c d : ℕ) → IsSettling g before first done waiting c → AreLinksDone (row_or_none (slice_get g c)) done → waiting ≡ shorter ++ d ∷ [] → IsSettling g before first (slice_set done c true) shorter d
  popped waiting shorter c d s all e =
      let t : IsTrail g (shorter ++ d ∷ []) c = subst (λ w. IsTrail g w c) e s.trail in
      let o = open_pop (slice_set done c true) shorter d (subst (AreOpen (slice_set done c true)) e (open_marked g done waiting c s.trail s.waits s.open_here all)) in
      let l : length waiting ≡ length shorter + 1 = ap length e ∙ length-append shorter (d ∷ []) in
      let few = s.few in
      record {
        settled = marked g done s.settled c s.open_here all;
        kept = λ x h. done_stays done c x (s.kept x h);
        trail = pop_trail g shorter d c t;
        waits = o.0;
        open_here = o.1;
        few = omega arith;
        bottom = sym (first_push g shorter d c) ∙ ap (λ w. first_of w c) (sym e) ∙ s.bottom;
      }

  pub first_done : (waiting : List ℕ) (c : ℕ) → IsSettling g before first done waiting c → waiting ≡ [] → IsDone (slice_set done c true) first
  first_done waiting c s e h =
      let f : c ≡ first = ap (λ w. first_of w c) (sym e) ∙ s.bottom in
      not_open done c (subst (λ x. slice_get (slice_set done c true) x ≡ Some false) (sym f) h)

  -- a longer walk than there are rows
  pub no_end : (waiting longer : List ℕ) (c d : ℕ) → IsSettling g before first done waiting c → IsOpenLink (row_or_none (slice_get g c)) done d → longer ≡ waiting ++ c ∷ [] → length g < length longer → HasNoCycle g → ⊥
  no_end waiting longer c d s o e lt = too_long g longer d (subst (λ w. IsTrail g w d) (sym e) (push_trail g waiting c d s.trail (leads c d o))) lt

pop_falls : (u v n len : ℕ) → u ≡ suc v → v * (n + 2) + (n + 1 - len) < u * (n + 2) + (n + 1 - (len + 1))
pop_falls u v n len h = rw h (omega arith)

pub turn_falls : (done : List Bool) (c n len more : ℕ) → slice_get done c ≡ Some false → more ≡ len + 1 → open_count (slice_set done c true) * (n + 2) + (n + 1 - len) < open_count done * (n + 2) + (n + 1 - more)
turn_falls done c n len more o e = rw e (pop_falls (open_count done) (open_count (slice_set done c true)) n len (set_count done c o))

reaches_from : (g : Graph) (c d : ℕ) → Reaches g c d → c < length g
reaches_from g c d (at_once l) = there g c d l
reaches_from g c d (further {d = e} l r) = there g c e l

-- where all rows are done none leads back to itself
pub all_done : (g : Graph) (done : List Bool) (n : ℕ) → IsSettled g done → ((c : ℕ) → c < n → IsDone done c) → length g ≤ n → HasNoCycle g
all_done g done n settled all le c r = let lt : c < length g = reaches_from g c c r in settled.grounded c (all c (omega arith)) r
