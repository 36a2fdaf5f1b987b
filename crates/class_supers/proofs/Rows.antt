-- The places of marks.
use Rattle.std.proofs.Common.{ℕ, suc, zero, ◌+◌, Bool, true, false, ◌≡◌, ◌<◌, ◌≤◌, ◌⊎◌, inl, inr, refl, sym, ap, subst, ◌∙◌, List, [], ◌∷◌, ◌++◌, Some, length, length-append, arith}
use Rattle.std.specs.Prelude.{slice_get, ◌==◌, ◌||◌}
use Rattle.std.specs.List.{list_any}
use Rattle.class_supers.specs.Graph.{Graph, Ascends, Has, AreSupers}
use Rattle.class_supers.specs.Search.{IsReached, mark_at, marked_below, when}

pub either_true : (b c : Bool) → (b || c) ≡ true → (b ≡ true) ⊎ (c ≡ true)
either_true true c h = inl refl
either_true false c h = inr h

pub right_true : (b c : Bool) → c ≡ true → (b || c) ≡ true
right_true true c h = refl
right_true false c h = h

pub left_true : (b c : Bool) → b ≡ true → (b || c) ≡ true
left_true true c h = refl
left_true false c h = cc

same_number : (x d : ℕ) → (x == d) ≡ true → x ≡ d
same_number x d h = grind (arith, h)

number_same : (x d : ℕ) → x ≡ d → (x == d) ≡ true
number_same x d h = grind (arith, h)

-- ---- lists that grow at their end

in_first : (xs ys : List ℕ) (d : ℕ) → Has xs d → Has (xs ++ ys) d
in_first [] ys d h = cc
in_first (x ∷ xs) ys d h = elim (either_true (x == d) (list_any (λ y. y == d) xs) h) [
  | inl e ↦ left_true (x == d) (list_any (λ y. y == d) (xs ++ ys)) e
  | inr m ↦ right_true (x == d) (list_any (λ y. y == d) (xs ++ ys)) (in_first xs ys d m)
]

in_second : (xs ys : List ℕ) (d : ℕ) → Has ys d → Has (xs ++ ys) d
in_second [] ys d h = h
in_second (x ∷ xs) ys d h = right_true (x == d) (list_any (λ y. y == d) (xs ++ ys)) (in_second xs ys d h)

in_either : (xs ys : List ℕ) (d : ℕ) → Has (xs ++ ys) d → Has xs d ⊎ Has ys d
in_either [] ys d h = inr h
in_either (x ∷ xs) ys d h = elim (either_true (x == d) (list_any (λ y. y == d) (xs ++ ys)) h) [
  | inl e ↦ inl (left_true (x == d) (list_any (λ y. y == d) xs) e)
  | inr m ↦ elim (in_either xs ys d m) [
    | inl a ↦ inl (right_true (x == d) (list_any (λ y. y == d) xs) a)
    | inr b ↦ inr b
  ]
]

has_head : (x d : ℕ) (xs : List ℕ) → x ≡ d → Has (x ∷ xs) d
has_head x d xs e = left_true (x == d) (list_any (λ y. y == d) xs) (number_same x d e)

has_tail : (x d : ℕ) (xs : List ℕ) → Has xs d → Has (x ∷ xs) d
has_tail x d xs h = right_true (x == d) (list_any (λ y. y == d) xs) h

in_when : (b : Bool) (i d : ℕ) → Has (when b i) d → (b ≡ true) × (i ≡ d)
in_when false i d h = cc
in_when true i d h = elim (either_true (i == d) false h) [ inl e ↦ (refl, same_number i d e) | inr n ↦ cc ]

-- ---- ascending

one_more : (k : ℕ) (xs : List ℕ) (i : ℕ) → k ≤ i → Ascends k xs → ((d : ℕ) → Has xs d → d < i) → Ascends k (xs ++ i ∷ [])
one_more k [] i le h below = (le, tt)
one_more k (x ∷ xs) i le h below =
    let lt : x < i = below x (has_head x x xs refl) in
    (h.0, one_more (suc x) xs i (omega arith) h.1 (λ d m. below d (has_tail x d xs m)))

with_mark : (b : Bool) (xs : List ℕ) (i : ℕ) → Ascends 0 xs → ((d : ℕ) → Has xs d → d < i) → Ascends 0 (xs ++ when b i)
with_mark true xs i h below = one_more 0 xs i (omega arith) h below
with_mark false xs i h below = rw (nothing_more xs) h
  where
    nothing_more : (ys : List ℕ) → ys ++ [] ≡ ys
    nothing_more [] = refl
    nothing_more (y ∷ ys) = ap (λ zs. y ∷ zs) (nothing_more ys)

-- ---- exactly the marks

pub marks_each : (n : ℕ) (seen : List Bool) (d : ℕ) → Has (marked_below n seen) d → (d < n) × (mark_at (slice_get seen d) ≡ true)
unfolding marked_below
marks_each zero seen d h = cc
marks_each (suc i) seen d h = elim (in_either (marked_below i seen) (when (mark_at (slice_get seen i)) i) d h) [
  | inl a ↦ let r = marks_each i seen d a in let lt = r.0 in (omega arith, r.1)
  | inr b ↦ let r = in_when (mark_at (slice_get seen i)) i d b in let e = r.1 in (omega arith, subst (λ x. mark_at (slice_get seen x) ≡ true) e r.0)
]

when_marked : (b : Bool) (i : ℕ) → b ≡ true → Has (when b i) i
when_marked true i e = has_head i i [] refl
when_marked false i e = cc

pub marks_all : (n : ℕ) (seen : List Bool) (d : ℕ) → d < n → mark_at (slice_get seen d) ≡ true → Has (marked_below n seen) d
unfolding marked_below
marks_all zero seen d lt m = absurd (omega arith)
marks_all (suc i) seen d lt m = elim (below_or_at d i lt) [
  | inl l ↦ in_first (marked_below i seen) (when (mark_at (slice_get seen i)) i) d (marks_all i seen d l m)
  | inr e ↦ in_second (marked_below i seen) (when (mark_at (slice_get seen i)) i) d
      (subst (λ x. Has (when (mark_at (slice_get seen i)) i) x) (sym e) (when_marked (mark_at (slice_get seen i)) i (subst (λ x. mark_at (slice_get seen x) ≡ true) e m)))
]
  where
    below_or_at : (d i : ℕ) → d < suc i → (d < i) ⊎ (d ≡ i)
    below_or_at zero zero h = inr refl
    below_or_at zero (suc i) h = inl (omega arith)
    below_or_at (suc d) zero h = absurd (omega arith)
    below_or_at (suc d) (suc i) h = elim (below_or_at d i (omega arith)) [ inl l ↦ inl (omega arith) | inr e ↦ inr (ap suc e) ]

pub marks_ascend : (n : ℕ) (seen : List Bool) → Ascends 0 (marked_below n seen)
unfolding marked_below
marks_ascend zero seen = tt
marks_ascend (suc i) seen = with_mark (mark_at (slice_get seen i)) (marked_below i seen) i (marks_ascend i seen) (λ d h. (marks_each i seen d h).0)

pub below_next : (i : ℕ) (seen : List Bool) (old : List ℕ) (b : Bool) → old ≡ marked_below i seen → b ≡ mark_at (slice_get seen i) → old ++ when b i ≡ marked_below (i + 1) seen
unfolding marked_below
below_next i seen old b e m =
    let next : suc i ≡ i + 1 = omega arith in
    subst (λ n. old ++ when b i ≡ marked_below n seen) next (rw (e, m) refl)

-- ---- what a search has seen

marked_true : (bs : List Bool) (d : ℕ) → mark_at (slice_get bs d) ≡ true → slice_get bs d ≡ Some true
marked_true [] d h = cc
marked_true (true ∷ bs) zero h = refl
marked_true (false ∷ bs) zero h = cc
marked_true (b ∷ bs) (suc d) h = marked_true bs d h

true_marked : (bs : List Bool) (d : ℕ) → d < length bs → (slice_get bs d ≡ Some false → ⊥) → mark_at (slice_get bs d) ≡ true
true_marked [] d lt f = absurd (omega arith)
true_marked (true ∷ bs) zero lt f = refl
true_marked (false ∷ bs) zero lt f = absurd (f refl)
true_marked (b ∷ bs) (suc d) lt f = true_marked bs d (omega arith) f

pub supers_marked : (g : Graph) (c : ℕ) (seen : List Bool) (row : List ℕ) → IsReached g c seen → row ≡ marked_below (length seen) seen → AreSupers g c row
supers_marked g c seen row is e = subst (AreSupers g c) (sym e) (record {
  ascending = marks_ascend (length seen) seen;
  each = λ d h.
      let r = marks_each (length seen) seen d h in
      (is.under d (marked_true seen d r.1), rw (← is.long) r.0);
  all = λ d u lt.
      let within : d < length seen = rw is.long lt in
      marks_all (length seen) seen d within (true_marked seen d within (is.all d u));
})

-- ---- a list of rows that grows at its end

get_last : {A : Type 0} (xs : List A) (y : A) (c : ℕ) (r : A) → slice_get (xs ++ y ∷ []) c ≡ Some r → (slice_get xs c ≡ Some r) ⊎ ((c ≡ length xs) × (y ≡ r))
get_last [] y zero r h = let e : y ≡ r = cc in inr (refl, e)
get_last [] y (suc c) r h = cc
get_last (x ∷ xs) y zero r h = inl h
get_last (x ∷ xs) y (suc c) r h = elim (get_last xs y c r h) [ inl a ↦ inl a | inr b ↦ inr (ap suc b.0, b.1) ]

pub rows_next : {A : Type 0} (P : ℕ → A → Type 0) (rows new : List A) (n : ℕ) (row : A) → length rows ≡ n → ((c : ℕ) (r : A) → slice_get rows c ≡ Some r → P c r) → P n row → new ≡ rows ++ row ∷ [] → (length new ≡ n + 1) × ((c : ℕ) (r : A) → slice_get new c ≡ Some r → P c r)
rows_next P rows new n row long each this e = (
  (let l : length new ≡ length rows + 1 = ap length e ∙ length-append rows (row ∷ []) in omega arith),
  λ c r h. elim (get_last rows row c r (subst (λ xs. slice_get xs c ≡ Some r) e h)) [
    | inl a ↦ each c r a
    | inr b ↦ subst (λ k. P k r) (sym (b.0 ∙ long)) (subst (P n) b.1 this)
  ],
)
