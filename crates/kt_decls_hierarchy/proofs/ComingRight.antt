-- Marks that only grow come to be right.
use Rattle.std.proofs.Common.{ℕ, suc, zero, Bool, true, false, ◌≡◌, ◌<◌, ◌≤◌, refl, sym, ap, subst, ◌∙◌, ◌⊎◌, inl, inr, List, [], ◌∷◌, Option, Some, None, length, ◌+◌, ◌-◌, arith}
use Rattle.std.specs.Prelude.{slice_get, slice_set, ◌||◌}
use Rattle.std.specs.List.{list_any}
use Rattle.std.proofs.Math.ListN.{replicate}
use Rattle.kt_types.specs.Kinds.{flag, or_false}
use Rattle.kt_types_order.specs.Graph.{Graph, row_or_none}
use Rattle.kt_types_cycles.specs.Settled.{open_count}
use Rattle.kt_types_cycles.proofs.Marks as marks
use Rattle.kt_decls_hierarchy.specs.Marks.{marked_within, marked}
use Rattle.kt_decls_hierarchy.specs.Marking.{is_due, IsClosed, set_count, IsMarking}

either : (a b : Bool) → (a || b) ≡ true → (a ≡ true) ⊎ (b ≡ true)
either true b e = inl refl
either false b e = inr e

left : (a b : Bool) → a ≡ true → (a || b) ≡ true
left true b e = refl
left false b e = absurd cc

right : (a b : Bool) → b ≡ true → (a || b) ≡ true
right true b e = refl
right false b e = e

any_more : (f h : ℕ → Bool) → ((x : ℕ) → f x ≡ true → h x ≡ true) → (xs : List ℕ) → list_any f xs ≡ true → list_any h xs ≡ true
any_more f h more [] e = absurd cc
any_more f h more (x ∷ xs) e = elim (either (f x) (list_any f xs) e) [
  | inl a ↦ left (h x) (list_any h xs) (more x a)
  | inr b ↦ right (h x) (list_any h xs) (any_more f h more xs b)
]

module _ (g : Graph) (own : List Bool) where
  one_step_more : (k row : ℕ) → marked_within g own k row ≡ true → marked_within g own (suc k) row ≡ true
  unfolding marked_within
  one_step_more zero row e = absurd cc
  one_step_more (suc k) row e = elim (either (flag own row) (list_any (marked_within g own k) (row_or_none (slice_get g row))) e) [
    | inl a ↦ left (flag own row) (list_any (marked_within g own (suc k)) (row_or_none (slice_get g row))) a
    | inr b ↦ right (flag own row) (list_any (marked_within g own (suc k)) (row_or_none (slice_get g row))) (any_more (marked_within g own k) (marked_within g own (suc k)) (λ x. one_step_more k x) (row_or_none (slice_get g row)) b)
  ]

  more_steps : (d k row : ℕ) (n : ℕ) → n ≡ d + k → marked_within g own k row ≡ true → marked_within g own n row ≡ true
  more_steps zero k row n e h = let same : k ≡ n = omega arith in subst (λ m. marked_within g own m row ≡ true) same h
  more_steps (suc d) k row n e h =
      let same : suc (d + k) ≡ n = omega arith in
      subst (λ m. marked_within g own m row ≡ true) same (one_step_more (d + k) row (more_steps d k row (d + k) refl h))

  due_within : (m : List Bool) (k row : ℕ) → ((x : ℕ) → flag m x ≡ true → marked_within g own k x ≡ true) → is_due g own m row ≡ true → marked_within g own (suc k) row ≡ true
  unfolding marked_within
  due_within m k row sound e = elim (either (flag own row) (list_any (flag m) (row_or_none (slice_get g row))) e) [
    | inl a ↦ left (flag own row) (list_any (marked_within g own k) (row_or_none (slice_get g row))) a
    | inr b ↦ right (flag own row) (list_any (marked_within g own k) (row_or_none (slice_get g row))) (any_more (flag m) (marked_within g own k) sound (row_or_none (slice_get g row)) b)
  ]

set_one : (m : List Bool) (row : ℕ) → slice_get m row ≡ Some false → set_count (slice_set m row true) ≡ suc (set_count m)
set_one [] row e = absurd cc
set_one (true ∷ m) zero e = absurd cc
set_one (false ∷ m) zero e = refl
set_one (true ∷ m) (suc row) e = ap suc (set_one m row e)
set_one (false ∷ m) (suc row) e = set_one m row e

set_length : (m : List Bool) (row : ℕ) → length (slice_set m row true) ≡ length m
set_length [] row = refl
set_length (b ∷ m) zero = refl
set_length (b ∷ m) (suc row) = ap suc (set_length m row)

few_set : (m : List Bool) → set_count m ≤ length m
few_set [] = omega arith
few_set (true ∷ m) = let r : set_count m ≤ length m = few_set m in omega arith
few_set (false ∷ m) = let r : set_count m ≤ length m = few_set m in omega arith

pub fewer_open : (m : List Bool) (row : ℕ) → slice_get m row ≡ Some false → open_count (slice_set m row true) < open_count m
fewer_open m row e = let c = marks.set_count m row e in omega arith

module _ (g : Graph) (own m : List Bool) (is : IsMarking g own m) (row : ℕ) where
  sound_now : slice_get m row ≡ Some false → is_due g own m row ≡ true → (x : ℕ) → flag (slice_set m row true) x ≡ true → marked_within g own (set_count (slice_set m row true)) x ≡ true
  sound_now is_open due x h =
      subst (λ k. marked_within g own k x ≡ true) (sym (set_one m row is_open))
      (elim (marks.either_way row x) [
        | inl same ↦ subst (λ y. marked_within g own (suc (set_count m)) y ≡ true) same (due_within g own m (set_count m) row is.sound due)
        | inr other ↦ one_step_more g own (set_count m) x (is.sound x (ap or_false (sym (marks.set_other m row x other)) ∙ h))
      ])

  pub marks_on : slice_get m row ≡ Some false → is_due g own m row ≡ true → IsMarking g own (slice_set m row true)
  marks_on is_open due = record { long = set_length m row ∙ is.long; sound = sound_now is_open due }

flag_none : (n row : ℕ) → flag (replicate n false) row ≡ true → ⊥
flag_none zero row e = absurd cc
flag_none (suc n) zero e = absurd cc
flag_none (suc n) (suc row) e = flag_none n row e

long_as : (n : ℕ) → length (replicate n false) ≡ n
long_as zero = refl
long_as (suc n) = ap suc (long_as n)

pub begins : (g : Graph) (own m : List Bool) → m ≡ replicate (length g) false → IsMarking g own m
begins g own m e =
    subst (IsMarking g own) (sym e) (record { long = long_as (length g); sound = λ row h. absurd (flag_none (length g) row h) })

same_truth : (a b : Bool) → (a ≡ true → b ≡ true) → (b ≡ true → a ≡ true) → a ≡ b
same_truth true b f h = sym (f refl)
same_truth false true f h = absurd (let e : false ≡ true = h refl in cc)
same_truth false false f h = refl

past_end : (m : List Bool) (row : ℕ) → length m ≤ row → flag m row ≡ false
past_end [] row le = refl
past_end (b ∷ m) zero le = absurd (omega arith)
past_end (b ∷ m) (suc row) le = past_end m row (omega arith)

set_there : (m : List Bool) (row : ℕ) → row < length m → (slice_get m row ≡ Some false → ⊥) → flag m row ≡ true
set_there [] row lt f = absurd (omega arith)
set_there (true ∷ m) zero lt f = refl
set_there (false ∷ m) zero lt f = absurd (f refl)
set_there (b ∷ m) (suc row) lt f = set_there m row (omega arith) f

no_row : (g : Graph) (row : ℕ) → length g ≤ row → slice_get g row ≡ None
no_row [] row le = refl
no_row (x ∷ g) zero le = absurd (omega arith)
no_row (x ∷ g) (suc row) le = no_row g row (omega arith)

module _ (g : Graph) (own m : List Bool) (is : IsMarking g own m) (long : length own ≡ length g) (closed : (row : ℕ) → row < length g → IsClosed g own m row) where
  within_or_not : (row : ℕ) → (row < length g) ⊎ (length g ≤ row)
  within_or_not row = less row (length g)
    where
      less : (a b : ℕ) → (a < b) ⊎ (b ≤ a)
      less zero zero = inr (omega arith)
      less zero (suc b) = inl (omega arith)
      less (suc a) zero = inr (omega arith)
      less (suc a) (suc b) = elim (less a b) [ inl l ↦ inl (omega arith) | inr l ↦ inr (omega arith) ]

  no_due : (row : ℕ) (a : Bool) (o : Option (List ℕ)) → a ≡ false → o ≡ None → (a || list_any (flag m) (row_or_none o)) ≡ true → ⊥
  no_due row a o e f h =
      let nothing : (a || list_any (flag m) (row_or_none o)) ≡ false = λ i. e i || list_any (flag m) (row_or_none (f i)) in
      let clash : false ≡ true = sym nothing ∙ h in cc

  not_due : (row : ℕ) → length g ≤ row → is_due g own m row ≡ true → ⊥
  not_due row le due =
      let below : length own ≤ row = omega arith in
      no_due row (flag own row) (slice_get g row) (past_end own row below) (no_row g row le) due

  due_set : (row : ℕ) → is_due g own m row ≡ true → flag m row ≡ true
  due_set row due = elim (within_or_not row) [
    | inl lt ↦ set_there m row (let l = is.long in omega arith) (closed row lt due)
    | inr le ↦ absurd (not_due row le due)
  ]

  all_set : (k row : ℕ) → marked_within g own k row ≡ true → flag m row ≡ true
  unfolding marked_within
  all_set zero row e = absurd cc
  all_set (suc k) row e = due_set row (elim (either (flag own row) (list_any (marked_within g own k) (row_or_none (slice_get g row))) e) [
    | inl a ↦ left (flag own row) (list_any (flag m) (row_or_none (slice_get g row))) a
    | inr b ↦ right (flag own row) (list_any (flag m) (row_or_none (slice_get g row))) (any_more (marked_within g own k) (flag m) (λ x. all_set k x) (row_or_none (slice_get g row)) b)
  ])

  all_right : (row : ℕ) → flag m row ≡ true → marked g own row ≡ true
  all_right row h =
      let few : set_count m ≤ length m = few_set m in
      let l = is.long in
      more_steps g own (length g - set_count m) (set_count m) row (length g) (omega arith) (is.sound row h)

  pub comes_right : (row : ℕ) → flag m row ≡ marked g own row
  comes_right row = same_truth (flag m row) (marked g own row) (all_right row) (all_set (length g) row)
