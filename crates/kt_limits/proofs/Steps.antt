-- One direct statement after the other.
use Rattle.std.proofs.Common.{◌≡◌, ◌<◌, ◌≤◌, ℕ, ◌+◌, Bool, true, false, ◌&&◌, List, [], ◌∷◌, ◌++◌, map, length, get_or, drop, nat_le, refl, ap, ap₂, subst, sym, ◌∙◌}
use Rattle.std.specs.Prelude.{Result, Ok, Err, Option, Some, None, slice_get}
use Rattle.std.specs.List.{list_all}
use Rattle.std.proofs.lemmas.List.{drop_more, drop_all}
use Rattle.kt_base.specs.declared.refusals.Pos.{Pos}
use Rattle.kt_typed.specs.declared.bodies.TypedStatement.{TypedStatement}
use Rattle.kt_typed.specs.declared.headers.MemberNumber.{MemberNumber}
use Rattle.kt_typed.specs.declared.headers.MemberNumber.TheVariants as member
use Rattle.kt_typed.specs.Bodies.{StatementForm, StatementForms, statement_then, statements_end, statement_form, statements_of, FunForm}
use Rattle.kt_sizes.specs.declared.sizes.Sizes.{Sizes}
use Rattle.kt_sizes.specs.Capped.{cap, capped}
use Rattle.kt_limits.specs.declared.so_far.SoFar.{SoFar}
use Rattle.kt_limits.specs.Limits.{Part}
use Rattle.kt_limits.specs.Walking.{State, kept, behind, is_fine, step, step_of, then_on, walk, part_behind, parts_behind, stepped, method_parts, members_behind, next_parts, next_state, next_rest}
use Rattle.kt_limits.proofs.Walks.{gone_on, stopped, walk_append}

pub step_is : (count m : ℕ) (p : Part) (r : Result ℕ Pos) (fine : Bool) (at : Pos) → m ≡ p.nodes → fine ≡ is_fine p → at ≡ p.at
    → r ≡ step_of count m fine at → r ≡ step count p
unfolding step
step_is count m p r fine at nodes is place e =
    e ∙ (ap (λ k. step_of count k fine at) nodes ∙ (ap (λ b. step_of count p.nodes b at) is ∙ ap (λ a. step_of count p.nodes (is_fine p) a) place))

pub counted_nodes : (z a : Sizes) → z ≡ capped a → z.nodes ≡ cap a.nodes
unfolding capped
counted_nodes z a is = ap (λ (x : Sizes). x.nodes) is

pub stepped_ok : (f : FunForm) (s : State) (x : StatementForm) (count n : ℕ) (so : SoFar) → Ok n ≡ step count (part_behind f s x) → so ≡ kept (behind s x)
    → Ok (so, n) ≡ stepped f s x count
stepped_ok f s x count n so e is =
    ap (λ k. Ok (k, n)) is ∙ sym (gone_on (step count (part_behind f s x)) (λ m. Ok (kept (behind s x), m)) n (sym e))

pub stepped_err : (f : FunForm) (s : State) (x : StatementForm) (count : ℕ) (at : Pos) → Err at ≡ step count (part_behind f s x)
    → Err at ≡ stepped f s x count
stepped_err f s x count at e = sym (stopped (step count (part_behind f s x)) (λ m. Ok (kept (behind s x), m)) at (sym e))

-- what a step says

same_pair : (a b : SoFar) (m n : ℕ) → ◌≡◌ {A = Result (SoFar × ℕ) Pos} (Ok (a, m)) (Ok (b, n)) → (a ≡ b) × (m ≡ n)
same_pair a b m n e = let pair : ◌≡◌ {A = SoFar × ℕ} (a, m) (b, n) = cc in (ap (λ (x : SoFar × ℕ). x.0) pair, ap (λ (x : SoFar × ℕ). x.1) pair)

no_pair : (a : SoFar) (m : ℕ) (at : Pos) → ◌≡◌ {A = Result (SoFar × ℕ) Pos} (Err at) (Ok (a, m)) → ⊥
no_pair a m at e = absurd cc

no_place : (a : SoFar) (m : ℕ) (at : Pos) → ◌≡◌ {A = Result (SoFar × ℕ) Pos} (Ok (a, m)) (Err at) → ⊥
no_place a m at e = absurd cc

same_place : (a b : Pos) → ◌≡◌ {A = Result (SoFar × ℕ) Pos} (Err a) (Err b) → a ≡ b
same_place a b e = cc

was_ok : (r : Result ℕ Pos) (so z : SoFar) (n : ℕ) → ◌≡◌ {A = Result (SoFar × ℕ) Pos} (Ok (so, n)) (then_on r (λ m. Ok (z, m))) → (r ≡ Ok n) × (so ≡ z)
was_ok (Ok m) so z n e = let p = same_pair so z n m e in (ap Ok (sym p.1), p.0)
was_ok (Err at) so z n e = absurd (no_place so n at e)

was_err : (r : Result ℕ Pos) (z : SoFar) (at : Pos) → ◌≡◌ {A = Result (SoFar × ℕ) Pos} (Err at) (then_on r (λ m. Ok (z, m))) → r ≡ Err at
was_err (Ok m) z at e = absurd (no_pair z m at e)
was_err (Err b) z at e = ap Err (sym (same_place at b e))

pub stepped_was : (f : FunForm) (s : State) (x : StatementForm) (count n : ℕ) (so : SoFar) → Ok (so, n) ≡ stepped f s x count
    → (step count (part_behind f s x) ≡ Ok n) × (so ≡ kept (behind s x))
stepped_was f s x count n so e = was_ok (step count (part_behind f s x)) so (kept (behind s x)) n e

pub stepped_stopped : (f : FunForm) (s : State) (x : StatementForm) (count : ℕ) (at : Pos) → Err at ≡ stepped f s x count
    → step count (part_behind f s x) ≡ Err at
stepped_stopped f s x count at e = was_err (step count (part_behind f s x)) (kept (behind s x)) at e

-- a loop over the statements of a body

first_of : (f : FunForm) (s : State) (xs : List TypedStatement) (i : ℕ) (x : TypedStatement) → i < length xs → x ≡ get_or xs i x
    → parts_behind f s (statements_of (map statement_form (drop i xs)))
    ≡ (part_behind f s (statement_form x) ∷ parts_behind f (behind s (statement_form x)) (statements_of (map statement_form (drop (i + 1) xs))))
first_of f s xs i x less is =
    let first : drop i xs ≡ x ∷ drop (i + 1) xs = drop_more xs i x less ∙ ap (λ y. y ∷ drop (i + 1) xs) (sym is) in
    ap (λ ys. parts_behind f s (statements_of (map statement_form ys))) first

pub run_on : (f : FunForm) (s : State) (xs : List TypedStatement) (i : ℕ) (x : TypedStatement) → i < length xs → x ≡ get_or xs i x
    → (count n : ℕ) (so : SoFar) (goal : Result ℕ Pos) → walk count (parts_behind f s (statements_of (map statement_form (drop i xs)))) ≡ goal
    → Ok (so, n) ≡ stepped f s (statement_form x) count
    → walk n (parts_behind f (behind s (statement_form x)) (statements_of (map statement_form (drop (i + 1) xs)))) ≡ goal
run_on f s xs i x less is count n so goal known e =
    sym (gone_on (step count (part_behind f s (statement_form x)))
    (λ m. walk m (parts_behind f (behind s (statement_form x)) (statements_of (map statement_form (drop (i + 1) xs))))) n
    (stepped_was f s (statement_form x) count n so e).0)
    ∙ (ap (walk count) (sym (first_of f s xs i x less is)) ∙ known)

pub run_stops : (f : FunForm) (s : State) (xs : List TypedStatement) (i : ℕ) (x : TypedStatement) → i < length xs → x ≡ get_or xs i x
    → (count : ℕ) (at : Pos) (goal : Result ℕ Pos) → walk count (parts_behind f s (statements_of (map statement_form (drop i xs)))) ≡ goal
    → Err at ≡ stepped f s (statement_form x) count → Err at ≡ goal
run_stops f s xs i x less is count at goal known e =
    sym (stopped (step count (part_behind f s (statement_form x)))
    (λ m. walk m (parts_behind f (behind s (statement_form x)) (statements_of (map statement_form (drop (i + 1) xs))))) at
    (stepped_stopped f s (statement_form x) count at e))
    ∙ (ap (walk count) (sym (first_of f s xs i x less is)) ∙ known)

pub run_ends : (f : FunForm) (s : State) (xs : List TypedStatement) (i : ℕ) → length xs ≤ i → (count : ℕ) (goal : Result ℕ Pos)
    → walk count (parts_behind f s (statements_of (map statement_form (drop i xs)))) ≡ goal → Ok count ≡ goal
run_ends f s xs i le count goal known =
    ap (λ ys. walk count (parts_behind f s (statements_of (map statement_form ys)))) (sym (drop_all i xs le)) ∙ known

-- members of a class

pub method_on : (fs : List (Option FunForm)) (f : Option FunForm) (s : State) (xs : StatementForms) (number : ℕ) (m : MemberNumber) (ms : List MemberNumber) (count n : ℕ)
    → m ≡ member.Function number → Ok n ≡ walk count (method_parts (slice_get fs number))
    → walk count (members_behind fs f s xs (m ∷ ms)) ≡ walk n (members_behind fs f s xs ms)
method_on fs f s xs number m ms count n is e =
    ap (λ k. walk count (members_behind fs f s xs (k ∷ ms))) is
    ∙ (walk_append count (method_parts (slice_get fs number)) (members_behind fs f s xs ms)
    ∙ gone_on (walk count (method_parts (slice_get fs number))) (λ k. walk k (members_behind fs f s xs ms)) n (sym e))

pub method_stops : (fs : List (Option FunForm)) (f : Option FunForm) (s : State) (xs : StatementForms) (number : ℕ) (m : MemberNumber) (ms : List MemberNumber) (count : ℕ) (at : Pos)
    → m ≡ member.Function number → Err at ≡ walk count (method_parts (slice_get fs number))
    → walk count (members_behind fs f s xs (m ∷ ms)) ≡ Err at
method_stops fs f s xs number m ms count at is e =
    ap (λ k. walk count (members_behind fs f s xs (k ∷ ms))) is
    ∙ (walk_append count (method_parts (slice_get fs number)) (members_behind fs f s xs ms)
    ∙ stopped (walk count (method_parts (slice_get fs number))) (λ k. walk k (members_behind fs f s xs ms)) at (sym e))

-- the parts of a class behind its own header
pub class_on : (first : Result ℕ Pos) (a b : List Part) (n m : ℕ) (r : Result ℕ Pos) → Ok n ≡ first → Ok m ≡ walk n a → r ≡ walk m b
    → r ≡ then_on first (λ k. walk k (a ++ b))
class_on first a b n m r e d is =
    is ∙ (sym (gone_on (walk n a) (λ k. walk k b) m (sym d)) ∙ (sym (walk_append n a b)
    ∙ sym (gone_on first (λ k. walk k (a ++ b)) n (sym e))))

pub class_stops : (first : Result ℕ Pos) (a b : List Part) (n : ℕ) (at : Pos) → Ok n ≡ first → Err at ≡ walk n a
    → Err at ≡ then_on first (λ k. walk k (a ++ b))
class_stops first a b n at e d =
    sym (stopped (walk n a) (λ k. walk k b) at (sym d)) ∙ (sym (walk_append n a b) ∙ sym (gone_on first (λ k. walk k (a ++ b)) n (sym e)))

-- one part by itself
pub next_on : (f : FunForm) (s : State) (x : StatementForm) (count n : ℕ) (so : SoFar) → Ok (so, n) ≡ stepped f s x count
    → walk count (part_behind f s x ∷ []) ≡ Ok n
next_on f s x count n so e = gone_on (step count (part_behind f s x)) (λ m. walk m []) n (stepped_was f s x count n so e).0

pub next_stops : (f : FunForm) (s : State) (x : StatementForm) (count : ℕ) (at : Pos) → Err at ≡ stepped f s x count
    → walk count (part_behind f s x ∷ []) ≡ Err at
next_stops f s x count at e = stopped (step count (part_behind f s x)) (λ m. walk m []) at (stepped_stopped f s x count at e)

-- an initialiser, and the members behind it
pub property_on : (fs : List (Option FunForm)) (f : Option FunForm) (s z : State) (xs ys : StatementForms) (ms : List MemberNumber) (count n : ℕ)
    → walk count (next_parts f s xs) ≡ Ok n → z ≡ next_state f s xs → ys ≡ next_rest f xs
    → walk count (next_parts f s xs ++ members_behind fs f (next_state f s xs) (next_rest f xs) ms) ≡ walk n (members_behind fs f z ys ms)
property_on fs f s z xs ys ms count n e state rest =
    walk_append count (next_parts f s xs) (members_behind fs f (next_state f s xs) (next_rest f xs) ms)
    ∙ (gone_on (walk count (next_parts f s xs)) (λ k. walk k (members_behind fs f (next_state f s xs) (next_rest f xs) ms)) n e
    ∙ ap₂ (λ a b. walk n (members_behind fs f a b ms)) (sym state) (sym rest))

pub property_stops : (fs : List (Option FunForm)) (f : Option FunForm) (s : State) (xs : StatementForms) (ms : List MemberNumber) (count : ℕ) (at : Pos)
    → walk count (next_parts f s xs) ≡ Err at
    → walk count (next_parts f s xs ++ members_behind fs f (next_state f s xs) (next_rest f xs) ms) ≡ Err at
property_stops fs f s xs ms count at e =
    walk_append count (next_parts f s xs) (members_behind fs f (next_state f s xs) (next_rest f xs) ms)
    ∙ stopped (walk count (next_parts f s xs)) (λ k. walk k (members_behind fs f (next_state f s xs) (next_rest f xs) ms)) at e
