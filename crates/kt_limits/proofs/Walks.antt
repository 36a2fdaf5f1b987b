-- Walks over parts, one behind the other.
use Rattle.std.proofs.Common.{◌≡◌, ◌<◌, ◌≤◌, ℕ, ◌+◌, List, [], ◌∷◌, ◌++◌, length, get_or, drop, refl, ap, sym, ◌∙◌}
use Rattle.std.proofs.lemmas.List.{drop_more, drop_all}
use Rattle.std.proofs.lemmas.Result.{err_from_is_err_and}
use Rattle.std.specs.Prelude.{Result, Ok, Err, IsErrAnd}
use Rattle.kt_base.specs.declared.refusals.Pos.{Pos}
use Rattle.kt_limits.specs.Limits.{Part}
use Rattle.kt_limits.specs.Walking.{step, then_on, walk}

-- what goes on after a first step
pub gone_on : {A B : Type 0} (r : Result A Pos) (f : A → Result B Pos) (x : A) → r ≡ Ok x → then_on r f ≡ f x
gone_on r f x e = ap (λ s. then_on s f) e

pub stopped : {A B : Type 0} (r : Result A Pos) (f : A → Result B Pos) (at : Pos) → r ≡ Err at → then_on r f ≡ Err at
stopped r f at e = ap (λ s. then_on s f) e

appended : (r : Result ℕ Pos) (a b : List Part) → ((n : ℕ) → walk n (a ++ b) ≡ then_on (walk n a) (λ m. walk m b))
    → then_on r (λ n. walk n (a ++ b)) ≡ then_on (then_on r (λ n. walk n a)) (λ m. walk m b)
appended (Ok n) a b later = later n
appended (Err at) a b later = refl

pub walk_append : (n : ℕ) (a b : List Part) → walk n (a ++ b) ≡ then_on (walk n a) (λ m. walk m b)
walk_append n [] b = refl
walk_append n (p ∷ a) b = appended (step n p) a b (λ m. walk_append m a b)

-- one part, and the rest
pub part_on : (n m : ℕ) (p : Part) (rest whole : List Part) (goal : Result ℕ Pos) → walk n whole ≡ goal → whole ≡ p ∷ rest → step n p ≡ Ok m
    → walk m rest ≡ goal
part_on n m p rest whole goal is e d = sym (gone_on (step n p) (λ k. walk k rest) m d) ∙ (ap (walk n) (sym e) ∙ is)

pub part_stops : (n : ℕ) (p : Part) (rest whole : List Part) (goal : Result ℕ Pos) (at : Pos) → walk n whole ≡ goal → whole ≡ p ∷ rest → step n p ≡ Err at
    → Err at ≡ goal
part_stops n p rest whole goal at is e d = sym (stopped (step n p) (λ k. walk k rest) at d) ∙ (ap (walk n) (sym e) ∙ is)

-- several parts, and the rest
pub parts_on : (n m : ℕ) (ps rest whole : List Part) (goal : Result ℕ Pos) → walk n whole ≡ goal → whole ≡ ps ++ rest → walk n ps ≡ Ok m
    → walk m rest ≡ goal
parts_on n m ps rest whole goal is e d =
    sym (gone_on (walk n ps) (λ k. walk k rest) m d) ∙ (sym (walk_append n ps rest) ∙ (ap (walk n) (sym e) ∙ is))

pub parts_stop : (n : ℕ) (ps rest whole : List Part) (goal : Result ℕ Pos) (at : Pos) → walk n whole ≡ goal → whole ≡ ps ++ rest → walk n ps ≡ Err at
    → Err at ≡ goal
parts_stop n ps rest whole goal at is e d =
    sym (stopped (walk n ps) (λ k. walk k rest) at d) ∙ (sym (walk_append n ps rest) ∙ (ap (walk n) (sym e) ∙ is))

-- A loop over a list, each element of which goes on from a count or stops.

pub loop_on : {A : Type 0} (f : ℕ → List A → Result ℕ Pos) (g : ℕ → A → Result ℕ Pos)
    → ((n : ℕ) (x : A) (xs : List A) → f n (x ∷ xs) ≡ then_on (g n x) (λ m. f m xs))
    → (xs : List A) (i : ℕ) (x : A) → i < length xs → x ≡ get_or xs i x → (n m : ℕ) (goal : Result ℕ Pos)
    → f n (drop i xs) ≡ goal → g n x ≡ Ok m → f m (drop (i + 1) xs) ≡ goal
loop_on f g one xs i x less is n m goal known e =
    let first : drop i xs ≡ x ∷ drop (i + 1) xs = drop_more xs i x less ∙ ap (λ y. y ∷ drop (i + 1) xs) (sym is) in
    sym (gone_on (g n x) (λ k. f k (drop (i + 1) xs)) m e) ∙ (sym (one n x (drop (i + 1) xs)) ∙ (sym (ap (f n) first) ∙ known))

pub loop_stops : {A : Type 0} (f : ℕ → List A → Result ℕ Pos) (g : ℕ → A → Result ℕ Pos)
    → ((n : ℕ) (x : A) (xs : List A) → f n (x ∷ xs) ≡ then_on (g n x) (λ m. f m xs))
    → (xs : List A) (i : ℕ) (x : A) → i < length xs → x ≡ get_or xs i x → (n : ℕ) (at : Pos) (goal : Result ℕ Pos)
    → f n (drop i xs) ≡ goal → g n x ≡ Err at → Err at ≡ goal
loop_stops f g one xs i x less is n at goal known e =
    let first : drop i xs ≡ x ∷ drop (i + 1) xs = drop_more xs i x less ∙ ap (λ y. y ∷ drop (i + 1) xs) (sym is) in
    sym (stopped (g n x) (λ k. f k (drop (i + 1) xs)) at e) ∙ (sym (one n x (drop (i + 1) xs)) ∙ (sym (ap (f n) first) ∙ known))

pub loop_ends : {A : Type 0} (f : ℕ → List A → Result ℕ Pos) → ((n : ℕ) → f n [] ≡ Ok n)
    → (xs : List A) (i : ℕ) → length xs ≤ i → (n : ℕ) (goal : Result ℕ Pos) → f n (drop i xs) ≡ goal → Ok n ≡ goal
loop_ends f none xs i le n goal known = sym (none n) ∙ (sym (ap (f n) (drop_all i xs le)) ∙ known)

-- the exit of a `?`
pub exits : {A : Type 0} (r : Result A Pos) (at : Pos) (goal : Result A Pos) → IsErrAnd r (λ p. p ≡ at) → Err at ≡ goal → r ≡ goal
exits r at goal is so = let p = err_from_is_err_and r is in p.1 ∙ (ap Err p.2 ∙ so)
