-- The elements of lists that are put together.
use Rattle.std.proofs.Common.{◌≡◌, ℕ, zero, suc, ◌+◌, ◌<◌, ◌⊎◌, inl, inr, refl, sym, ap, Bool, true, false, List, [], ◌∷◌, ◌++◌, map, take, length, Some, None, arith}
use Rattle.std.specs.Prelude.{slice_get, flat_map, position, nat_lt, cond}
use Rattle.std.specs.List.{position_or_len}

pub some_is : {A : Type 0} {a b : A} → Some a ≡ Some b → a ≡ b
some_is e = cc

pub get_append : {A : Type 0} (xs ys : List A) (i : ℕ) (x : A) → slice_get (xs ++ ys) i ≡ Some x → (slice_get xs i ≡ Some x) ⊎ ((j : ℕ) × (slice_get ys j ≡ Some x) × (i ≡ length xs + j))
get_append [] ys i x h = inr (i, h, omega arith)
get_append (y ∷ xs) ys zero x h = inl h
get_append (y ∷ xs) ys (suc i) x h = elim (get_append xs ys i x h) [
  | inl a ↦ inl a
  | inr b ↦ let e = b.2 in inr (b.0, b.1, omega arith)
]

pub get_before : {A : Type 0} (xs ys : List A) (i : ℕ) (x : A) → slice_get xs i ≡ Some x → slice_get (xs ++ ys) i ≡ Some x
get_before [] ys i x h = cc
get_before (y ∷ xs) ys zero x h = h
get_before (y ∷ xs) ys (suc i) x h = get_before xs ys i x h

pub get_behind : {A : Type 0} (xs ys : List A) (i j : ℕ) → i ≡ length xs + j → slice_get (xs ++ ys) i ≡ slice_get ys j
get_behind [] ys i j e = ap (slice_get ys) (let q : i ≡ j = omega arith in q)
get_behind (x ∷ xs) ys zero j e = absurd (omega arith)
get_behind (x ∷ xs) ys (suc i) j e = get_behind xs ys i j (omega arith)

pub get_map : {A B : Type 0} (f : A → B) (xs : List A) (i : ℕ) (y : B) → slice_get (map f xs) i ≡ Some y → (x : A) × (slice_get xs i ≡ Some x) × (y ≡ f x)
get_map f [] i y h = cc
get_map f (x ∷ xs) zero y h = (x, refl, sym (some_is h))
get_map f (x ∷ xs) (suc i) y h = get_map f xs i y h

pub map_get : {A B : Type 0} (f : A → B) (xs : List A) (i : ℕ) (x : A) → slice_get xs i ≡ Some x → slice_get (map f xs) i ≡ Some (f x)
map_get f [] i x h = cc
map_get f (y ∷ xs) zero x h = ap Some (ap f (some_is h))
map_get f (y ∷ xs) (suc i) x h = map_get f xs i x h

pub some_at : {A : Type 0} (xs : List A) (i : ℕ) → i < length xs → (x : A) × (slice_get xs i ≡ Some x)
some_at [] i lt = absurd (omega arith)
some_at (x ∷ xs) zero lt = (x, refl)
some_at (x ∷ xs) (suc i) lt = some_at xs i (omega arith)

pub take_front : {A : Type 0} (xs ys : List A) (n : ℕ) → length xs ≡ n → take n (xs ++ ys) ≡ xs
take_front [] ys zero e = refl
take_front [] ys (suc n) e = absurd (omega arith)
take_front (x ∷ xs) ys zero e = absurd (omega arith)
take_front (x ∷ xs) ys (suc n) e = ap (λ zs. x ∷ zs) (take_front xs ys n (omega arith))

-- what each piece has only, all have
pub flat_each : {A B : Type 0} (P : B → Type 0) (f : A → List B) → ((a : A) (i : ℕ) (b : B) → slice_get (f a) i ≡ Some b → P b) → (xs : List A) (i : ℕ) (b : B) → slice_get (flat_map f xs) i ≡ Some b → P b
flat_each P f each [] i b h = cc
flat_each P f each (x ∷ xs) i b h = elim (get_append (f x) (flat_map f xs) i b h) [
  | inl a ↦ each x i b a
  | inr r ↦ flat_each P f each xs r.0 b r.1
]

less : (k n : ℕ) → nat_lt k n ≡ true → k < n
less k n h = grind (arith, h)

pub position_within : {A : Type 0} (p : A → Bool) (xs : List A) (i : ℕ) → position p xs ≡ Some i → i < length xs
position_within p xs i h = by (nat_lt (position_or_len p xs) (length xs)) refl h
  where
    by : (b : Bool) → nat_lt (position_or_len p xs) (length xs) ≡ b → cond b (Some (position_or_len p xs)) None ≡ Some i → i < length xs
    by true e q =
        let same : position_or_len p xs ≡ i = some_is q in
        let lt : position_or_len p xs < length xs = less (position_or_len p xs) (length xs) e in omega arith
    by false e q = cc
