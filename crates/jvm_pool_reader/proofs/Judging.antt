-- Entries judged one by one.
use Rattle.std.proofs.Common.{◌≡◌, ℕ, zero, suc, ◌+◌, ◌<◌, ◌≤◌, Bool, true, false, cond, List, [], ◌∷◌, length, drop, slice_get, Option, Some, None, is_some, true≢false, refl, sym, ap, ◌∙◌, arith}
use Rattle.std.specs.List.{zip}
use Rattle.jvm_pool_bytes.specs.declared.raws.RawEntry.{RawEntry}
use Rattle.jvm_pool_bytes.specs.Reading.{fits, first_misfit, raws_of}
use Rattle.jvm_pool_reader.specs.JudgedSoFar.{misfit}

-- ---- an entry beside its offset

pub both_at : (os : List ℕ) (rs : List RawEntry) (i o : ℕ) (r : RawEntry) → slice_get os i ≡ Some o
    → slice_get rs i ≡ Some r → slice_get (zip os rs) i ≡ Some (o, r)
both_at [] rs i o r p q = absurd cc
both_at (x ∷ os) [] i o r p q = absurd cc
both_at (x ∷ os) (y ∷ rs) zero o r p q =
    let e : x ≡ o = cc in
    let f : y ≡ r = cc in
    ap (λ (n : ℕ). Some (n, y)) e ∙ ap (λ (z : RawEntry). Some (o, z)) f
both_at (x ∷ os) (y ∷ rs) (suc i) o r p q = both_at os rs i o r p q

pub no_offset : (os : List ℕ) (rs : List RawEntry) (i : ℕ) → slice_get os i ≡ None → slice_get (zip os rs) i ≡ None
no_offset [] rs i p = refl
no_offset (x ∷ os) [] i p = refl
no_offset (x ∷ os) (y ∷ rs) zero p = absurd cc
no_offset (x ∷ os) (y ∷ rs) (suc i) p = no_offset os rs i p

pub no_raw : (os : List ℕ) (rs : List RawEntry) (i : ℕ) → slice_get rs i ≡ None → slice_get (zip os rs) i ≡ None
no_raw [] rs i p = refl
no_raw (x ∷ os) [] i p = refl
no_raw (x ∷ os) (y ∷ rs) zero p = absurd cc
no_raw (x ∷ os) (y ∷ rs) (suc i) p = no_raw os rs i p

pub length_raws : (xs : List (ℕ × RawEntry)) → length (raws_of xs) ≡ length xs
length_raws [] = refl
length_raws (x ∷ xs) = ap suc (length_raws xs)

-- ---- the first misfit

abbrev none : Option ℕ
none = None

module _ (all : List RawEntry) (count : ℕ) where
  misfit_stops : (xs : List (ℕ × RawEntry)) (i at : ℕ) → misfit all count (slice_get xs i) ≡ Some at
      → first_misfit all count (drop i xs) ≡ Some at
  misfit_stops [] i at h = absurd cc
  misfit_stops (x ∷ xs) zero at h = by (fits all count x.1) h
    where
      by : (b : Bool) → cond b none (Some x.0) ≡ Some at
          → cond b (first_misfit all count xs) (Some x.0) ≡ Some at
      by true h = absurd cc
      by false h = h
  misfit_stops (x ∷ xs) (suc i) at h = misfit_stops xs i at h

  misfit_goes_on : (xs : List (ℕ × RawEntry)) (i : ℕ) → misfit all count (slice_get xs i) ≡ None → i < length xs
      → first_misfit all count (drop (suc i) xs) ≡ first_misfit all count (drop i xs)
  misfit_goes_on [] i h lt = absurd (omega (arith, lt))
  misfit_goes_on (x ∷ xs) zero h lt = by (fits all count x.1) h
    where
      by : (b : Bool) → cond b none (Some x.0) ≡ None
          → first_misfit all count xs ≡ cond b (first_misfit all count xs) (Some x.0)
      by true h = refl
      by false h = absurd cc
  misfit_goes_on (x ∷ xs) (suc i) h lt = misfit_goes_on xs i h (omega (arith, lt))

  module _ (xs : List (ℕ × RawEntry)) (i : ℕ)
      (so_far : first_misfit all count (drop i xs) ≡ first_misfit all count xs) where
    pub stopped : (at : ℕ) → Some at ≡ misfit all count (slice_get xs i) → Some at ≡ first_misfit all count xs
    stopped at h = sym (misfit_stops xs i at (sym h)) ∙ so_far

    pub passed : None ≡ misfit all count (slice_get xs i) → i < length xs
        → first_misfit all count (drop (i + 1) xs) ≡ first_misfit all count xs
    passed h lt =
        let on : i + 1 ≡ suc i = omega arith in
        ap (λ (n : ℕ). first_misfit all count (drop n xs)) on ∙ misfit_goes_on xs i (sym h) lt ∙ so_far

    pub stopped_so : (o : Option ℕ) → o ≡ misfit all count (slice_get xs i) → is_some o ≡ true
        → o ≡ first_misfit all count xs
    stopped_so (Some at) h is = stopped at h
    stopped_so None h is = absurd (true≢false (sym is))

    pub passed_so : (o : Option ℕ) → o ≡ misfit all count (slice_get xs i) → is_some o ≡ false → i < length xs
        → first_misfit all count (drop (i + 1) xs) ≡ first_misfit all count xs
    passed_so None h is lt = passed h lt
    passed_so (Some at) h is lt = absurd (true≢false is)

    pub finished : length xs ≤ i → None ≡ first_misfit all count xs
    finished le = ap (first_misfit all count) (sym (drop_all xs i le)) ∙ so_far
      where
        drop_all : (ys : List (ℕ × RawEntry)) (n : ℕ) → length ys ≤ n → drop n ys ≡ []
        drop_all [] n le = drop_none n
          where
            drop_none : (n : ℕ) → drop {A = ℕ × RawEntry} n [] ≡ []
            drop_none zero = refl
            drop_none (suc n) = refl
        drop_all (y ∷ ys) zero le = absurd (omega (arith, le))
        drop_all (y ∷ ys) (suc n) le = drop_all ys n (omega (arith, le))
