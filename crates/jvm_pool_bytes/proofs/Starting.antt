-- Entries by the index at which they start.
use Rattle.std.proofs.Common.{◌≡◌, ℕ, zero, suc, ◌+◌, ◌≤◌, Bool, true, false, cond, eqb, List, [], ◌∷◌, map, Option, Some, None, slice_get, Result, refl, sym, ap, ◌∙◌, arith}
use Rattle.std.specs.List.Sorted.{IsBinarySearchResult}
use Rattle.std.specs.Ordering.{nat_cmp}
use Rattle.std.specs.Result.{result_ok}
use Rattle.std.proofs.lemmas.Bool.{ne_eqb}
use Rattle.jvm_pool.specs.Entries.{size}
use Rattle.jvm_pool.specs.Numbering.{starts, entry_at}
use Rattle.jvm_pool.proofs.Seeking.{none_if}
use Rattle.jvm_pool_bytes.specs.declared.raws.RawEntry.{RawEntry}
use Rattle.jvm_pool_bytes.specs.Raws.{raw_size, raw_at, raw_starts, entry_of}
use Rattle.jvm_pool_bytes.proofs.Found.{entry_size}
use Rattle.jvm_pool_bytes.proofs.Standing.{raw_size_some, raw_here}

pub starts_are : (k : ℕ) (rs : List RawEntry) → raw_starts k rs ≡ starts k (map (entry_of []) rs)
starts_are k [] = refl
starts_are k (r ∷ rs) =
    ap (λ (l : List ℕ). k ∷ l)
    (starts_are (k + raw_size r) rs ∙ ap (λ (n : ℕ). starts (k + n) (map (entry_of []) rs)) (sym (entry_size [] r)))

none_raw : (k : ℕ) (rs : List RawEntry) (i : ℕ) → entry_at k (map (entry_of []) rs) i ≡ None → raw_at k rs i ≡ None
unfolding entry_at raw_at
none_raw k [] i h = refl
none_raw k (x ∷ rs) i h = by (eqb i k) h (λ g. none_raw (k + raw_size x) rs i g)
  where
    by : (b : Bool) → cond b (Some (entry_of [] x)) (entry_at (k + size (entry_of [] x)) (map (entry_of []) rs) i) ≡ None
        → (entry_at (k + raw_size x) (map (entry_of []) rs) i ≡ None → raw_at (k + raw_size x) rs i ≡ None)
        → cond b (Some x) (raw_at (k + raw_size x) rs i) ≡ None
    by true h later = absurd cc
    by false h later =
        later (ap (λ (n : ℕ). entry_at (k + n) (map (entry_of []) rs) i) (sym (entry_size [] x)) ∙ h)

pub none_starts : (rs : List RawEntry) (vs : List ℕ) (x : ℕ) (r : Result ℕ ℕ) (o : Option ℕ) → vs ≡ raw_starts 1 rs
    → IsBinarySearchResult (λ y. nat_cmp y x) vs r → o ≡ result_ok r → o ≡ None → raw_at 1 rs x ≡ None
none_starts rs vs x r o is h p q =
    none_raw 1 rs x (none_if (map (entry_of []) rs) vs x r o (is ∙ starts_are 1 rs) h p q)

start_low : (k : ℕ) (rs : List RawEntry) (p i : ℕ) → slice_get (raw_starts k rs) p ≡ Some i → k ≤ i
start_low k [] p i h = absurd cc
start_low k (x ∷ rs) zero i h = let e : k ≡ i = cc in omega (arith, e)
start_low k (x ∷ rs) (suc p) i h = omega (arith, start_low (k + raw_size x) rs p i h)

pub at_start : (k : ℕ) (rs : List RawEntry) (p i : ℕ) → slice_get (raw_starts k rs) p ≡ Some i
    → raw_at k rs i ≡ slice_get rs p
unfolding raw_at
at_start k [] p i h = absurd cc
at_start k (x ∷ rs) zero i h =
    let e : k ≡ i = cc in
    ap (raw_at k (x ∷ rs)) (sym e) ∙ raw_here k x rs
at_start k (x ∷ rs) (suc p) i h =
    let low : k + raw_size x ≤ i = start_low (k + raw_size x) rs p i h in
    let isn't : eqb i k ≡ false = ne_eqb i k (λ e. omega (arith, low, raw_size_some x, e)) in
    ap (λ (b : Bool). cond b (Some x) (raw_at (k + raw_size x) rs i)) isn't ∙ at_start (k + raw_size x) rs p i h
