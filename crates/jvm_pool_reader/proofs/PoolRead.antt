-- A pool is read: its count, its entries, and what they stand for.
use Rattle.std.proofs.Common.{◌≡◌, ℕ, ◌-◌, List, [], Option, None, Result, Ok, Err, sym, ap, subst, ◌∙◌}
use Rattle.std.specs.Prelude.{nat_lt}
use Rattle.std.specs.Int.{w16}
use Rattle.jvm_pool.specs.declared.entries.Entry.{Entry}
use Rattle.jvm_class_formats.specs.Formats.{Spot, ◌>>=◌, number_at}
use Rattle.jvm_class_formats.specs.Lawful.{IsBytes}
use Rattle.jvm_class_formats.specs.Reads.{Reads}
use Rattle.jvm_class_formats.specs.declared.errors.ReadErr.{ReadErr}
use Rattle.jvm_class_formats.specs.declared.errors.ReadErr.TheVariants.{BadBytes, NoMemory}
use Rattle.jvm_pool_bytes.specs.declared.raws.RawEntry.{RawEntry}
use Rattle.jvm_pool_bytes.specs.Reading.{Stretch, entries_of, first_misfit, judged, pool_at, raws_at, raws_of, unless_misfit}
use Rattle.jvm_pool_bytes.specs.Spelling.{IsPool}
use Rattle.jvm_pool_bytes.proofs.PoolFound.{pool_is_spelled}
use Rattle.jvm_pool_reader.specs.JudgedSoFar.{GivesPool}

pub pool_step : (s : Spot) (n : ℕ) (t : Spot) → number_at w16 (λ n. nat_lt 0 n) s ≡ Ok (n, t)
    → pool_at s ≡ judged n (raws_at (n - 1) (n - 1) [] t)
unfolding pool_at
pool_step s n t h =
    ap (λ (r : Result (ℕ × Spot) ℕ). r >>= λ x. judged x.0 (raws_at (x.0 - 1) (x.0 - 1) [] x.1)) h

pub pool_stop : {X Z : Type 0} (view : X → ℕ × Spot) (seen : Z → List Entry × Spot) (s : Spot) (e : ReadErr)
    → Reads view (Err e) (number_at w16 (λ n. nat_lt 0 n) s) → Reads seen (Err e) (pool_at s)
unfolding pool_at
pool_stop view seen s (BadBytes at) h =
    ap (λ (r : Result (ℕ × Spot) ℕ). r >>= λ x. judged x.0 (raws_at (x.0 - 1) (x.0 - 1) [] x.1)) h
pool_stop view seen s NoMemory h = tt

pub gives_pool : (s : Spot) (n : ℕ) (t : Spot) → IsBytes s.bytes → number_at w16 (λ n. nat_lt 0 n) s ≡ Ok (n, t)
    → GivesPool (judged n (raws_at (n - 1) (n - 1) [] t))
gives_pool s n t fit h = by (judged n (raws_at (n - 1) (n - 1) [] t)) (pool_step s n t h)
  where
    by : (o : Result (List Entry × Spot) ℕ) → pool_at s ≡ o → GivesPool o
    by (Ok x) is = (pool_is_spelled s x.0 x.1 fit is).0
    by (Err at) is = tt

module _ (count : ℕ) (xs : List (ℕ × RawEntry)) (end : Result Spot ℕ) (x : Stretch) (read : (xs, end) ≡ x) where
  pub judged_is : (o : Option ℕ) → o ≡ first_misfit (raws_of xs) count xs → judged count x ≡ unless_misfit (xs, end) o
  judged_is o is = ap (judged count) (sym read) ∙ ap (unless_misfit (xs, end)) (sym is)

  pub judged_pool : (t : Spot) → None ≡ first_misfit (raws_of xs) count xs → end ≡ Ok t
      → judged count x ≡ Ok (entries_of (raws_of xs), t)
  judged_pool t is ok =
      judged_is None is ∙ ap (λ (r : Result Spot ℕ). unless_misfit (xs, r) None) ok

  pub judged_stop : (at : ℕ) → None ≡ first_misfit (raws_of xs) count xs → end ≡ Err at → judged count x ≡ Err at
  judged_stop at is err = judged_is None is ∙ ap (λ (r : Result Spot ℕ). unless_misfit (xs, r) None) err

  pub is_pool : (t : Spot) → None ≡ first_misfit (raws_of xs) count xs → end ≡ Ok t → GivesPool (judged count x)
      → IsPool (entries_of (raws_of xs))
  is_pool t is ok pool = subst GivesPool (judged_pool t is ok) pool

pub is_pool_so : (count n k : ℕ) (xs : List (ℕ × RawEntry)) (end : Result Spot ℕ) (s t : Spot) (o : Option ℕ) → n ≡ count
    → k ≡ count → ◌≡◌ {A = Stretch} (xs, end) (raws_at (n - 1) (n - 1) [] s) → o ≡ first_misfit (raws_of xs) k xs
    → o ≡ None → end ≡ Ok t → GivesPool (judged count (raws_at (count - 1) (count - 1) [] s))
    → IsPool (entries_of (raws_of xs))
is_pool_so count n k xs end s t o p q read found none ok pool =
    is_pool count xs end (raws_at (count - 1) (count - 1) [] s)
    (read ∙ ap (λ (m : ℕ). raws_at (m - 1) (m - 1) [] s) p) t
    (sym none ∙ found ∙ ap (λ (m : ℕ). first_misfit (raws_of xs) m xs) q) ok pool
