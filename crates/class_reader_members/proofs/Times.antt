-- So many parts, read one behind the other in a loop.
use Rattle.std.proofs.Common.{◌≡◌, ℕ, suc, zero, ◌-◌, ◌+◌, ◌<◌, ◌≤◌, List, [], ◌∷◌, ◌++◌, Result, Ok, Err, ap, sym, ◌∙◌, arith}
use Rattle.jvm_class_formats.specs.Formats.{Spot, Format, times_at}
use Rattle.jvm_class_formats.specs.Reads.{Reads, in_front}
use Rattle.jvm_class_formats.specs.declared.errors.ReadErr.{ReadErr}
use Rattle.jvm_class_formats.proofs.Fronts.{goes_on, stops_so, ends}

-- the i-th of so many was read
pub one_more : {A : Type 0} (f : Format A) (count i : ℕ) (before : List A) (s rest : Spot) (a : A) (o : Result (List A
    × Spot) ℕ)
    → i < count → f.read s ≡ Ok (a, rest) → in_front before (times_at f (count - i) s) ≡ o
    → in_front (before ++ a ∷ []) (times_at f (count - (i + 1)) rest) ≡ o
one_more f count i before s rest a o lt read so_far =
    let left : count - i ≡ suc (count - (i + 1)) = omega (arith, lt) in
    goes_on before (f.read s) (times_at f (count - (i + 1))) a rest o read
    (ap (λ (n : ℕ). in_front before (times_at f n s)) (sym left) ∙ so_far)

-- the i-th of so many was refused
pub one_refused : {A X Z : Type 0} (view : X → A × Spot) (seen : Z
    → List A × Spot) (f : Format A) (count i : ℕ) (before : List A)
    (s : Spot) (e : ReadErr) (o : Result (List A × Spot) ℕ) → i < count → Reads view (Err e) (f.read s)
    → in_front before (times_at f (count - i) s) ≡ o → Reads seen (Err e) o
one_refused view seen f count i before s e o lt read so_far =
    let left : count - i ≡ suc (count - (i + 1)) = omega (arith, lt) in
    stops_so view seen e before (f.read s) (times_at f (count - (i + 1))) o read
    (ap (λ (n : ℕ). in_front before (times_at f n s)) (sym left) ∙ so_far)

-- all of them were read
pub all_read : {A : Type 0} (f : Format A) (count i : ℕ) (before : List A) (s : Spot) (o : Result (List A × Spot) ℕ) →
    count ≤ i
    → in_front before (times_at f (count - i) s) ≡ o → o ≡ Ok (before, s)
all_read f count i before s o le so_far =
    let left : count - i ≡ zero = omega (arith, le) in
    ends before s o (ap (λ (n : ℕ). in_front before (times_at f n s)) (sym left) ∙ so_far)
