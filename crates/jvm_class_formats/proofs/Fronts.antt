-- A list that is read part by part: what was read stands in front of what is left.
use Rattle.std.proofs.Common.{◌≡◌, ℕ, List, [], ◌∷◌, ◌++◌, Result, Ok, Err, sym, ap, ◌∙◌, append_assoc, refl}
use Rattle.std.proofs.lemmas.List.{append-nil}
use Rattle.jvm_class_formats.specs.Formats.{◌>>=◌}
use Rattle.jvm_class_formats.specs.declared.errors.ReadErr.{ReadErr}
use Rattle.jvm_class_formats.specs.declared.errors.ReadErr.TheVariants.{BadBytes, NoMemory}
use Rattle.jvm_class_formats.specs.Reads.{Reads, in_front}
use Rattle.jvm_class_formats.proofs.Steps.{done}

joined : {A S : Type 0} (before : List A) (a : A) (r : Result (List A × S) ℕ) → in_front (before ++ a ∷ []) r
    ≡ in_front before (r >>= λ rest. done {A = List A × S} (a ∷ rest.0, rest.1))
joined {A} {S} before a (Ok x) = ap (λ (l : List A). done {A = List A × S} (l, x.1)) (append_assoc before (a ∷ []) x.0)
joined before a (Err at) = refl

-- one more was read
pub goes_on : {A S : Type 0} (before : List A) (f : Result (A × S) ℕ) (next : S → Result (List A × S) ℕ) (a : A) (s : S)
    (o : Result (List A × S) ℕ) → f ≡ Ok (a, s)
    → in_front before (f >>= λ a. next a.1 >>= λ rest. done {A = List A × S} (a.0 ∷ rest.0, rest.1)) ≡ o
    → in_front (before ++ a ∷ []) (next s) ≡ o
goes_on {A} {S} before f next a s o is h =
    joined before a (next s)
    ∙ sym (ap (λ (r : Result (A × S) ℕ).
    in_front before (r >>= λ a. next a.1 >>= λ rest. done {A = List A × S} (a.0 ∷ rest.0, rest.1))) is) ∙ h

stops : {A S : Type 0} (before : List A) (f : Result (A × S) ℕ) (next : S → Result (List A × S) ℕ) (at : ℕ)
    (o : Result (List A × S) ℕ) → f ≡ Err at
    → in_front before (f >>= λ a. next a.1 >>= λ rest. done {A = List A × S} (a.0 ∷ rest.0, rest.1)) ≡ o → o ≡ Err at
stops {A} {S} before f next at o is h =
    sym h ∙ ap (λ (r : Result (A × S) ℕ).
    in_front before (r >>= λ a. next a.1 >>= λ rest. done {A = List A × S} (a.0 ∷ rest.0, rest.1))) is

-- none is left
pub ends : {A S : Type 0} (before : List A) (s : S) (o : Result (List A × S) ℕ)
    → in_front before (done {A = List A × S} ([], s)) ≡ o → o ≡ Ok (before, s)
ends {A} {S} before s o h = sym h ∙ ap (λ (l : List A). done {A = List A × S} (l, s)) (append-nil before)

-- the next was refused
pub stops_so : {A S X Z : Type 0} (view : X → A × S) (seen : Z → List A × S) (e : ReadErr) (before : List A)
    (f : Result (A × S) ℕ) (next : S → Result (List A × S) ℕ) (o : Result (List A × S) ℕ) → Reads view (Err e) f
    → in_front before (f >>= λ a. next a.1 >>= λ rest. done {A = List A × S} (a.0 ∷ rest.0, rest.1)) ≡ o
    → Reads seen (Err e) o
stops_so view seen (BadBytes at) before f next o is h = stops before f next at o is h
stops_so view seen NoMemory before f next o is h = tt
