-- Reading instructions one after the other, and judging their targets, as loops do.
use Rattle.std.proofs.Common.{◌≡◌, true, false, Option, Some, None, ℕ, suc, ◌-◌, ◌+◌, ◌<◌, List, [], ◌∷◌, ◌++◌, length, Result, Ok, Err, refl, sym, ap, ◌∙◌, append_assoc, arith}
use Rattle.std.proofs.lemmas.List.{append-nil}
use Rattle.jvm_code_instructions.specs.declared.fault.Fault.{Fault}
use Rattle.jvm_code_instructions.specs.declared.fault.Fault.TheVariants as fault
use Rattle.jvm_code.specs.declared.error.CodeErr.{CodeErr}
use Rattle.jvm_code_instructions.specs.Table.{Row}
use Rattle.jvm_code_instructions.specs.Reading.{row_at, Fails}
use Rattle.jvm_code.specs.Decoding.{aims, first_bad, in_front, behind_first, placed, Refuses, rows_at}

-- what was read before, and what is still to be read
abbrev pub behind_code : List (ℕ × Row) → Result (List (ℕ × Row)) CodeErr → Result (List (ℕ × Row)) CodeErr
behind_code front (Ok is) = Ok (front ++ is)
behind_code front (Err r) = Err r

regroup : (front : List (ℕ × Row)) (i : ℕ × Row) (read : Result (List (ℕ × Row)) CodeErr) → behind_code front (in_front i read) ≡ behind_code (front ++ i ∷ []) read
regroup front i (Ok is) = ap (λ (x : List (ℕ × Row)). Ok x) (simp append_assoc)
regroup front i (Err r) = refl

pub one_more : (n total : ℕ) (bytes : List ℕ) (x : Row × List ℕ) → 0 < length bytes → row_at (total - length bytes) bytes ≡ Ok x
    → rows_at (suc n) total bytes ≡ in_front (total - length bytes, x.0) (rows_at n total x.1)
unfolding rows_at
one_more n total [] x lt e = absurd (omega arith)
one_more n total (b ∷ bytes) x lt e = ap (λ (r : Result (Row × List ℕ) Fault). behind_first (total - length (b ∷ bytes)) r (λ rest. rows_at n total rest)) e

pub code_goes_on : (front : List (ℕ × Row)) (n m total : ℕ) (bytes : List ℕ) (x : Row × List ℕ) (whole : Result (List (ℕ × Row)) CodeErr)
    → n ≡ m + 1 → 0 < length bytes → row_at (total - length bytes) bytes ≡ Ok x
    → behind_code front (rows_at n total bytes) ≡ whole → behind_code (front ++ (total - length bytes, x.0) ∷ []) (rows_at m total x.1) ≡ whole
code_goes_on front n m total bytes x whole is lt e so_far =
    let k : n ≡ suc m = omega arith in
    let one : behind_code front (rows_at n total bytes) ≡ behind_code (front ++ (total - length bytes, x.0) ∷ []) (rows_at m total x.1) =
    rw k (ap (behind_code front) (one_more m total bytes x lt e) ∙ regroup front (total - length bytes, x.0) (rows_at m total x.1)) in
    sym one ∙ so_far

pub fault_here : (n total : ℕ) (bytes : List ℕ) (f : Fault) → 0 < length bytes → row_at (total - length bytes) bytes ≡ Err f → rows_at (suc n) total bytes ≡ Err (placed f (total - length bytes))
unfolding rows_at
fault_here n total [] f lt e = absurd (omega arith)
fault_here n total (b ∷ bytes) f lt e = ap (λ (r : Result (Row × List ℕ) Fault). behind_first (total - length (b ∷ bytes)) r (λ rest. rows_at n total rest)) e

ends_with : (front : List (ℕ × Row)) (n total : ℕ) (bytes : List ℕ) (f : Fault) (whole : Result (List (ℕ × Row)) CodeErr)
    → 0 < n → 0 < length bytes → row_at (total - length bytes) bytes ≡ Err f
    → behind_code front (rows_at n total bytes) ≡ whole → whole ≡ Err (placed f (total - length bytes))
ends_with front n total bytes f whole more lt e so_far =
    let k : n ≡ suc (n - 1) = omega arith in
    sym so_far ∙ rw k (ap (behind_code front) (fault_here (n - 1) total bytes f lt e))

pub code_ends : (front : List (ℕ × Row)) (n total : ℕ) (bytes : List ℕ) (e : Fault) (whole : Result (List (ℕ × Row)) CodeErr)
    → 0 < n → 0 < length bytes → Fails e (row_at (total - length bytes) bytes)
    → behind_code front (rows_at n total bytes) ≡ whole → Refuses (placed e (total - length bytes)) whole
code_ends front n total bytes fault.NoMemory whole more lt e so_far = tt
code_ends front n total bytes fault.BadOpcode whole more lt e so_far = ends_with front n total bytes fault.BadOpcode whole more lt e so_far
code_ends front n total bytes fault.Cut whole more lt e so_far = ends_with front n total bytes fault.Cut whole more lt e so_far

no_bytes : (n total : ℕ) (bytes : List ℕ) → length bytes ≡ 0 → rows_at n total bytes ≡ Ok []
unfolding rows_at
no_bytes n total [] e = refl
no_bytes n total (b ∷ bytes) e = absurd (omega arith)

pub code_done : (front : List (ℕ × Row)) (n total : ℕ) (bytes : List ℕ) (whole : Result (List (ℕ × Row)) CodeErr) → length bytes ≡ 0
    → behind_code front (rows_at n total bytes) ≡ whole → whole ≡ Ok front
code_done front n total bytes whole e so_far =
    sym so_far ∙ ap (behind_code front) (no_bytes n total bytes e) ∙ ap (λ (x : List (ℕ × Row)). Ok x) (append-nil front)

pub good_here : (starts : List ℕ) (i : ℕ × Row) (is : List (ℕ × Row)) (whole : Option ℕ) → aims starts i.0 i.1.operands ≡ true → first_bad starts (i ∷ is) ≡ whole → first_bad starts is ≡ whole
unfolding first_bad
good_here starts i is whole good so_far = sym (rw good refl) ∙ so_far

pub bad_here : (starts : List ℕ) (i : ℕ × Row) (is : List (ℕ × Row)) (whole : Option ℕ) → aims starts i.0 i.1.operands ≡ false → first_bad starts (i ∷ is) ≡ whole → Some i.0 ≡ whole
unfolding first_bad
bad_here starts i is whole bad so_far = sym (rw bad refl) ∙ so_far

pub none_bad : (starts : List ℕ) (is : List (ℕ × Row)) (whole : Option ℕ) → is ≡ [] → first_bad starts is ≡ whole → None ≡ whole
unfolding first_bad
none_bad starts is whole e so_far = sym (ap (first_bad starts) e) ∙ so_far
