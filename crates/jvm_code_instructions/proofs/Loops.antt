-- Reading targets, or pairs, one after the other, as a loop does.
use Rattle.std.proofs.Common.{◌≡◌, ℕ, suc, ◌-◌, ◌+◌, ◌≤◌, ◌<◌, List, [], ◌∷◌, ◌++◌, Result, Ok, Err, refl, sym, ap, ◌∙◌, append_assoc, arith}
use Rattle.std.proofs.lemmas.List.{append-nil}
use Rattle.jvm_code_instructions.specs.declared.fault.Fault.{Fault}
use Rattle.jvm_code_instructions.specs.declared.fault.Fault.TheVariants as fault
use Rattle.jvm_code_instructions.specs.Spelling.{from_least}
use Rattle.jvm_code_instructions.specs.Reading.{◌>>=◌, Fails, far_at, fars_at, pair_at, pairs_at}

-- what was read before, and what is still to be read
abbrev pub behind : {A : Type 0} → List A → Result (List A × List ℕ) Fault → Result (List A × List ℕ) Fault
behind front read = read >>= λ x. Ok (front ++ x.0, x.1)

regroup : {A : Type 0} (front : List A) (a : A) (read : Result (List A × List ℕ) Fault) → behind front (read >>= λ x. Ok (a ∷ x.0, x.1)) ≡ behind (front ++ a ∷ []) read
regroup front a (Ok x) = ap (λ ns. Ok (ns, x.1)) (simp append_assoc)
regroup front a (Err f) = refl

fails_alike : {A B : Type 0} (e : Fault) (one : Result A Fault) (total : Result B Fault) → (f : (x : Fault) → one ≡ Err x → total ≡ Err x) → Fails e one → Fails e total
fails_alike fault.NoMemory one total f h = tt
fails_alike fault.BadOpcode one total f h = f fault.BadOpcode h
fails_alike fault.Cut one total f h = f fault.Cut h

pub targets_go_on : (front : List ℕ) (at count i : ℕ) (bytes : List ℕ) (n : ℕ) (after : List ℕ) (total : Result (List ℕ × List ℕ) Fault) → i < count → far_at at bytes ≡ Ok (n, after)
    → behind front (fars_at at (count - i) bytes) ≡ total → behind (front ++ n ∷ []) (fars_at at (count - (i + 1)) after) ≡ total
unfolding fars_at
targets_go_on front at count i bytes n after total lt h so_far =
    let k : count - i ≡ suc (count - (i + 1)) = omega arith in
    let one : behind front (fars_at at (count - i) bytes) ≡ behind (front ++ n ∷ []) (fars_at at (count - (i + 1)) after) = rw (k, h) (regroup front n (fars_at at (count - (i + 1)) after)) in
    sym one ∙ so_far

pub targets_end : (e : Fault) (front : List ℕ) (at count i : ℕ) (bytes : List ℕ) (total : Result (List ℕ × List ℕ) Fault) → i < count → Fails e (far_at at bytes)
    → behind front (fars_at at (count - i) bytes) ≡ total → Fails e total
unfolding fars_at
targets_end e front at count i bytes total lt h so_far =
    let k : count - i ≡ suc (count - (i + 1)) = omega arith in
    fails_alike e (far_at at bytes) total (λ f is. sym so_far ∙ (let one : behind front (fars_at at (count - i) bytes) ≡ Err f = rw (k, is) refl in one)) h

pub targets_done : (front : List ℕ) (at count i : ℕ) (bytes : List ℕ) (total : Result (List ℕ × List ℕ) Fault) → count ≤ i → behind front (fars_at at (count - i) bytes) ≡ total → total ≡ Ok (front, bytes)
unfolding fars_at
targets_done front at count i bytes total le so_far =
    let k : count - i ≡ 0 = omega arith in
    let one : behind front (fars_at at (count - i) bytes) ≡ Ok (front, bytes) = rw k (ap (λ (ns : List ℕ). Ok (ns, bytes)) (append-nil front)) in
    sym so_far ∙ one

pub pairs_go_on : (front : List (ℕ × ℕ)) (at count i first : ℕ) (bytes : List ℕ) (p : ℕ × ℕ) (after : List ℕ) (total : Result (List (ℕ × ℕ) × List ℕ) Fault) → i < count → pair_at at first bytes ≡ Ok (p, after)
    → behind front (pairs_at at (count - i) first bytes) ≡ total → behind (front ++ p ∷ []) (pairs_at at (count - (i + 1)) (from_least p.0 + 1) after) ≡ total
unfolding pairs_at
pairs_go_on front at count i first bytes p after total lt h so_far =
    let k : count - i ≡ suc (count - (i + 1)) = omega arith in
    let one : behind front (pairs_at at (count - i) first bytes) ≡ behind (front ++ p ∷ []) (pairs_at at (count - (i + 1)) (from_least p.0 + 1) after) = rw (k, h) (regroup front p (pairs_at at (count - (i + 1)) (from_least p.0 + 1) after)) in
    sym one ∙ so_far

pub pairs_end : (e : Fault) (front : List (ℕ × ℕ)) (at count i first : ℕ) (bytes : List ℕ) (total : Result (List (ℕ × ℕ) × List ℕ) Fault) → i < count → Fails e (pair_at at first bytes)
    → behind front (pairs_at at (count - i) first bytes) ≡ total → Fails e total
unfolding pairs_at
pairs_end e front at count i first bytes total lt h so_far =
    let k : count - i ≡ suc (count - (i + 1)) = omega arith in
    fails_alike e (pair_at at first bytes) total (λ f is. sym so_far ∙ (let one : behind front (pairs_at at (count - i) first bytes) ≡ Err f = rw (k, is) refl in one)) h

pub pairs_done : (front : List (ℕ × ℕ)) (at count i first : ℕ) (bytes : List ℕ) (total : Result (List (ℕ × ℕ) × List ℕ) Fault) → count ≤ i → behind front (pairs_at at (count - i) first bytes) ≡ total → total ≡ Ok (front, bytes)
unfolding pairs_at
pairs_done front at count i first bytes total le so_far =
    let k : count - i ≡ 0 = omega arith in
    let one : behind front (pairs_at at (count - i) first bytes) ≡ Ok (front, bytes) = rw k (ap (λ (ns : List (ℕ × ℕ)). Ok (ns, bytes)) (append-nil front)) in
    sym so_far ∙ one
