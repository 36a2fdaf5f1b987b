-- Code that is read is spelled so, and what is spelled so is read.
use Rattle.std.proofs.Common.{◌≡◌, ℕ, zero, suc, ◌+◌, ◌-◌, ◌^◌, ◌<◌, ◌≤◌, List, [], ◌∷◌, ◌++◌, length, length-append, Result, Ok, Err, refl, sym, ap, subst, ◌∙◌, arith}
use Rattle.jvm_code_instructions.specs.declared.fault.Fault.{Fault}
use Rattle.jvm_code.specs.declared.error.CodeErr.{CodeErr}
use Rattle.jvm_code_instructions.specs.Table.{Row}
use Rattle.jvm_code_instructions.specs.Spelling.{row_bytes}
use Rattle.jvm_code.specs.Spelling.{Follows, spelling}
use Rattle.jvm_code_instructions.specs.Reach.{Reaches}
use Rattle.jvm_code_instructions.specs.Reading.{row_at}
use Rattle.jvm_code.specs.Decoding.{behind_first, in_front, rows_at}
use Rattle.jvm_code_instructions.proofs.Fields.{IsBytes}
use Rattle.jvm_code_instructions.proofs.Instructions.{row_takes, row_again}
use Rattle.jvm_code.proofs.Passes.{one_more}

front_ok : (i : ℕ × Row) (r : Result (List (ℕ × Row)) CodeErr) (c : List (ℕ × Row)) → in_front i r ≡ Ok c → (is : List (ℕ × Row)) × (r ≡ Ok is) × (i ∷ is ≡ c)
front_ok i (Ok is) c e = (is, refl, cc)
front_ok i (Err f) c e = absurd cc

first_ok : (at : ℕ) (r : Result (Row × List ℕ) Fault) (more : List ℕ → Result (List (ℕ × Row)) CodeErr) (c : List (ℕ × Row)) → behind_first at r more ≡ Ok c
    → (x : Row × List ℕ) × (r ≡ Ok x) × (in_front (at, x.0) (more x.1) ≡ Ok c)
first_ok at (Ok x) more c e = (x, refl, e)
first_ok at (Err f) more c e = absurd cc

nil_ok : (c : List (ℕ × Row)) → (let r : Result (List (ℕ × Row)) CodeErr = Ok [] in r) ≡ Ok c → [] ≡ c
nil_ok c e = cc

-- what is read is code, and spelled so
pub code_takes : (n total : ℕ) (bytes : List ℕ) (c : List (ℕ × Row)) → total < 2 ^ 32 → length bytes ≤ n → length bytes ≤ total → IsBytes bytes → rows_at n total bytes ≡ Ok c
    → Follows (total - length bytes) c × (bytes ≡ spelling c)
unfolding rows_at
code_takes n total [] c lt fuel fits bs e = subst (λ (c : List (ℕ × Row)). Follows (total - 0) c × ([] ≡ spelling c)) (nil_ok c e) (tt, refl)
code_takes zero total (b ∷ bytes) c lt fuel fits bs e = absurd (omega arith)
code_takes (suc n) total (b ∷ bytes) c lt fuel fits bs e =
    let a = first_ok (total - length (b ∷ bytes)) (row_at (total - length (b ∷ bytes)) (b ∷ bytes)) (λ rest. rows_at n total rest) c e in
    let f = front_ok (total - length (b ∷ bytes), a.0.0) (rows_at n total a.0.1) c a.2 in
    let t = row_takes (total - length (b ∷ bytes)) (b ∷ bytes) a.0 (omega arith) bs a.1 in
    let len : length (b ∷ bytes) ≡ length (row_bytes (total - length (b ∷ bytes)) a.0.0) + length a.0.1 = ap length t.0.parts ∙ length-append (row_bytes (total - length (b ∷ bytes)) a.0.0) a.0.1 in
    let some : 0 < length (row_bytes (total - length (b ∷ bytes)) a.0.0) = omega arith in
    let rest = code_takes n total a.0.1 f.0 lt (omega arith) (omega arith) t.0.rest_fits f.1 in
    let next : total - length a.0.1 ≡ (total - length (b ∷ bytes)) + length (row_bytes (total - length (b ∷ bytes)) a.0.0) = omega arith in
    subst (λ (c : List (ℕ × Row)). Follows (total - length (b ∷ bytes)) c × (b ∷ bytes ≡ spelling c)) f.2
    ((refl, t.1, subst (λ (k : ℕ). Follows k f.0) next rest.0), t.0.parts ∙ ap (λ (x : List ℕ). row_bytes (total - length (b ∷ bytes)) a.0.0 ++ x) rest.1)

-- each target is within reach
abbrev pub AllReach : List (ℕ × Row) → Type 0
AllReach [] = Unit {0}
AllReach (i ∷ is) = Reaches i.0 i.1.operands × AllReach is

-- what is code is read from its spelling
pub code_again : (c : List (ℕ × Row)) (n total : ℕ) → total < 2 ^ 32 → length (spelling c) ≤ n → length (spelling c) ≤ total → Follows (total - length (spelling c)) c → AllReach c → rows_at n total (spelling c) ≡ Ok c
unfolding rows_at
code_again [] n total lt fuel fits follows reach = refl
code_again (i ∷ is) n total lt fuel fits follows reach =
    let len = length-append (row_bytes i.0 i.1) (spelling is) in
    let some : 0 < length (row_bytes i.0 i.1) = omega arith in
    let k : n ≡ suc (n - 1) = omega arith in
    let at-is : i.0 ≡ total - length (spelling (i ∷ is)) = follows.0 in
    let read : row_at (total - length (spelling (i ∷ is))) (spelling (i ∷ is)) ≡ Ok (i.1, spelling is) = subst (λ (a : ℕ). row_at a (spelling (i ∷ is)) ≡ Ok (i.1, spelling is)) at-is (row_again i.0 i.1 (spelling is) (omega arith) follows.1 reach.0) in
    let next : (total - length (spelling (i ∷ is))) + length (row_bytes i.0 i.1) ≡ total - length (spelling is) = omega arith in
    let follows' : Follows (total - length (spelling is)) is = subst (λ (a : ℕ). Follows a is) (ap (λ (a : ℕ). (total - length (spelling (i ∷ is))) + length (row_bytes a i.1)) (sym at-is) ∙ next) follows.2 in
    let rest = code_again is (n - 1) total lt (omega arith) (omega arith) follows' reach.1 in
    ap (λ (m : ℕ). rows_at m total (spelling (i ∷ is))) k ∙ one_more (n - 1) total (spelling (i ∷ is)) (i.1, spelling is) (omega arith) read
    ∙ ap (in_front (total - length (spelling (i ∷ is)), i.1)) rest ∙ ap (λ (a : ℕ). Ok ((a, i.1) ∷ is)) (sym at-is)
