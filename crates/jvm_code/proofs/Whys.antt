-- What an error of decoding tells.
use Rattle.std.proofs.Common.{◌≡◌, ℕ, zero, suc, ◌+◌, ◌-◌, ◌^◌, ◌<◌, ◌≤◌, List, [], ◌∷◌, ◌++◌, length, length-append, take, drop, Option, Some, None, Result, Ok, Err, refl, sym, ap, subst, ◌∙◌, append_assoc, arith}
use Rattle.std.specs.Prelude.{IfErr}
use Rattle.std.specs.Global.{Vec}
use Rattle.std.proofs.lemmas.List.{take_at, drop_at}
use Rattle.jvm_code_instructions.specs.declared.fault.Fault.{Fault}
use Rattle.jvm_code_instructions.specs.declared.fault.Fault.TheVariants as fault
use Rattle.jvm_code.specs.declared.error.CodeErr.{CodeErr}
use Rattle.jvm_code.specs.declared.error.CodeErr.TheVariants.{BadOpcode, Cut, BadTarget, NoMemory}
use Rattle.jvm_code_instructions.specs.declared.instr.Instr.{Instr}
use Rattle.jvm_code_instructions.specs.Table.{Row}
use Rattle.jvm_code_instructions.specs.Spelling.{row_bytes}
use Rattle.jvm_code.specs.Spelling.{Follows, spelling}
use Rattle.jvm_code_instructions.specs.Reading.{row_at}
use Rattle.jvm_code.specs.Decoding.{Decodes, Refuses, rows, behind_first, in_front, placed, rows_at, starts_of, first_bad, judged, with_targets, decode_of}
use Rattle.jvm_code.specs.Refusals.{Begins, IsReadTo, WhyNot}
use Rattle.jvm_code_instructions.proofs.Fields.{IsBytes}
use Rattle.jvm_code_instructions.proofs.Instructions.{row_takes, row_again}
use Rattle.jvm_code.proofs.Lists.{code_takes}
use Rattle.jvm_code.proofs.Every.{every_list}
use Rattle.jvm_code_instructions.proofs.Steady.{bad_still}

-- where the first pass stopped
pub record Stops (total : ℕ) (bytes : List ℕ) (e : CodeErr) : Type 0 where
  pub code : List (ℕ × Row)
  pub rest : List ℕ
  pub cause : Fault
  pub follows : Follows (total - length bytes) code
  pub parts : bytes ≡ spelling code ++ rest
  pub some : 0 < length rest
  pub reads : row_at (total - length rest) rest ≡ Err cause
  pub is : e ≡ placed cause (total - length rest)

in_front_err : (i : ℕ × Row) (r : Result (List (ℕ × Row)) CodeErr) (e : CodeErr) → in_front i r ≡ Err e → r ≡ Err e
in_front_err i (Ok is) e h = absurd cc
in_front_err i (Err f) e h = h

stops_here : (n total b : ℕ) (bytes : List ℕ) (e : CodeErr) (r : Result (Row × List ℕ) Fault) → row_at (total - length (b ∷ bytes)) (b ∷ bytes) ≡ r
    → ((x : Row × List ℕ) → row_at (total - length (b ∷ bytes)) (b ∷ bytes) ≡ Ok x → rows_at n total x.1 ≡ Err e → Stops total (b ∷ bytes) e)
    → behind_first (total - length (b ∷ bytes)) r (λ rest. rows_at n total rest) ≡ Err e → Stops total (b ∷ bytes) e
stops_here n total b bytes e (Err f) is on h = record { code = []; rest = b ∷ bytes; cause = f; follows = tt; parts = refl; some = omega arith; reads = is; is = cc }
stops_here n total b bytes e (Ok x) is on h = on x is (in_front_err (total - length (b ∷ bytes), x.0) (rows_at n total x.1) e h)

pub code_stops : (n total : ℕ) (bytes : List ℕ) (e : CodeErr) → total < 2 ^ 32 → length bytes ≤ n → length bytes ≤ total → IsBytes bytes → rows_at n total bytes ≡ Err e → Stops total bytes e
unfolding rows_at
code_stops n total [] e lt fuel fits bs h = absurd cc
code_stops zero total (b ∷ bytes) e lt fuel fits bs h = absurd (omega arith)
code_stops (suc n) total (b ∷ bytes) e lt fuel fits bs h =
    stops_here n total b bytes e (row_at (total - length (b ∷ bytes)) (b ∷ bytes)) refl
    (λ x is k.
    let at : ℕ = total - length (b ∷ bytes) in
    let t = row_takes (total - length (b ∷ bytes)) (b ∷ bytes) x (omega arith) bs is in
    let len : length (b ∷ bytes) ≡ length (row_bytes (total - length (b ∷ bytes)) x.0) + length x.1 = ap length t.0.parts ∙ length-append (row_bytes (total - length (b ∷ bytes)) x.0) x.1 in
    let s = code_stops n total x.1 e lt (omega arith) (omega arith) t.0.rest_fits k in
    let next : total - length x.1 ≡ (total - length (b ∷ bytes)) + length (row_bytes (total - length (b ∷ bytes)) x.0) = omega arith in
    record {
      code = (total - length (b ∷ bytes), x.0) ∷ s.code;
      rest = s.rest;
      cause = s.cause;
      follows = (refl, t.1, subst (λ (a : ℕ). Follows a s.code) next s.follows);
      parts = t.0.parts ∙ ap (λ (y : List ℕ). row_bytes (total - length (b ∷ bytes)) x.0 ++ y) s.parts ∙ sym (append_assoc (row_bytes (total - length (b ∷ bytes)) x.0) (spelling s.code) s.rest);
      some = s.some;
      reads = s.reads;
      is = s.is;
    }) h

-- the bytes up to where the first pass stopped, and what is behind
pub record StopsAt (bytes : List ℕ) (at : ℕ) (f : Fault) : Type 0 where
  pub read : IsReadTo at bytes
  pub reads : row_at at (drop at bytes) ≡ Err f

stops_at : (bytes : List ℕ) (e : CodeErr) (s : Stops (length bytes) bytes e) → StopsAt bytes (length bytes - length s.rest) s.cause
stops_at bytes e s =
    let len : length bytes ≡ length (spelling s.code) + length s.rest = ap length s.parts ∙ length-append (spelling s.code) s.rest in
    let at-is : length bytes - length s.rest ≡ length (spelling s.code) = omega arith in
    let front : take (length bytes - length s.rest) bytes ≡ spelling s.code = ap (take (length bytes - length s.rest)) s.parts ∙ take_at (spelling s.code) s.rest (length bytes - length s.rest) (sym at-is) in
    let back : drop (length bytes - length s.rest) bytes ≡ s.rest = ap (drop (length bytes - length s.rest)) s.parts ∙ drop_at (spelling s.code) s.rest (length bytes - length s.rest) (sym at-is) in
    let zero-is : length bytes - length bytes ≡ 0 = omega arith in
    record {
      read = (s.code, subst (λ (k : ℕ). Follows k s.code) zero-is s.follows, front, omega (arith, s.some));
      reads = ap (row_at (length bytes - length s.rest)) back ∙ s.reads;
    }

never : (at : ℕ) (bytes more : List ℕ) → at < 2 ^ 32 → row_at at bytes ≡ Err fault.BadOpcode → ¬ Begins at (bytes ++ more)
never at bytes more lt bad b =
    let again = ap (row_at at) b.4 ∙ row_again at b.0 b.1 lt b.2 b.3 in
    let still = bad_still at bytes more bad in
    cc (again, still)

not_whole : (at : ℕ) (bytes : List ℕ) → at < 2 ^ 32 → row_at at bytes ≡ Err fault.Cut → ¬ Begins at bytes
not_whole at bytes lt cut b =
    let again = ap (row_at at) b.4 ∙ row_again at b.0 b.1 lt b.2 b.3 in
    cc (again, cut)

why_bad : (bytes : List ℕ) (at place : ℕ) (f : Fault) → at < 2 ^ 32 → StopsAt bytes at f → BadOpcode place ≡ placed f at → WhyNot bytes (BadOpcode place)
why_bad bytes at place fault.BadOpcode lt s is =
    let e : at ≡ place = cc in
    subst (λ (k : ℕ). WhyNot bytes (BadOpcode k)) e (s.read, λ more. never at (drop at bytes) more lt s.reads)
why_bad bytes at place fault.Cut lt s is = absurd cc
why_bad bytes at place fault.NoMemory lt s is = absurd cc

why_cut : (bytes : List ℕ) (at place : ℕ) (f : Fault) → at < 2 ^ 32 → StopsAt bytes at f → Cut place ≡ placed f at → WhyNot bytes (Cut place)
why_cut bytes at place fault.Cut lt s is =
    let e : at ≡ place = cc in
    subst (λ (k : ℕ). WhyNot bytes (Cut k)) e (s.read, not_whole at (drop at bytes) lt s.reads, s.reads)
why_cut bytes at place fault.BadOpcode lt s is = absurd cc
why_cut bytes at place fault.NoMemory lt s is = absurd cc

no_target : (at place : ℕ) (f : Fault) → BadTarget place ≡ placed f at → ⊥
no_target at place fault.BadOpcode e = cc
no_target at place fault.Cut e = cc
no_target at place fault.NoMemory e = cc

judged_err : (is : List (ℕ × Row)) (o : Option ℕ) (e : CodeErr) → judged is o ≡ Err e → (at : ℕ) × (o ≡ Some at) × (e ≡ BadTarget at)
judged_err is None e h = absurd cc
judged_err is (Some at) e h = (at, refl, cc)

-- the pass that gave an error
data Passes (r : Result (List (ℕ × Row)) CodeErr) (e : CodeErr) : Type 0 where
  First : r ≡ Err e → Passes r e
  Second : (is : List (ℕ × Row)) → r ≡ Ok is → (at : ℕ) → first_bad (starts_of is) is ≡ Some at → e ≡ BadTarget at → Passes r e

passes : (r : Result (List (ℕ × Row)) CodeErr) (e : CodeErr) → with_targets r ≡ Err e → Passes r e
passes (Err f) e h = First h
passes (Ok is) e h =
    let j = judged_err is (first_bad (starts_of is) is) e h in
    Second is refl j.0 j.1 j.2

why_of : (bytes : List ℕ) (e : CodeErr) → length bytes < 2 ^ 32 → IsBytes bytes → Passes (rows_at (length bytes) (length bytes) bytes) e → WhyNot bytes e
why_of bytes NoMemory lt fits p = tt
why_of bytes (BadOpcode at) lt fits (First h) =
    let s = code_stops (length bytes) (length bytes) bytes (BadOpcode at) lt (omega arith) (omega arith) fits h in
    why_bad bytes (length bytes - length s.rest) at s.cause (omega arith) (stops_at bytes (BadOpcode at) s) s.is
why_of bytes (Cut at) lt fits (First h) =
    let s = code_stops (length bytes) (length bytes) bytes (Cut at) lt (omega arith) (omega arith) fits h in
    why_cut bytes (length bytes - length s.rest) at s.cause (omega arith) (stops_at bytes (Cut at) s) s.is
why_of bytes (BadTarget at) lt fits (First h) =
    let s = code_stops (length bytes) (length bytes) bytes (BadTarget at) lt (omega arith) (omega arith) fits h in
    absurd (no_target (length bytes - length s.rest) at s.cause s.is)
why_of bytes (BadOpcode at) lt fits (Second is h k bad e) = absurd cc
why_of bytes (Cut at) lt fits (Second is h k bad e) = absurd cc
why_of bytes (BadTarget at) lt fits (Second is h k bad e) =
    let t = code_takes (length bytes) (length bytes) bytes is lt (omega arith) (omega arith) fits h in
    let zero-is : length bytes - length bytes ≡ 0 = omega arith in
    let same : k ≡ at = cc in
    let follows : Follows 0 is = subst (λ (n : ℕ). Follows n is) zero-is t.0 in
    let first : first_bad (starts_of is) is ≡ Some at = subst (λ (n : ℕ). first_bad (starts_of is) is ≡ Some n) same bad in
    ((is, follows, t.1, first), every_list bytes is at lt h follows first)

refused : (bytes : List ℕ) (e : CodeErr) → length bytes < 2 ^ 32 → IsBytes bytes → Refuses e (decode_of bytes) → WhyNot bytes e
unfolding decode_of
refused bytes NoMemory lt fits h = tt
refused bytes (BadOpcode at) lt fits h = why_of bytes (BadOpcode at) lt fits (passes (rows_at (length bytes) (length bytes) bytes) (BadOpcode at) h)
refused bytes (Cut at) lt fits h = why_of bytes (Cut at) lt fits (passes (rows_at (length bytes) (length bytes) bytes) (Cut at) h)
refused bytes (BadTarget at) lt fits h = why_of bytes (BadTarget at) lt fits (passes (rows_at (length bytes) (length bytes) bytes) (BadTarget at) h)

pub why_not : (bytes : List ℕ) (r : Result (Vec (ℕ × Instr)) CodeErr) → length bytes < 2 ^ 32 → IsBytes bytes → Decodes (λ v. rows v.items) r (decode_of bytes) → IfErr r (λ e. WhyNot bytes e)
why_not bytes (Ok v) lt fits given = tt
why_not bytes (Err e) lt fits given = refused bytes e lt fits given
