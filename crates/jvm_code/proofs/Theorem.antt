-- Bytes and code, both ways.
use Rattle.std.proofs.Common.{◌≡◌, ℕ, zero, suc, ◌+◌, ◌-◌, ◌^◌, ◌<◌, Bool, true, false, cond, ltb, List, [], ◌∷◌, length, Option, Some, None, Result, Ok, Err, refl, sym, ap, subst, arith}
use Rattle.std.specs.Prelude.{IfOk}
use Rattle.std.specs.Global.{Vec}
use Rattle.std.specs.List.{list_all, AllByRecursion, slice_index}
use Rattle.std.specs.List.Sorted.{IsStrictlyIncreasing}
use Rattle.std.proofs.lemmas.Bool.{and_parts, ltb-true}
use Rattle.jvm_code.specs.declared.error.CodeErr.{CodeErr}
use Rattle.jvm_code_instructions.specs.declared.instr.Instr.{Instr}
use Rattle.jvm_code_instructions.specs.Table.{Operands, Nothing, Byte, Half, LocalAmount, Near, Far, Called, Ints, Table, Lookup, Wide, WideAmount, Row}
use Rattle.jvm_code_instructions.specs.Spelling.{row_bytes}
use Rattle.jvm_code.specs.Spelling.{Follows, spelling}
use Rattle.jvm_code_instructions.specs.Reach.{Reaches, IsWithin}
use Rattle.jvm_code.specs.Decoding.{Decodes, rows, rows_at, stands, aims, first_bad, starts_of, judged, with_targets, decode_of, IsLaid}
use Rattle.jvm_code_instructions.proofs.Fields.{IsBytes}
use Rattle.jvm_code.proofs.Lists.{code_takes, code_again, AllReach}

stands_within : (starts : List ℕ) (reach at t : ℕ) → stands starts reach at t ≡ true → IsWithin reach at t
stands_within starts reach at t h =
    let p = and_parts _ _ h in
    let q = and_parts (ltb at (t + reach + 1)) (ltb t (at + reach)) p.1 in
    (omega (arith, ltb-true at (t + reach + 1) q.0), ltb-true t (at + reach) q.1)

all_within : (starts : List ℕ) (at : ℕ) (ts : List ℕ) → list_all (λ t. stands starts 2147483648 at t) ts ≡ true → AllByRecursion (IsWithin (2 ^ 31) at) ts
all_within starts at [] h = tt
all_within starts at (t ∷ ts) h =
    let p = and_parts (stands starts 2147483648 at t) (list_all (λ t. stands starts 2147483648 at t) ts) h in
    (stands_within starts 2147483648 at t p.0, all_within starts at ts p.1)

pairs_within : (starts : List ℕ) (at : ℕ) (ps : List (ℕ × ℕ)) → list_all (λ p. stands starts 2147483648 at p.1) ps ≡ true → AllByRecursion (λ p. IsWithin (2 ^ 31) at p.1) ps
pairs_within starts at [] h = tt
pairs_within starts at (p ∷ ps) h =
    let q = and_parts (stands starts 2147483648 at p.1) (list_all (λ p. stands starts 2147483648 at p.1) ps) h in
    (stands_within starts 2147483648 at p.1 q.0, pairs_within starts at ps q.1)

pub aims_reach : (starts : List ℕ) (at : ℕ) (o : Operands) → aims starts at o ≡ true → Reaches at o
aims_reach starts at (Near t) h = stands_within starts 32768 at t h
aims_reach starts at (Far t) h = stands_within starts 2147483648 at t h
aims_reach starts at (Table default low targets) h =
    let p = and_parts (stands starts 2147483648 at default) (list_all (λ t. stands starts 2147483648 at t) targets) h in
    (stands_within starts 2147483648 at default p.0, all_within starts at targets p.1)
aims_reach starts at (Lookup default pairs) h =
    let p = and_parts (stands starts 2147483648 at default) (list_all (λ p. stands starts 2147483648 at p.1) pairs) h in
    (stands_within starts 2147483648 at default p.0, pairs_within starts at pairs p.1)
aims_reach starts at Nothing h = tt
aims_reach starts at (Byte n) h = tt
aims_reach starts at (Half n) h = tt
aims_reach starts at (LocalAmount n k) h = tt
aims_reach starts at (Called p n) h = tt
aims_reach starts at Ints h = tt
aims_reach starts at (Wide c n) h = tt
aims_reach starts at (WideAmount n k) h = tt

none_bad : (b : Bool) (r : Option ℕ) (at : ℕ) → cond b r (Some at) ≡ None → (b ≡ true) × (r ≡ None)
none_bad true r at h = (refl, h)
none_bad false r at h = absurd cc

all_reach : (starts : List ℕ) (is : List (ℕ × Row)) → first_bad starts is ≡ None → AllReach is
unfolding first_bad
all_reach starts [] h = tt
all_reach starts (i ∷ is) h =
    let p = none_bad (aims starts i.0 i.1.operands) (first_bad starts is) i.0 h in
    (aims_reach starts i.0 i.1.operands p.0, all_reach starts is p.1)

judged_ok : (is c : List (ℕ × Row)) (o : Option ℕ) → judged is o ≡ Ok c → (is ≡ c) × (o ≡ None)
judged_ok is c None h = (cc, refl)
judged_ok is c (Some at) h = absurd cc

targets_ok : (r : Result (List (ℕ × Row)) CodeErr) (c : List (ℕ × Row)) → with_targets r ≡ Ok c → (r ≡ Ok c) × (first_bad (starts_of c) c ≡ None)
targets_ok (Ok is) c h =
    let p = judged_ok is c (first_bad (starts_of is) is) h in
    (ap (λ (x : List (ℕ × Row)). Ok x) p.0, subst (λ (x : List (ℕ × Row)). first_bad (starts_of x) x ≡ None) p.0 p.1)
targets_ok (Err e) c h = absurd cc

pub decode_takes : (bytes : List ℕ) (c : List (ℕ × Row)) → length bytes < 2 ^ 32 → IsBytes bytes → decode_of bytes ≡ Ok c → IsLaid c × (bytes ≡ spelling c)
unfolding decode_of
decode_takes bytes c lt fits e =
    let p = targets_ok (rows_at (length bytes) (length bytes) bytes) c e in
    let t = code_takes (length bytes) (length bytes) bytes c lt (omega arith) (omega arith) fits p.0 in
    let zero-is : length bytes - length bytes ≡ 0 = omega arith in
    ((subst (λ (k : ℕ). Follows k c) zero-is t.0, p.1), t.1)

pub decode_again : (c : List (ℕ × Row)) → length (spelling c) < 2 ^ 32 → IsLaid c → decode_of (spelling c) ≡ Ok c
unfolding decode_of
decode_again c lt code =
    let zero-is : 0 ≡ length (spelling c) - length (spelling c) = omega arith in
    let read = code_again c (length (spelling c)) (length (spelling c)) lt (omega arith) (omega arith) (subst (λ (k : ℕ). Follows k c) zero-is code.0) (all_reach (starts_of c) c code.1) in
    rw read (ap (judged c) code.1)

pub is_found : (bytes : List ℕ) (r : Result (Vec (ℕ × Instr)) CodeErr) → length bytes < 2 ^ 32 → IsBytes bytes → Decodes (λ v. rows v.items) r (decode_of bytes) → IfOk r (λ v. IsLaid (rows v.items) × (bytes ≡ spelling (rows v.items)))
is_found bytes (Ok v) lt fits given = decode_takes bytes (rows v.items) lt fits given
is_found bytes (Err e) lt fits given = tt

-- offsets that follow sizes ascend
pub follows_ascend : (at : ℕ) (c : List (ℕ × Row)) → Follows at c → IsStrictlyIncreasing (starts_of c)
follows_ascend at [] h k lt = absurd (omega arith)
follows_ascend at (i ∷ []) h k lt = absurd (omega arith)
follows_ascend at (i ∷ j ∷ is) h zero lt = omega (arith, h.0, h.2.0)
follows_ascend at (i ∷ j ∷ is) h (suc k) lt =
    let e : suc k + 1 ≡ suc (k + 1) = omega arith in
    subst (λ (n : ℕ). slice_index (starts_of (i ∷ j ∷ is)) (suc k) < slice_index (starts_of (i ∷ j ∷ is)) n) (sym e) (follows_ascend (at + length (row_bytes at i.1)) (j ∷ is) h.2 k (omega arith))

-- what the first pass gives ascends
pub read_ascends : (bytes : List ℕ) (c : List (ℕ × Row)) → length bytes < 2 ^ 32 → IsBytes bytes → rows_at (length bytes) (length bytes) bytes ≡ Ok c → IsStrictlyIncreasing (starts_of c)
read_ascends bytes c lt fits e = follows_ascend (length bytes - length bytes) c (code_takes (length bytes) (length bytes) bytes c lt (omega arith) (omega arith) fits e).0

-- two lists with one spelling are one list
pub one_list : (c d : List (ℕ × Row)) → IsLaid c → IsLaid d → length (spelling c) < 2 ^ 32 → spelling c ≡ spelling d → c ≡ d
one_list c d lc ld short same =
    let short-d : length (spelling d) < 2 ^ 32 = omega (arith, ap length same) in
    let read-c = decode_again c short lc in
    let read-d = decode_again d short-d ld in
    cc (read-c, read-d, ap decode_of same)
