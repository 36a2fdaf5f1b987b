-- An instruction that is read is the one that was written, and what was written is read again.
use Rattle.std.proofs.Common.{◌≡◌, ℕ, ◌+◌, ◌-◌, ◌%◌, ◌^◌, ◌<◌, ◌≤◌, Bool, true, false, cond, List, [], ◌∷◌, ◌++◌, length, length-append, Option, Some, None, Result, Ok, Err, refl, sym, ap, subst, ◌∙◌, ◌⊎◌, inl, inr, append_assoc, arith}
use Rattle.std.specs.Prelude.{◌==◌, int_lt, nat_lt, if◌then◌else◌, IfOk}
use Rattle.std.specs.List.{flat_map}
use Rattle.std.specs.Int.{w16, w32, to_be_bytes, cast_signed}
use Rattle.std.proofs.lemmas.Bool.{cases_lt, ltb-true, lt-ltb, eqb-true}
use Rattle.jvm_code_instructions.specs.declared.fault.Fault.{Fault}
use Rattle.jvm_code_instructions.specs.declared.fault.Fault.TheVariants.{BadOpcode}
use Rattle.jvm_code_instructions.specs.Table.{Operands, Nothing, Byte, Half, LocalAmount, Near, Far, Called, Ints, Table, Lookup, Wide, WideAmount, Row, row, Shape, IsNothing, IsByte, IsHalf, IsLocalAmount, IsNear, IsFar, IsCalled, IsInts, IsTable, IsLookup, IsWide, WideShape, IsLocal, IsAmount, shape_of, local_shape, wide_shape}
use Rattle.jvm_code_opcodes.specs.declared.opcodes.LoadOp.{LoadOp}
use Rattle.jvm_code_opcodes.specs.declared.opcodes.StoreOp.{StoreOp}
use Rattle.jvm_code_opcodes.specs.Opcodes.{load_op_of, store_op_of}
use Rattle.jvm_code_instructions.specs.Spelling.{distance, near_bytes, far_bytes, padding, high_of, pair_bytes, operand_bytes, row_bytes, from_least, Has, HasShape, Allowed}
use Rattle.jvm_code_instructions.specs.Reach.{Reaches, IsWithin}
use Rattle.jvm_code_instructions.specs.Reading.{◌>>=◌, Gives, byte_at, number_at, only_at, count_at, near_from, near_at, far_at, fars_at, zeros_at, pairs_at, table_at, lookup_at, called_at, ints_at, wide_at, wide_operands_at, operands_at, shaped_at, row_at}
use Rattle.jvm_code_instructions.proofs.Fields.{IsBytes, IsBytes-rest, step_ok, unless_ok, where_ok, done, done_is, Takes, takes_nothing, takes_both, word, half, number_takes, number_again, byte_takes, only_takes, count_takes, count_again}
use Rattle.jvm_code_instructions.proofs.Distances.{count_high, high_count}
use Rattle.jvm_code_instructions.proofs.Shapes.{zeros_take, zeros_again, far_takes, far_reads, near_takes, near_reads, fars_take, fars_again, pairs_take, pairs_again}

-- what was taken is spelled by the operands, which the shape allows
abbrev TakesOperands : Shape → ℕ → List ℕ → Operands × List ℕ → Type 0
TakesOperands s at bytes x = Takes bytes (operand_bytes at x.0) x.1 × Has s x.0

positive : (n m : ℕ) → n ≡ m + 1 → 0 < n
positive n m e = omega arith

same_room : (l n m : ℕ) → n ≡ m → l + m ≤ 2 ^ 32 → l + n ≤ 2 ^ 32
same_room l n m e h = omega arith

table_takes : (at : ℕ) (bytes : List ℕ) (x : Operands × List ℕ) → at < 2 ^ 32 → IsBytes bytes → table_at at bytes ≡ Ok x → TakesOperands IsTable at bytes x
unfolding table_at
table_takes at bytes x lt fits e =
    let f4 = λ (default : ℕ × List ℕ) (low : ℕ × List ℕ) (targets : List ℕ × List ℕ). done (Table default.0 low.0 targets.0, targets.1) in
    let f3 = λ (default : ℕ × List ℕ) (low : ℕ × List ℕ) (high : ℕ × List ℕ). (if int_lt (cast_signed w32 high.0) (cast_signed w32 low.0) then Err BadOpcode else fars_at at ((high.0 + (2 ^ 32 - low.0)) % 2 ^ 32 + 1) high.1) >>= f4 default low in
    let f2 = λ (default : ℕ × List ℕ) (low : ℕ × List ℕ). number_at w32 low.1 >>= f3 default low in
    let f1 = λ (default : ℕ × List ℕ). number_at w32 default.1 >>= f2 default in
    let f0 = λ (rest : List ℕ). far_at at rest >>= f1 in
    let z = step_ok (zeros_at (3 - at % 4) bytes) f0 x e in
    let d = step_ok (far_at at z.0) f1 x z.2 in
    let l = step_ok (number_at w32 d.0.1) (f2 d.0) x d.2 in
    let h = step_ok (number_at w32 l.0.1) (f3 d.0 l.0) x l.2 in
    let t = step_ok (if int_lt (cast_signed w32 h.0.0) (cast_signed w32 l.0.0) then Err BadOpcode else fars_at at ((h.0.0 + (2 ^ 32 - l.0.0)) % 2 ^ 32 + 1) h.0.1) (f4 d.0 l.0) x h.2 in
    let g = unless_ok (int_lt (cast_signed w32 h.0.0) (cast_signed w32 l.0.0)) BadOpcode _ t.0 t.1 in
    let tz = zeros_take (3 - at % 4) bytes z.0 fits z.1 in
    let td = far_takes at z.0 d.0.0 d.0.1 lt tz.rest_fits d.1 in
    let tl = number_takes w32 (2 ^ 32) word d.0.1 l.0.0 l.0.1 td.0.rest_fits l.1 in
    let th = number_takes w32 (2 ^ 32) word l.0.1 h.0.0 h.0.1 tl.0.rest_fits h.1 in
    let ts = fars_take at _ h.0.1 t.0 lt th.0.rest_fits g.1 in
    let numbers = count_high l.0.0 h.0.0 tl.1 th.1 g.0 in
    let high : h.0.0 ≡ high_of l.0.0 (length t.0.0) = rw ts.1 (sym numbers.0) in
    let e4 = subst (λ (n : ℕ). Takes l.0.1 (to_be_bytes w32 n ++ flat_map (far_bytes at) t.0.0) t.0.1) high (takes_both l.0.1 (to_be_bytes w32 h.0.0) h.0.1 (flat_map (far_bytes at) t.0.0) t.0.1 th.0 ts.0) in
    let e3 = takes_both d.0.1 (to_be_bytes w32 l.0.0) l.0.1 _ t.0.1 tl.0 e4 in
    let e2 = takes_both z.0 (far_bytes at d.0.0) d.0.1 _ t.0.1 td.0 e3 in
    let e1 = takes_both bytes (padding at) z.0 _ t.0.1 tz e2 in
    let made : Operands × List ℕ = (Table d.0.0 l.0.0 t.0.0, t.0.1) in
    subst (λ (y : Operands × List ℕ). TakesOperands IsTable at bytes y) (done_is made x t.2)
    (e1, (td.1, tl.1, positive (length t.0.0) ((h.0.0 + (2 ^ 32 - l.0.0)) % 2 ^ 32) ts.1, same_room (from_least l.0.0) (length t.0.0) ((h.0.0 + (2 ^ 32 - l.0.0)) % 2 ^ 32 + 1) ts.1 numbers.1, ts.2))

table_again : (at default low : ℕ) (targets rest : List ℕ) → at < 2 ^ 32 → Has IsTable (Table default low targets) → table_at at (operand_bytes at (Table default low targets) ++ rest) ≡ Ok (Table default low targets, rest)
unfolding table_at
table_again at default low targets rest lt fits =
    let n = high_count low (length targets) fits.1 fits.2 fits.3 in
    let regrouped : operand_bytes at (Table default low targets) ++ rest ≡ padding at ++ (far_bytes at default ++ (to_be_bytes w32 low ++ (to_be_bytes w32 (high_of low (length targets)) ++ (flat_map (far_bytes at) targets ++ rest)))) = simp append_assoc in
    ap (table_at at) regrouped ∙ rw (zeros_again (3 - at % 4), far_reads at default _ lt fits.0, number_again w32 (2 ^ 32) word low _ fits.1, number_again w32 (2 ^ 32) word (high_of low (length targets)) _ (omega arith), n.0, n.1, fars_again at targets rest lt fits.4) refl

lookup_takes : (at : ℕ) (bytes : List ℕ) (x : Operands × List ℕ) → at < 2 ^ 32 → IsBytes bytes → lookup_at at bytes ≡ Ok x → TakesOperands IsLookup at bytes x
unfolding lookup_at
lookup_takes at bytes x lt fits e =
    let f3 = λ (default : ℕ × List ℕ) (pairs : List (ℕ × ℕ) × List ℕ). done (Lookup default.0 pairs.0, pairs.1) in
    let f2 = λ (default : ℕ × List ℕ) (count : ℕ × List ℕ). (if nat_lt count.0 (2 ^ 31) then pairs_at at count.0 0 count.1 else Err BadOpcode) >>= f3 default in
    let f1 = λ (default : ℕ × List ℕ). number_at w32 default.1 >>= f2 default in
    let f0 = λ (rest : List ℕ). far_at at rest >>= f1 in
    let z = step_ok (zeros_at (3 - at % 4) bytes) f0 x e in
    let d = step_ok (far_at at z.0) f1 x z.2 in
    let n = step_ok (number_at w32 d.0.1) (f2 d.0) x d.2 in
    let p = step_ok (if nat_lt n.0.0 (2 ^ 31) then pairs_at at n.0.0 0 n.0.1 else Err BadOpcode) (f3 d.0) x n.2 in
    let g = where_ok (nat_lt n.0.0 (2 ^ 31)) BadOpcode (pairs_at at n.0.0 0 n.0.1) p.0 p.1 in
    let small : n.0.0 < 2 ^ 31 = ltb-true n.0.0 (2 ^ 31) g.0 in
    let tz = zeros_take (3 - at % 4) bytes z.0 fits z.1 in
    let td = far_takes at z.0 d.0.0 d.0.1 lt tz.rest_fits d.1 in
    let tn = number_takes w32 (2 ^ 32) word d.0.1 n.0.0 n.0.1 td.0.rest_fits n.1 in
    let tp = pairs_take at n.0.0 0 n.0.1 p.0 lt tn.0.rest_fits g.1 in
    let count : n.0.0 ≡ length p.0.0 % 2 ^ 32 = omega (arith, tp.1) in
    let e3 = subst (λ (k : ℕ). Takes d.0.1 (to_be_bytes w32 k ++ flat_map (pair_bytes at) p.0.0) p.0.1) count (takes_both d.0.1 (to_be_bytes w32 n.0.0) n.0.1 (flat_map (pair_bytes at) p.0.0) p.0.1 tn.0 tp.0) in
    let e2 = takes_both z.0 (far_bytes at d.0.0) d.0.1 _ p.0.1 td.0 e3 in
    let e1 = takes_both bytes (padding at) z.0 _ p.0.1 tz e2 in
    let made : Operands × List ℕ = (Lookup d.0.0 p.0.0, p.0.1) in
    subst (λ (y : Operands × List ℕ). TakesOperands IsLookup at bytes y) (done_is made x p.2)
    (e1, (td.1, omega (arith, tp.1), tp.2))

lookup_again : (at default : ℕ) (pairs : List (ℕ × ℕ)) (rest : List ℕ) → at < 2 ^ 32 → Has IsLookup (Lookup default pairs) → lookup_at at (operand_bytes at (Lookup default pairs) ++ rest) ≡ Ok (Lookup default pairs, rest)
unfolding lookup_at
lookup_again at default pairs rest lt fits =
    let regrouped : operand_bytes at (Lookup default pairs) ++ rest ≡ padding at ++ (far_bytes at default ++ (to_be_bytes w32 (length pairs % 2 ^ 32) ++ (flat_map (pair_bytes at) pairs ++ rest))) = simp append_assoc in
    let count : length pairs % 2 ^ 32 ≡ length pairs = omega (arith, fits.1) in
    let small : nat_lt (length pairs) (2 ^ 31) ≡ true = lt-ltb (length pairs) (2 ^ 31) fits.1 in
    ap (lookup_at at) regrouped ∙ rw (zeros_again (3 - at % 4), far_reads at default _ lt fits.0, number_again w32 (2 ^ 32) word (length pairs % 2 ^ 32) _ (omega arith), count, small, pairs_again at 0 pairs rest lt fits.2) refl

called_takes : (at : ℕ) (bytes : List ℕ) (x : Operands × List ℕ) → IsBytes bytes → called_at bytes ≡ Ok x → TakesOperands IsCalled at bytes x
unfolding called_at
called_takes at bytes x fits e =
    let f2 = λ (index : ℕ × List ℕ) (count : ℕ × List ℕ) (rest : List ℕ). done (Called index.0 count.0, rest) in
    let f1 = λ (index : ℕ × List ℕ) (count : ℕ × List ℕ). only_at 0 count.1 >>= f2 index count in
    let f0 = λ (index : ℕ × List ℕ). count_at index.1 >>= f1 index in
    let p = step_ok (number_at w16 bytes) f0 x e in
    let n = step_ok (count_at p.0.1) (f1 p.0) x p.2 in
    let z = step_ok (only_at 0 n.0.1) (f2 p.0 n.0) x n.2 in
    let tp = number_takes w16 (2 ^ 16) half bytes p.0.0 p.0.1 fits p.1 in
    let tn = count_takes p.0.1 n.0.0 n.0.1 tp.0.rest_fits n.1 in
    let tz = only_takes 0 n.0.1 z.0 tn.0.rest_fits z.1 in
    let made : Operands × List ℕ = (Called p.0.0 n.0.0, z.0) in
    subst (λ (y : Operands × List ℕ). TakesOperands IsCalled at bytes y) (done_is made x z.2)
    (takes_both bytes (to_be_bytes w16 p.0.0) p.0.1 (n.0.0 ∷ 0 ∷ []) z.0 tp.0 (takes_both p.0.1 (n.0.0 ∷ []) n.0.1 (0 ∷ []) z.0 tn.0 tz), (tp.1, tn.1, tn.2))

called_again : (p n : ℕ) (rest : List ℕ) → p < 2 ^ 16 → 0 < n → called_at ((to_be_bytes w16 p ++ n ∷ 0 ∷ []) ++ rest) ≡ Ok (Called p n, rest)
unfolding called_at
called_again p n rest h k =
    let regrouped : (to_be_bytes w16 p ++ n ∷ 0 ∷ []) ++ rest ≡ to_be_bytes w16 p ++ (n ∷ 0 ∷ rest) = append_assoc (to_be_bytes w16 p) (n ∷ 0 ∷ []) rest in
    ap called_at regrouped ∙ rw (number_again w16 (2 ^ 16) half p (n ∷ 0 ∷ rest) h, count_again n (0 ∷ rest) k) refl

ints_take : (at : ℕ) (bytes : List ℕ) (x : Operands × List ℕ) → IsBytes bytes → ints_at bytes ≡ Ok x → TakesOperands IsInts at bytes x
unfolding ints_at
ints_take at bytes x fits e =
    let a = step_ok (only_at 10 bytes) (λ rest. done (Ints, rest)) x e in
    let made : Operands × List ℕ = (Ints, a.0) in
    subst (λ (y : Operands × List ℕ). TakesOperands IsInts at bytes y) (done_is made x a.2) (only_takes 10 bytes a.0 fits a.1, tt)

ints_again : (rest : List ℕ) → ints_at (10 ∷ rest) ≡ Ok (Ints, rest)
unfolding ints_at
ints_again rest = refl

amount_test : (b : Bool) (load : Option LoadOp) (store : Option StoreOp) → cond b (Some IsAmount) (local_shape load store) ≡ Some IsAmount → b ≡ true
amount_test true load store e = refl
amount_test false (Some op) store e = absurd cc
amount_test false None (Some op) e = absurd cc
amount_test false None None e = absurd cc

-- the one opcode of which the wide form has an amount
amount_code : (c : ℕ) → wide_shape c ≡ Some IsAmount → c ≡ 0x84
unfolding wide_shape
amount_code c is = eqb-true c 0x84 (amount_test (c == 0x84) (load_op_of c) (store_op_of c) is)

wide_operands_take : (s : Option WideShape) (c at : ℕ) (before bytes : List ℕ) (x : Operands × List ℕ) → wide_shape c ≡ s → IsBytes bytes → before ≡ c ∷ bytes → wide_operands_at s c bytes ≡ Ok x → TakesOperands IsWide at before x
unfolding wide_operands_at
wide_operands_take None c at before bytes x is fits whole e = absurd cc
wide_operands_take (Some IsLocal) c at before bytes x is fits whole e =
    let a = step_ok (number_at w16 bytes) (λ local. done (Wide c local.0, local.1)) x e in
    let t = number_takes w16 (2 ^ 16) half bytes a.0.0 a.0.1 fits a.1 in
    let made : Operands × List ℕ = (Wide c a.0.0, a.0.1) in
    subst (λ (y : Operands × List ℕ). TakesOperands IsWide at before y) (done_is made x a.2)
    (record { parts = whole ∙ ap (λ (y : List ℕ). c ∷ y) t.0.parts; rest_fits = t.0.rest_fits }, (is, t.1))
wide_operands_take (Some IsAmount) c at before bytes x is fits whole e =
    let a = step_ok (number_at w16 bytes) (λ local. number_at w16 local.1 >>= λ amount. done (WideAmount local.0 amount.0, amount.1)) x e in
    let b = step_ok (number_at w16 a.0.1) (λ amount. done (WideAmount a.0.0 amount.0, amount.1)) x a.2 in
    let t = number_takes w16 (2 ^ 16) half bytes a.0.0 a.0.1 fits a.1 in
    let u = number_takes w16 (2 ^ 16) half a.0.1 b.0.0 b.0.1 t.0.rest_fits b.1 in
    let both = takes_both bytes (to_be_bytes w16 a.0.0) a.0.1 (to_be_bytes w16 b.0.0) b.0.1 t.0 u.0 in
    let made : Operands × List ℕ = (WideAmount a.0.0 b.0.0, b.0.1) in
    subst (λ (y : Operands × List ℕ). TakesOperands IsWide at before y) (done_is made x b.2)
    (record { parts = whole ∙ ap (λ (k : ℕ). k ∷ bytes) (amount_code c is) ∙ ap (λ (y : List ℕ). 0x84 ∷ y) both.parts; rest_fits = both.rest_fits }, (t.1, u.1))

wide_takes : (at : ℕ) (bytes : List ℕ) (x : Operands × List ℕ) → IsBytes bytes → wide_at bytes ≡ Ok x → TakesOperands IsWide at bytes x
unfolding wide_at
wide_takes at bytes x fits e =
    let a = step_ok (byte_at bytes) (λ c. wide_operands_at (wide_shape c.0) c.0 c.1) x e in
    let t = byte_takes bytes a.0.0 a.0.1 fits a.1 in
    wide_operands_take (wide_shape a.0.0) a.0.0 at bytes a.0.1 x refl t.0.rest_fits t.0.parts a.2

wide_again : (c n : ℕ) (rest : List ℕ) → wide_shape c ≡ Some IsLocal → n < 2 ^ 16 → wide_at (c ∷ (to_be_bytes w16 n ++ rest)) ≡ Ok (Wide c n, rest)
unfolding wide_at wide_operands_at
wide_again c n rest is lt = ap (λ (s : Option WideShape). wide_operands_at s c (to_be_bytes w16 n ++ rest)) is ∙ rw (number_again w16 (2 ^ 16) half n rest lt) refl

amount_again : (n k : ℕ) (rest : List ℕ) → n < 2 ^ 16 → k < 2 ^ 16 → wide_at (0x84 ∷ ((to_be_bytes w16 n ++ to_be_bytes w16 k) ++ rest)) ≡ Ok (WideAmount n k, rest)
unfolding wide_at wide_operands_at wide_shape
amount_again n k rest h j =
    let regrouped : (to_be_bytes w16 n ++ to_be_bytes w16 k) ++ rest ≡ to_be_bytes w16 n ++ (to_be_bytes w16 k ++ rest) = append_assoc (to_be_bytes w16 n) (to_be_bytes w16 k) rest in
    ap (λ (y : List ℕ). wide_at (0x84 ∷ y)) regrouped ∙ rw (number_again w16 (2 ^ 16) half n (to_be_bytes w16 k ++ rest) h, number_again w16 (2 ^ 16) half k rest j) refl

pub operands_take : (s : Shape) (at : ℕ) (bytes : List ℕ) (x : Operands × List ℕ) → at < 2 ^ 32 → IsBytes bytes → operands_at at s bytes ≡ Ok x → TakesOperands s at bytes x
unfolding operands_at
operands_take IsNothing at bytes x lt fits e =
    let made : Operands × List ℕ = (Nothing, bytes) in
    subst (λ (y : Operands × List ℕ). TakesOperands IsNothing at bytes y) (done_is made x e) (takes_nothing bytes fits, tt)
operands_take IsByte at bytes x lt fits e =
    let a = step_ok (byte_at bytes) (λ n. Ok (Byte n.0, n.1)) x e in
    let made : Operands × List ℕ = (Byte a.0.0, a.0.1) in
    subst (λ (y : Operands × List ℕ). TakesOperands IsByte at bytes y) (done_is made x a.2) (byte_takes bytes a.0.0 a.0.1 fits a.1)
operands_take IsHalf at bytes x lt fits e =
    let a = step_ok (number_at w16 bytes) (λ n. Ok (Half n.0, n.1)) x e in
    let made : Operands × List ℕ = (Half a.0.0, a.0.1) in
    subst (λ (y : Operands × List ℕ). TakesOperands IsHalf at bytes y) (done_is made x a.2) (number_takes w16 (2 ^ 16) half bytes a.0.0 a.0.1 fits a.1)
operands_take IsLocalAmount at bytes x lt fits e =
    let a = step_ok (byte_at bytes) (λ local. byte_at local.1 >>= λ amount. Ok (LocalAmount local.0 amount.0, amount.1)) x e in
    let b = step_ok (byte_at a.0.1) (λ amount. Ok (LocalAmount a.0.0 amount.0, amount.1)) x a.2 in
    let t0 = byte_takes bytes a.0.0 a.0.1 fits a.1 in
    let t1 = byte_takes a.0.1 b.0.0 b.0.1 t0.0.rest_fits b.1 in
    let made : Operands × List ℕ = (LocalAmount a.0.0 b.0.0, b.0.1) in
    subst (λ (y : Operands × List ℕ). TakesOperands IsLocalAmount at bytes y) (done_is made x b.2)
    (takes_both bytes (a.0.0 ∷ []) a.0.1 (b.0.0 ∷ []) b.0.1 t0.0 t1.0, (t0.1, t1.1))
operands_take IsNear at bytes x lt fits e =
    let a = step_ok (near_at at bytes) (λ t. Ok (Near t.0, t.1)) x e in
    let made : Operands × List ℕ = (Near a.0.0, a.0.1) in
    subst (λ (y : Operands × List ℕ). TakesOperands IsNear at bytes y) (done_is made x a.2) (near_takes at bytes a.0.0 a.0.1 lt fits a.1)
operands_take IsFar at bytes x lt fits e =
    let a = step_ok (far_at at bytes) (λ t. Ok (Far t.0, t.1)) x e in
    let made : Operands × List ℕ = (Far a.0.0, a.0.1) in
    subst (λ (y : Operands × List ℕ). TakesOperands IsFar at bytes y) (done_is made x a.2) (far_takes at bytes a.0.0 a.0.1 lt fits a.1)
operands_take IsCalled at bytes x lt fits e = called_takes at bytes x fits e
operands_take IsInts at bytes x lt fits e = ints_take at bytes x fits e
operands_take IsTable at bytes x lt fits e = table_takes at bytes x lt fits e
operands_take IsLookup at bytes x lt fits e = lookup_takes at bytes x lt fits e
operands_take IsWide at bytes x lt fits e = wide_takes at bytes x fits e

-- a target of two bytes is within reach; a distance of four bytes reaches every target
abbrev pub NearReaches : ℕ → Operands → Type 0
NearReaches at (Near t) = IsWithin (2 ^ 15) at t
NearReaches at _ = Unit {0}

near_reach : (at : ℕ) (o : Operands) → Reaches at o → NearReaches at o
near_reach at Nothing reach = tt
near_reach at (Byte n) reach = tt
near_reach at (Half n) reach = tt
near_reach at (LocalAmount n k) reach = tt
near_reach at (Near t) reach = reach
near_reach at (Far t) reach = tt
near_reach at (Called p n) reach = tt
near_reach at Ints reach = tt
near_reach at (Table default low targets) reach = tt
near_reach at (Lookup default pairs) reach = tt
near_reach at (Wide c n) reach = tt
near_reach at (WideAmount n k) reach = tt

pub operands_again : (s : Shape) (at : ℕ) (o : Operands) (rest : List ℕ) → at < 2 ^ 32 → Has s o → NearReaches at o → operands_at at s (operand_bytes at o ++ rest) ≡ Ok (o, rest)
unfolding operands_at
operands_again IsNothing at Nothing rest lt fits reach = refl
operands_again IsByte at (Byte n) rest lt fits reach = refl
operands_again IsHalf at (Half n) rest lt fits reach = rw (number_again w16 (2 ^ 16) half n rest fits) refl
operands_again IsLocalAmount at (LocalAmount n k) rest lt fits reach = refl
operands_again IsNear at (Near t) rest lt fits reach = rw (near_reads at t rest lt fits reach.0 reach.1) refl
operands_again IsFar at (Far t) rest lt fits reach = rw (far_reads at t rest lt fits) refl
operands_again IsCalled at (Called p n) rest lt fits reach = called_again p n rest fits.0 fits.2
operands_again IsInts at Ints rest lt fits reach = ints_again rest
operands_again IsTable at (Table default low targets) rest lt fits reach = table_again at default low targets rest lt fits
operands_again IsLookup at (Lookup default pairs) rest lt fits reach = lookup_again at default pairs rest lt fits
operands_again IsWide at (Wide c n) rest lt fits reach = wide_again c n rest fits.0 fits.1
operands_again IsWide at (WideAmount n k) rest lt fits reach = amount_again n k rest fits.0 fits.1
operands_again _ at _ rest lt fits reach = absurd fits

shaped_takes : (o : Option Shape) (at c : ℕ) (bytes : List ℕ) (x : Row × List ℕ) → at < 2 ^ 32 → IsBytes bytes → shaped_at at c o bytes ≡ Ok x → (x.0.opcode ≡ c) × Takes bytes (operand_bytes at x.0.operands) x.1 × HasShape o x.0.operands
unfolding shaped_at
shaped_takes None at c bytes x lt fits e = absurd cc
shaped_takes (Some s) at c bytes x lt fits e =
    let a = step_ok (operands_at at s bytes) (λ o. Ok (row c o.0, o.1)) x e in
    let t = operands_take s at bytes a.0 lt fits a.1 in
    let made : Row × List ℕ = (row c a.0.0, a.0.1) in
    subst (λ (y : Row × List ℕ). (y.0.opcode ≡ c) × Takes bytes (operand_bytes at y.0.operands) y.1 × HasShape (Some s) y.0.operands) (done_is made x a.2) (refl, t.0, t.1)

-- what is read is spelled so, and its row allows it
pub row_takes : (at : ℕ) (bytes : List ℕ) (x : Row × List ℕ) → at < 2 ^ 32 → IsBytes bytes → row_at at bytes ≡ Ok x → Takes bytes (row_bytes at x.0) x.1 × Allowed x.0
unfolding row_at
row_takes at [] x lt fits e = absurd cc
row_takes at (c ∷ bytes) x lt fits e =
    let t = shaped_takes (shape_of c) at c bytes x lt (IsBytes-rest c bytes fits) e in
    let below : c < 256 = fits 0 in
    let has : HasShape (shape_of x.0.opcode) x.0.operands = subst (λ (k : ℕ). HasShape (shape_of k) x.0.operands) (sym t.0) t.2 in
    (record { parts = rw t.0 (ap (λ (y : List ℕ). c ∷ y) t.1.parts); rest_fits = t.1.rest_fits }, (omega (arith, t.0), has))

shaped_again : (o : Option Shape) (at c : ℕ) (os : Operands) (rest : List ℕ) → at < 2 ^ 32 → HasShape o os → NearReaches at os → shaped_at at c o (operand_bytes at os ++ rest) ≡ Ok (row c os, rest)
unfolding shaped_at
shaped_again None at c os rest lt fits reach = absurd fits
shaped_again (Some s) at c os rest lt fits reach = rw (operands_again s at os rest lt fits reach) refl

near_again_so : (at : ℕ) (r : Row) (rest : List ℕ) → at < 2 ^ 32 → Allowed r → NearReaches at r.operands → row_at at (row_bytes at r ++ rest) ≡ Ok (r, rest)
unfolding row_at
near_again_so at r rest lt fits reach = shaped_again (shape_of r.opcode) at r.opcode r.operands rest lt fits.1 reach

-- what its row allows is read, whatever follows
pub row_again : (at : ℕ) (r : Row) (rest : List ℕ) → at < 2 ^ 32 → Allowed r → Reaches at r.operands → row_at at (row_bytes at r ++ rest) ≡ Ok (r, rest)
row_again at r rest lt fits reach = near_again_so at r rest lt fits (near_reach at r.operands reach)

-- ---- instructions whose targets are out of reach

-- a target of two bytes isn't within reach
abbrev pub OutOfReach : ℕ → Operands → Type 0
OutOfReach at (Near t) = ¬ IsWithin (2 ^ 15) at t
OutOfReach at _ = ⊥

-- an instruction that its row allows is read, as itself unless a target of two bytes is out of reach
abbrev pub IsRead : ℕ → Row → List ℕ → Type 0
IsRead at r rest = (x : Row) × (row_at at (row_bytes at r ++ rest) ≡ Ok (x, rest)) × ((x ≡ r) ⊎ OutOfReach at r.operands)

near_any : (at t : ℕ) (rest : List ℕ) → near_at at (near_bytes at t ++ rest) ≡ Ok (near_from at (distance at t % 2 ^ 16), rest)
unfolding near_at
near_any at t rest = rw (number_again w16 (2 ^ 16) half (distance at t % 2 ^ 16) rest (omega arith)) refl

shaped_any : (o : Option Shape) (at c t : ℕ) (rest : List ℕ) → HasShape o (Near t) → shaped_at at c o (near_bytes at t ++ rest) ≡ Ok (row c (Near (near_from at (distance at t % 2 ^ 16))), rest)
unfolding shaped_at operands_at
shaped_any (Some IsNear) at c t rest fits = rw (near_any at t rest) refl
shaped_any _ at c t rest fits = absurd fits

as_itself : (at c : ℕ) (o : Operands) (rest : List ℕ) → at < 2 ^ 32 → Allowed (row c o) → NearReaches at o → IsRead at (row c o) rest
as_itself at c o rest lt fits reach = (row c o, near_again_so at (row c o) rest lt fits reach, inl refl)

near_is_read : (at c t : ℕ) (rest : List ℕ) → at < 2 ^ 32 → Allowed (row c (Near t)) → (t + 2 ^ 15 < at) ⊎ (at ≤ t + 2 ^ 15) → (t < at + 2 ^ 15) ⊎ (at + 2 ^ 15 ≤ t) → IsRead at (row c (Near t)) rest
unfolding row_at
near_is_read at c t rest lt fits (inr low) (inl high) = as_itself at c (Near t) rest lt fits (low, high)
near_is_read at c t rest lt fits (inl low) high =
    (row c (Near (near_from at (distance at t % 2 ^ 16))), shaped_any (shape_of c) at c t rest fits.1, inr (λ within. omega (arith, within.0, low)))
near_is_read at c t rest lt fits (inr low) (inr high) =
    (row c (Near (near_from at (distance at t % 2 ^ 16))), shaped_any (shape_of c) at c t rest fits.1, inr (λ within. omega (arith, within.1, high)))

row_is_read : (at c : ℕ) (o : Operands) (rest : List ℕ) → at < 2 ^ 32 → Allowed (row c o) → IsRead at (row c o) rest
row_is_read at c (Near t) rest lt fits = near_is_read at c t rest lt fits (cases_lt (t + 2 ^ 15) at) (cases_lt t (at + 2 ^ 15))
row_is_read at c Nothing rest lt fits = as_itself at c Nothing rest lt fits tt
row_is_read at c (Byte n) rest lt fits = as_itself at c (Byte n) rest lt fits tt
row_is_read at c (Half n) rest lt fits = as_itself at c (Half n) rest lt fits tt
row_is_read at c (LocalAmount n k) rest lt fits = as_itself at c (LocalAmount n k) rest lt fits tt
row_is_read at c (Far t) rest lt fits = as_itself at c (Far t) rest lt fits tt
row_is_read at c (Called p n) rest lt fits = as_itself at c (Called p n) rest lt fits tt
row_is_read at c Ints rest lt fits = as_itself at c Ints rest lt fits tt
row_is_read at c (Table default low targets) rest lt fits = as_itself at c (Table default low targets) rest lt fits tt
row_is_read at c (Lookup default pairs) rest lt fits = as_itself at c (Lookup default pairs) rest lt fits tt
row_is_read at c (Wide k n) rest lt fits = as_itself at c (Wide k n) rest lt fits tt
row_is_read at c (WideAmount n k) rest lt fits = as_itself at c (WideAmount n k) rest lt fits tt

pub is_read : (at : ℕ) (r : Row) (rest : List ℕ) → at < 2 ^ 32 → Allowed r → IsRead at r rest
is_read at r rest lt fits = row_is_read at r.opcode r.operands rest lt fits

pub shorter : {X : Type 0} (f : X → Row × List ℕ) (r : Result X Fault) (at : ℕ) (bytes : List ℕ) → at < 2 ^ 32 → IsBytes bytes → Gives f r (row_at at bytes) → IfOk r (λ x. length (f x).1 < length bytes)
shorter f (Ok x) at bytes lt fits given =
    let t = (row_takes at bytes (f x) lt fits given).0.parts in
    omega (arith, simp length-append at (ap length t))
shorter f (Err e) at bytes lt fits given = tt
