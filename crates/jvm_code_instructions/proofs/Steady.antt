-- A reader from left to right: what it gave, or refused, it gives or refuses whatever bytes follow.
use Rattle.std.proofs.Common.{◌≡◌, ℕ, zero, suc, ◌+◌, ◌-◌, ◌%◌, ◌^◌, ◌≤◌, Bool, true, false, cond, ltb, List, [], ◌∷◌, ◌++◌, length, length-append, take, drop, Option, Some, None, Result, Ok, Err, refl, ap, ◌∙◌, arith}
use Rattle.std.specs.Prelude.{◌==◌, int_lt, nat_lt, if◌then◌else◌}
use Rattle.std.specs.Int.{Width, w16, w32, byte_len, from_be_bytes, cast_signed}
use Rattle.std.proofs.lemmas.Bool.{ltb-false, le-ltb}
use Rattle.std.proofs.lemmas.List.{take-append-le, drop-append-le}
use Rattle.jvm_code_instructions.specs.declared.fault.Fault.{Fault}
use Rattle.jvm_code_instructions.specs.declared.fault.Fault.TheVariants.{BadOpcode, Cut, NoMemory}
use Rattle.jvm_code_instructions.specs.Table.{Nothing, Byte, Half, LocalAmount, Near, Far, Called, Ints, Table, Lookup, Wide, WideAmount, row, Shape, IsNothing, IsByte, IsHalf, IsLocalAmount, IsNear, IsFar, IsCalled, IsInts, IsTable, IsLookup, IsWide, WideShape, IsLocal, IsAmount, shape_of, wide_shape}
use Rattle.jvm_code_instructions.specs.Spelling.{from_least}
use Rattle.jvm_code_instructions.specs.Reading.{◌>>=◌, byte_at, number_at, only_at, count_at, near_from, far_from, near_at, far_at, fars_at, zeros_at, pair_at, pairs_at, table_at, lookup_at, called_at, ints_at, wide_at, wide_operands_at, operands_at, shaped_at, row_at}
use Rattle.jvm_code_instructions.proofs.Fields.{unless_ok, where_ok, done, done_is}

pub record Steady {A : Type 0} (f : List ℕ → Result (A × List ℕ) Fault) : Type 0 where
  pub bad : (bytes more : List ℕ) → f bytes ≡ Err BadOpcode → f (bytes ++ more) ≡ Err BadOpcode
  pub ok : (bytes more : List ℕ) (x : A × List ℕ) → f bytes ≡ Ok x → f (bytes ++ more) ≡ Ok (x.0, x.1 ++ more)

-- the same of a reader that gives the rest alone
record SteadyRest (f : List ℕ → Result (List ℕ) Fault) : Type 0 where
  pub bad : (bytes more : List ℕ) → f bytes ≡ Err BadOpcode → f (bytes ++ more) ≡ Err BadOpcode
  pub ok : (bytes more rest : List ℕ) → f bytes ≡ Ok rest → f (bytes ++ more) ≡ Ok (rest ++ more)

-- a step that failed, or gave a value with which the next did
step_bad : {A B : Type 0} (r s : Result A Fault) (f g : A → Result B Fault) → (r ≡ Err BadOpcode → s ≡ Err BadOpcode) → ((x : A) → r ≡ Ok x → f x ≡ Err BadOpcode → (s >>= g) ≡ Err BadOpcode) → (r >>= f) ≡ Err BadOpcode → (s >>= g) ≡ Err BadOpcode
step_bad (Ok x) s f g h k e = k x refl e
step_bad (Err BadOpcode) s f g h k e = ap (λ r. r >>= g) (h refl)
step_bad (Err Cut) s f g h k e = absurd cc
step_bad (Err NoMemory) s f g h k e = absurd cc

step_ok' : {A B : Type 0} (r s : Result A Fault) (f g : A → Result B Fault) (y z : B) → ((x : A) → r ≡ Ok x → f x ≡ Ok y → (s >>= g) ≡ Ok z) → (r >>= f) ≡ Ok y → (s >>= g) ≡ Ok z
step_ok' (Ok x) s f g y z k e = k x refl e
step_ok' (Err d) s f g y z k e = absurd cc

pub steady_then : {A B : Type 0} (f : List ℕ → Result (A × List ℕ) Fault) (g : A → List ℕ → Result (B × List ℕ) Fault) → Steady f → ((a : A) → Steady (g a)) → Steady (λ bytes. f bytes >>= λ x. g x.0 x.1)
steady_then f g s t = record {
  bad = λ bytes more e. step_bad (f bytes) (f (bytes ++ more)) (λ x. g x.0 x.1) (λ x. g x.0 x.1) (s.bad bytes more)
      (λ x is h. ap (λ r. r >>= λ x. g x.0 x.1) (s.ok bytes more x is) ∙ (t x.0).bad x.1 more h) e;
  ok = λ bytes more y e. step_ok' (f bytes) (f (bytes ++ more)) (λ x. g x.0 x.1) (λ x. g x.0 x.1) y (y.0, y.1 ++ more)
      (λ x is h. ap (λ r. r >>= λ x. g x.0 x.1) (s.ok bytes more x is) ∙ (t x.0).ok x.1 more y h) e;
}

rest_then : {B : Type 0} (f : List ℕ → Result (List ℕ) Fault) (g : List ℕ → Result (B × List ℕ) Fault) → SteadyRest f → Steady g → Steady (λ bytes. f bytes >>= g)
rest_then f g s t = record {
  bad = λ bytes more e. step_bad (f bytes) (f (bytes ++ more)) g g (s.bad bytes more) (λ x is h. ap (λ r. r >>= g) (s.ok bytes more x is) ∙ t.bad x more h) e;
  ok = λ bytes more y e. step_ok' (f bytes) (f (bytes ++ more)) g g y (y.0, y.1 ++ more) (λ x is h. ap (λ r. r >>= g) (s.ok bytes more x is) ∙ t.ok x more y h) e;
}

rest_rest : (f g : List ℕ → Result (List ℕ) Fault) → SteadyRest f → SteadyRest g → SteadyRest (λ bytes. f bytes >>= g)
rest_rest f g s t = record {
  bad = λ bytes more e. step_bad (f bytes) (f (bytes ++ more)) g g (s.bad bytes more) (λ x is h. ap (λ r. r >>= g) (s.ok bytes more x is) ∙ t.bad x more h) e;
  ok = λ bytes more y e. step_ok' (f bytes) (f (bytes ++ more)) g g y (y ++ more) (λ x is h. ap (λ r. r >>= g) (s.ok bytes more x is) ∙ t.ok x more y h) e;
}

pub steady_done : {A : Type 0} (a : A) → Steady (λ bytes. Ok (a, bytes))
steady_done a = record { bad = λ bytes more e. absurd cc; ok = λ bytes more x e. done_again a bytes more x e }
  where
    done_again : {A : Type 0} (a : A) (bytes more : List ℕ) (x : A × List ℕ) → done {A = A × List ℕ} (a, bytes) ≡ Ok x → done {A = A × List ℕ} (a, bytes ++ more) ≡ Ok (x.0, x.1 ++ more)
    done_again {A} a bytes more x e = ap (λ (y : A × List ℕ). done {A = A × List ℕ} (y.0, y.1 ++ more)) (done_is {A = A × List ℕ} (a, bytes) x e)

pub steady_bad : {A : Type 0} → Steady {A = A} (λ bytes. Err BadOpcode)
steady_bad = record { bad = λ bytes more e. refl; ok = λ bytes more x e. absurd cc }

steady_if : {A : Type 0} (b : Bool) (f g : List ℕ → Result (A × List ℕ) Fault) → Steady f → Steady g → Steady (λ bytes. if b then f bytes else g bytes)
steady_if true f g s t = s
steady_if false f g s t = t

-- ---- the parts

long_still : (bytes more : List ℕ) (n : ℕ) → ltb (length bytes) n ≡ false → ltb (length (bytes ++ more)) n ≡ false
long_still bytes more n h =
    let long : n ≤ length bytes = ltb-false (length bytes) n h in
    le-ltb (length (bytes ++ more)) n (omega (arith, length-append bytes more))

number_cut : {A : Type 0} (b : Bool) (x : A) → cond b (Err Cut) (done x) ≡ Err BadOpcode → ⊥
number_cut true x e = cc
number_cut false x e = cc

steady_number : (w : Width) → Steady (number_at w)
steady_number w = record {
  bad = λ bytes more e. absurd (number_cut (ltb (length bytes) (byte_len w)) (from_be_bytes w (take (byte_len w) bytes), drop (byte_len w) bytes) e);
  ok = λ bytes more x e. number_ok w bytes more x e;
}
  where
    number_ok : (w : Width) (bytes more : List ℕ) (x : ℕ × List ℕ) → number_at w bytes ≡ Ok x → number_at w (bytes ++ more) ≡ Ok (x.0, x.1 ++ more)
    number_ok w bytes more x e =
        let g = unless_ok (ltb (length bytes) (byte_len w)) Cut (done (from_be_bytes w (take (byte_len w) bytes), drop (byte_len w) bytes)) x e in
        let long : byte_len w ≤ length bytes = ltb-false _ _ g.0 in
        let made = done_is (from_be_bytes w (take (byte_len w) bytes), drop (byte_len w) bytes) x g.1 in
        rw (long_still bytes more (byte_len w) g.0, take-append-le (byte_len w) bytes more long, drop-append-le (byte_len w) bytes more long) (ap (λ (y : ℕ × List ℕ). done (y.0, y.1 ++ more)) made)

byte_ok : (bytes more : List ℕ) (x : ℕ × List ℕ) → byte_at bytes ≡ Ok x → byte_at (bytes ++ more) ≡ Ok (x.0, x.1 ++ more)
byte_ok [] more x e = absurd cc
byte_ok (b ∷ bytes) more x e = ap (λ (y : ℕ × List ℕ). done (y.0, y.1 ++ more)) (done_is (b, bytes) x e)

byte_bad : (bytes more : List ℕ) → byte_at bytes ≡ Err BadOpcode → byte_at (bytes ++ more) ≡ Err BadOpcode
byte_bad [] more e = absurd cc
byte_bad (b ∷ bytes) more e = absurd cc

steady_byte : Steady byte_at
steady_byte = record { bad = byte_bad; ok = byte_ok }

tested_bad : {A : Type 0} (b : Bool) (x y : A) → cond b (done x) (Err BadOpcode) ≡ Err BadOpcode → cond b (done y) (Err BadOpcode) ≡ Err BadOpcode
tested_bad true x y e = absurd cc
tested_bad false x y e = refl

tested_bad' : {A : Type 0} (b : Bool) (x y : A) → cond b (Err BadOpcode) (done x) ≡ Err BadOpcode → cond b (Err BadOpcode) (done y) ≡ Err BadOpcode
tested_bad' true x y e = refl
tested_bad' false x y e = absurd cc

only_bad : (b : ℕ) (bytes more : List ℕ) → only_at b bytes ≡ Err BadOpcode → only_at b (bytes ++ more) ≡ Err BadOpcode
only_bad b [] more e = absurd cc
only_bad b (x ∷ bytes) more e = tested_bad (x == b) bytes (bytes ++ more) e

only_ok : (b : ℕ) (bytes more rest : List ℕ) → only_at b bytes ≡ Ok rest → only_at b (bytes ++ more) ≡ Ok (rest ++ more)
only_ok b [] more rest e = absurd cc
only_ok b (x ∷ bytes) more rest e =
    let g = where_ok (x == b) BadOpcode (done bytes) rest e in
    rw g.0 (ap (λ (y : List ℕ). done (y ++ more)) (done_is bytes rest g.1))

steady_only : (b : ℕ) → SteadyRest (only_at b)
steady_only b = record { bad = only_bad b; ok = only_ok b }

count_bad : (bytes more : List ℕ) → count_at bytes ≡ Err BadOpcode → count_at (bytes ++ more) ≡ Err BadOpcode
count_bad [] more e = absurd cc
count_bad (n ∷ bytes) more e = tested_bad' (n == 0) (n, bytes) (n, bytes ++ more) e

count_ok : (bytes more : List ℕ) (x : ℕ × List ℕ) → count_at bytes ≡ Ok x → count_at (bytes ++ more) ≡ Ok (x.0, x.1 ++ more)
count_ok [] more x e = absurd cc
count_ok (n ∷ bytes) more x e =
    let g = unless_ok (n == 0) BadOpcode (done (n, bytes)) x e in
    rw g.0 (ap (λ (y : ℕ × List ℕ). done (y.0, y.1 ++ more)) (done_is (n, bytes) x g.1))

steady_count : Steady count_at
steady_count = record { bad = count_bad; ok = count_ok }

-- ---- operands

steady_near : (at : ℕ) → Steady (near_at at)
unfolding near_at
steady_near at = steady_then (number_at w16) (λ d rest. Ok (near_from at d, rest)) (steady_number w16) (λ d. steady_done (near_from at d))

steady_far : (at : ℕ) → Steady (far_at at)
unfolding far_at
steady_far at = steady_then (number_at w32) (λ d rest. Ok (far_from at d, rest)) (steady_number w32) (λ d. steady_done (far_from at d))

rest_done : SteadyRest (λ bytes. Ok bytes)
rest_done = record { bad = λ bytes more e. absurd cc; ok = λ bytes more rest e. ap (λ (y : List ℕ). done (y ++ more)) (done_is bytes rest e) }

steady_zeros : (n : ℕ) → SteadyRest (zeros_at n)
unfolding zeros_at
steady_zeros zero = rest_done
steady_zeros (suc n) = rest_rest (only_at 0) (zeros_at n) (steady_only 0) (steady_zeros n)

steady_fars : (at n : ℕ) → Steady (fars_at at n)
unfolding fars_at
steady_fars at zero = steady_done []
steady_fars at (suc n) = steady_then (far_at at) (λ t bytes. fars_at at n bytes >>= λ others. Ok (t ∷ others.0, others.1)) (steady_far at)
    (λ t. steady_then (fars_at at n) (λ ts rest. Ok (t ∷ ts, rest)) (steady_fars at n) (λ ts. steady_done (t ∷ ts)))

steady_table : (at : ℕ) → Steady (table_at at)
unfolding table_at
steady_table at =
    let targets = λ (low high : ℕ). steady_if (int_lt (cast_signed w32 high) (cast_signed w32 low)) (λ bytes. Err BadOpcode) (fars_at at ((high + (2 ^ 32 - low)) % 2 ^ 32 + 1)) steady_bad (steady_fars at ((high + (2 ^ 32 - low)) % 2 ^ 32 + 1)) in
    let f3 = λ (default low high : ℕ) (bytes : List ℕ). (if int_lt (cast_signed w32 high) (cast_signed w32 low) then Err BadOpcode else fars_at at ((high + (2 ^ 32 - low)) % 2 ^ 32 + 1) bytes) >>= λ ts. done (Table default low ts.0, ts.1) in
    let f2 = λ (default low : ℕ) (bytes : List ℕ). number_at w32 bytes >>= λ high. f3 default low high.0 high.1 in
    let f1 = λ (default : ℕ) (bytes : List ℕ). number_at w32 bytes >>= λ low. f2 default low.0 low.1 in
    rest_then (zeros_at (3 - at % 4)) (λ rest. far_at at rest >>= λ default. f1 default.0 default.1) (steady_zeros (3 - at % 4))
    (steady_then (far_at at) f1 (steady_far at)
    (λ default. steady_then (number_at w32) (f2 default) (steady_number w32)
    (λ low. steady_then (number_at w32) (f3 default low) (steady_number w32)
    (λ high. steady_then (λ bytes. if int_lt (cast_signed w32 high) (cast_signed w32 low) then Err BadOpcode else fars_at at ((high + (2 ^ 32 - low)) % 2 ^ 32 + 1) bytes) (λ ts rest. done (Table default low ts, rest)) (targets low high)
    (λ ts. steady_done (Table default low ts))))))

steady_pair : (at first : ℕ) → Steady (pair_at at first)
unfolding pair_at
steady_pair at first =
    steady_then (number_at w32) (λ n bytes. (if nat_lt (from_least n) first then Err BadOpcode else far_at at bytes) >>= λ t. done ((n, t.0), t.1)) (steady_number w32)
    (λ n. steady_then (λ bytes. if nat_lt (from_least n) first then Err BadOpcode else far_at at bytes) (λ t rest. done ((n, t), rest))
    (steady_if (nat_lt (from_least n) first) (λ bytes. Err BadOpcode) (far_at at) steady_bad (steady_far at)) (λ t. steady_done (n, t)))

steady_pairs : (at n first : ℕ) → Steady (pairs_at at n first)
unfolding pairs_at
steady_pairs at zero first = steady_done []
steady_pairs at (suc n) first = steady_then (pair_at at first) (λ p bytes. pairs_at at n (from_least p.0 + 1) bytes >>= λ others. Ok (p ∷ others.0, others.1)) (steady_pair at first)
    (λ p. steady_then (pairs_at at n (from_least p.0 + 1)) (λ ps rest. Ok (p ∷ ps, rest)) (steady_pairs at n (from_least p.0 + 1)) (λ ps. steady_done (p ∷ ps)))

steady_lookup : (at : ℕ) → Steady (lookup_at at)
unfolding lookup_at
steady_lookup at =
    let f2 = λ (default count : ℕ) (bytes : List ℕ). (if nat_lt count (2 ^ 31) then pairs_at at count 0 bytes else Err BadOpcode) >>= λ ps. done (Lookup default ps.0, ps.1) in
    let f1 = λ (default : ℕ) (bytes : List ℕ). number_at w32 bytes >>= λ count. f2 default count.0 count.1 in
    rest_then (zeros_at (3 - at % 4)) (λ rest. far_at at rest >>= λ default. f1 default.0 default.1) (steady_zeros (3 - at % 4))
    (steady_then (far_at at) f1 (steady_far at)
    (λ default. steady_then (number_at w32) (f2 default) (steady_number w32)
    (λ count. steady_then (λ bytes. if nat_lt count (2 ^ 31) then pairs_at at count 0 bytes else Err BadOpcode) (λ ps rest. done (Lookup default ps, rest))
    (steady_if (nat_lt count (2 ^ 31)) (pairs_at at count 0) (λ bytes. Err BadOpcode) (steady_pairs at count 0) steady_bad)
    (λ ps. steady_done (Lookup default ps)))))

steady_called : Steady called_at
unfolding called_at
steady_called =
    steady_then (number_at w16) (λ p bytes. count_at bytes >>= λ n. only_at 0 n.1 >>= λ rest. done (Called p n.0, rest)) (steady_number w16)
    (λ p. steady_then count_at (λ n bytes. only_at 0 bytes >>= λ rest. done (Called p n, rest)) steady_count
    (λ n. rest_then (only_at 0) (λ rest. done (Called p n, rest)) (steady_only 0) (steady_done (Called p n))))

steady_ints : Steady ints_at
unfolding ints_at
steady_ints = rest_then (only_at 10) (λ rest. done (Ints, rest)) (steady_only 10) (steady_done Ints)

steady_wide_operands : (s : Option WideShape) (c : ℕ) → Steady (wide_operands_at s c)
unfolding wide_operands_at
steady_wide_operands None c = steady_bad
steady_wide_operands (Some IsLocal) c = steady_then (number_at w16) (λ n rest. done (Wide c n, rest)) (steady_number w16) (λ n. steady_done (Wide c n))
steady_wide_operands (Some IsAmount) c =
    steady_then (number_at w16) (λ n bytes. number_at w16 bytes >>= λ k. done (WideAmount n k.0, k.1)) (steady_number w16)
    (λ n. steady_then (number_at w16) (λ k rest. done (WideAmount n k, rest)) (steady_number w16) (λ k. steady_done (WideAmount n k)))

steady_wide : Steady wide_at
unfolding wide_at
steady_wide = steady_then byte_at (λ c bytes. wide_operands_at (wide_shape c) c bytes) steady_byte (λ c. steady_wide_operands (wide_shape c) c)

steady_operands : (s : Shape) (at : ℕ) → Steady (operands_at at s)
unfolding operands_at
steady_operands IsNothing at = steady_done Nothing
steady_operands IsByte at = steady_then byte_at (λ n rest. done (Byte n, rest)) steady_byte (λ n. steady_done (Byte n))
steady_operands IsHalf at = steady_then (number_at w16) (λ n rest. done (Half n, rest)) (steady_number w16) (λ n. steady_done (Half n))
steady_operands IsLocalAmount at =
    steady_then byte_at (λ n bytes. byte_at bytes >>= λ k. done (LocalAmount n k.0, k.1)) steady_byte
    (λ n. steady_then byte_at (λ k rest. done (LocalAmount n k, rest)) steady_byte (λ k. steady_done (LocalAmount n k)))
steady_operands IsNear at = steady_then (near_at at) (λ t rest. done (Near t, rest)) (steady_near at) (λ t. steady_done (Near t))
steady_operands IsFar at = steady_then (far_at at) (λ t rest. done (Far t, rest)) (steady_far at) (λ t. steady_done (Far t))
steady_operands IsCalled at = steady_called
steady_operands IsInts at = steady_ints
steady_operands IsTable at = steady_table at
steady_operands IsLookup at = steady_lookup at
steady_operands IsWide at = steady_wide

steady_shaped : (at c : ℕ) (o : Option Shape) → Steady (shaped_at at c o)
unfolding shaped_at
steady_shaped at c None = steady_bad
steady_shaped at c (Some s) = steady_then (operands_at at s) (λ o rest. done (row c o, rest)) (steady_operands s at) (λ o. steady_done (row c o))

-- what is no instruction is none whatever bytes follow
pub bad_still : (at : ℕ) (bytes more : List ℕ) → row_at at bytes ≡ Err BadOpcode → row_at at (bytes ++ more) ≡ Err BadOpcode
unfolding row_at
bad_still at [] more e = absurd cc
bad_still at (c ∷ bytes) more e = (steady_shaped at c (shape_of c)).bad bytes more e
