-- A target is a distance, both ways; signed numbers by their bits.
use Rattle.std.proofs.Common.{◌≡◌, ℕ, ◌+◌, ◌-◌, ◌%◌, ◌^◌, ◌<◌, ◌≤◌, inl, inr, ltb, false, arith, ◌∙◌}
use Rattle.std.specs.Prelude.{int_lt, nat_lt}
use Rattle.std.specs.Int.{w16, w32, cast_signed, cast_unsigned}
use Rattle.std.proofs.lemmas.Int.{ints}
use Rattle.std.proofs.lemmas.Bool.{cases_lt, le-ltb, ltb-false}
use Rattle.jvm_code_instructions.specs.Spelling.{distance, from_least, high_of}
use Rattle.jvm_code_instructions.specs.Reading.{near_from, far_from}

widened_low : (d : ℕ) → d < 2 ^ 15 → cast_unsigned w32 (cast_signed w16 d) ≡ d
widened_low d h = omega (arith, ints)

widened_high : (d : ℕ) → d < 2 ^ 16 → 2 ^ 15 ≤ d → cast_unsigned w32 (cast_signed w16 d) ≡ d + (2 ^ 32 - 2 ^ 16)
widened_high d k h =
    let e : ltb d (2 ^ 15) ≡ false = le-ltb d (2 ^ 15) h in
    rw e (omega arith)

pub near_back : (at d : ℕ) → at < 2 ^ 32 → d < 2 ^ 16 → distance at (near_from at d) % 2 ^ 16 ≡ d
near_back at d h k =
    elim (cases_lt d (2 ^ 15)) [
      | inl lt ↦ omega (arith, widened_low d lt)
      | inr le ↦ omega (arith, widened_high d k le)
    ]

pub far_back : (at d : ℕ) → at < 2 ^ 32 → d < 2 ^ 32 → distance at (far_from at d) % 2 ^ 32 ≡ d
far_back at d h k = omega arith

pub near_again : (at t : ℕ) → at < 2 ^ 32 → t < 2 ^ 32 → at ≤ t + 2 ^ 15 → t < at + 2 ^ 15 → near_from at (distance at t % 2 ^ 16) ≡ t
near_again at t h k lo hi =
    let d : ℕ = distance at t % 2 ^ 16 in
    elim (cases_lt (distance at t % 2 ^ 16) (2 ^ 15)) [
      | inl lt ↦ omega (arith, widened_low (distance at t % 2 ^ 16) lt)
      | inr le ↦ omega (arith, widened_high (distance at t % 2 ^ 16) (omega arith) le)
    ]

pub far_again : (at t : ℕ) → at < 2 ^ 32 → t < 2 ^ 32 → far_from at (distance at t % 2 ^ 32) ≡ t
far_again at t h k = omega arith

-- the order of signed numbers by their bits
pub signed_order : (h l : ℕ) → h < 2 ^ 32 → l < 2 ^ 32 → int_lt (cast_signed w32 h) (cast_signed w32 l) ≡ nat_lt (from_least h) (from_least l)
signed_order h l p q = grind (arith, ints)

-- a table's high number, and the count of its targets
pub count_high : (low high : ℕ) → low < 2 ^ 32 → high < 2 ^ 32 → int_lt (cast_signed w32 high) (cast_signed w32 low) ≡ false
    → (high_of low ((high + (2 ^ 32 - low)) % 2 ^ 32 + 1) ≡ high) × (from_least low + ((high + (2 ^ 32 - low)) % 2 ^ 32 + 1) ≤ 2 ^ 32)
count_high low high p q e =
    let o : from_least low ≤ from_least high = ltb-false (from_least high) (from_least low) (rw (← signed_order high low q p) e) in
    (omega arith, omega arith)

pub high_count : (low n : ℕ) → low < 2 ^ 32 → 0 < n → from_least low + n ≤ 2 ^ 32
    → (int_lt (cast_signed w32 (high_of low n)) (cast_signed w32 low) ≡ false) × ((high_of low n + (2 ^ 32 - low)) % 2 ^ 32 + 1 ≡ n)
high_count low n p q e =
    let o : from_least low ≤ from_least (high_of low n) = omega arith in
    (signed_order (high_of low n) low (omega arith) p ∙ le-ltb _ _ o, omega arith)
