-- How many bytes operands take, and which numbers ascend.
use Rattle.std.proofs.Common.{◌≡◌, ℕ, ◌+◌, ◌-◌, ◌*◌, ◌%◌, ◌^◌, ◌<◌, ◌≤◌, List, [], ◌∷◌, ◌++◌, length, length-append, refl, ap, ◌∙◌, arith}
use Rattle.std.specs.List.{flat_map}
use Rattle.std.specs.Int.{w32, to_be_bytes}
use Rattle.std.proofs.lemmas.List.{length-replicate}
use Rattle.std.proofs.lemmas.List.Concat.{flat_map-cons}
use Rattle.jvm_code_instructions.specs.Table.{Table, Lookup}
use Rattle.jvm_code_instructions.specs.Spelling.{far_bytes, pair_bytes, padding, high_of, operand_bytes, Ascends, from_least}

far_length : (at : ℕ) (ts : List ℕ) → length (flat_map (far_bytes at) ts) ≡ 4 * length ts
far_length at [] = refl
far_length at (t ∷ ts) = ap length (flat_map-cons (far_bytes at) t ts) ∙ length-append (far_bytes at t) (flat_map (far_bytes at) ts) ∙ omega (arith, far_length at ts)

pair_length : (at : ℕ) (ps : List (ℕ × ℕ)) → length (flat_map (pair_bytes at) ps) ≡ 8 * length ps
pair_length at [] = refl
pair_length at (p ∷ ps) = ap length (flat_map-cons (pair_bytes at) p ps) ∙ length-append (pair_bytes at p) (flat_map (pair_bytes at) ps) ∙ omega (arith, pair_length at ps)

padding_length : (at : ℕ) → length (padding at) ≡ 3 - at % 4
padding_length at = length-replicate (3 - at % 4) 0

pub table_length : (at default low : ℕ) (ts : List ℕ) → length (operand_bytes at (Table default low ts)) ≡ 3 - at % 4 + 12 + 4 * length ts
table_length at default low ts =
    length-append (padding at) (far_bytes at default ++ (to_be_bytes w32 low ++ (to_be_bytes w32 (high_of low (length ts)) ++ flat_map (far_bytes at) ts)))
    ∙ omega (arith, padding_length at, far_length at ts)

pub lookup_length : (at default : ℕ) (ps : List (ℕ × ℕ)) → length (operand_bytes at (Lookup default ps)) ≡ 3 - at % 4 + 8 + 8 * length ps
lookup_length at default ps =
    length-append (padding at) (far_bytes at default ++ (to_be_bytes w32 (length ps % 2 ^ 32) ++ flat_map (pair_bytes at) ps))
    ∙ omega (arith, padding_length at, pair_length at ps)

-- ---- the loop over pairs

-- what a loop still has to test, of the whole
pub record Same (whole part : Type 0) : Type 0 where
  pub forth : whole → part
  pub back : part → whole

pub one_ascends : (first : ℕ) (p : ℕ × ℕ) (ps : List (ℕ × ℕ)) (whole : Type 0) → Same whole (Ascends first (p ∷ ps)) → p.0 < 2 ^ 32 → p.1 < 2 ^ 32 → first ≤ from_least p.0 → Same whole (Ascends (from_least p.0 + 1) ps)
one_ascends first p ps whole s h k a = record { forth = λ w. (s.forth w).3; back = λ f. s.back (h, k, a, f) }
