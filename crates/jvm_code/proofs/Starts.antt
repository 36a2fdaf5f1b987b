-- Looking for an offset among ascending ones, by halving.
use Rattle.std.proofs.Common.{◌≡◌, ℕ, ℤ, ◌+◌, ◌<◌, ◌≤◌, true, false, List, length, get_or, sym, ap, subst, ◌∙◌, arith, inl, inr}
use Rattle.std.specs.Prelude.{◌==◌, map}
use Rattle.std.specs.List.{list_any, list_all}
use Rattle.std.specs.List.Sorted.{IsStrictlyIncreasing}
use Rattle.std.proofs.lemmas.Grind.{get_or_default_zero}
use Rattle.std.proofs.lemmas.Bool.{cases_lt}
use Rattle.std.proofs.lemmas.Bool.Decides.{nat_tests}
use Rattle.std.proofs.lemmas.List.{length-map, get_or-map}
use Rattle.std.proofs.lemmas.List.Folds.{list_any_at, list_any_none, list_all_at}
use Rattle.std.proofs.lemmas.List.Kept.{AllPairs-from_increasing}
use Rattle.jvm_code_instructions.specs.declared.instr.Instr.{Instr}
use Rattle.jvm_code.specs.Decoding.{at_row, rows, starts_of, stands}
use Rattle.jvm_code_instructions.specs.Table.{Row, pair_of}

pub length_starts : (code : List (ℕ × Instr)) → length (starts_of (rows code)) ≡ length code
length_starts code = length-map (rows code) (λ i. i.0) ∙ length-map code _

pub start_at : (code : List (ℕ × Instr)) (i : ℕ) (d : ℕ × Instr) → i < length code → get_or (starts_of (rows code)) i 0 ≡ (get_or code i d).0
start_at code i d lt = get_or-map (λ i. i.0) (rows code) i (at_row d) 0 (omega (arith, length-map code at_row)) ∙ ap (λ (x : ℕ × Row). x.0) (get_or-map at_row code i d (at_row d) lt)

-- what the halves leave out
pub record Outside (starts : List ℕ) (target low high : ℕ) : Type 0 where
  pub ordered : low ≤ high
  pub within : high ≤ length starts
  pub below : (i : ℕ) → i < low → get_or starts i 0 < target
  pub above : (i : ℕ) → high ≤ i → i < length starts → target < get_or starts i 0

pub outside_at_first : (starts : List ℕ) (target n : ℕ) → n ≡ length starts → Outside starts target 0 n
outside_at_first starts target n is = record { ordered = omega arith; within = omega arith; below = λ i lt. absurd (omega arith); above = λ i ge lt. absurd (omega arith) }

pub outside_below : (starts : List ℕ) (target low high middle : ℕ) → IsStrictlyIncreasing starts → Outside starts target low high → low ≤ middle → middle < high → get_or starts middle 0 < target → Outside starts target (middle + 1) high
outside_below starts target low high middle up o le lt h = record {
  ordered = omega arith;
  within = o.within;
  below = λ i k. elim (cases_lt i middle) [ inl less ↦ omega (arith, AllPairs-from_increasing starts up i middle 0 less (omega (arith, o.within))) | inr more ↦ (let e : i ≡ middle = omega arith in subst (λ (j : ℕ). get_or starts j 0 < target) (sym e) h) ];
  above = o.above;
}

pub outside_above : (starts : List ℕ) (target low high middle : ℕ) → IsStrictlyIncreasing starts → Outside starts target low high → low ≤ middle → middle < high → target < get_or starts middle 0 → Outside starts target low middle
outside_above starts target low high middle up o le lt h = record {
  ordered = le;
  within = omega (arith, o.within);
  below = o.below;
  above = λ i ge k. elim (cases_lt middle i) [ inl less ↦ omega (arith, AllPairs-from_increasing starts up middle i 0 less k) | inr more ↦ (let e : i ≡ middle = omega arith in subst (λ (j : ℕ). target < get_or starts j 0) (sym e) h) ];
}

differs : (s t : ℕ) → s < t → (s == t) ≡ false
differs s t lt = grind (arith, nat_tests)

differs' : (s t : ℕ) → t < s → (s == t) ≡ false
differs' s t lt = grind (arith, nat_tests)

same : (s t : ℕ) → s ≡ t → (s == t) ≡ true
same s t e = grind (arith, nat_tests)

pub found_none : (starts : List ℕ) (target low high : ℕ) → Outside starts target low high → high ≤ low → list_any (λ s. s == target) starts ≡ false
found_none starts target low high o le = list_any_none (λ s. s == target) starts
    (λ i d lt. elim (cases_lt i low) [
      | inl less ↦ differs (get_or starts i d) target (rw (get_or_default_zero starts i d lt) (o.below i less))
      | inr more ↦ differs' (get_or starts i d) target (rw (get_or_default_zero starts i d lt) (o.above i (omega arith) lt))
    ])

pub found_here : (starts : List ℕ) (target i : ℕ) → i < length starts → get_or starts i 0 ≡ target → list_any (λ s. s == target) starts ≡ true
found_here starts target i lt e = list_any_at (λ s. s == target) starts i 0 lt (same (get_or starts i 0) target e)

pub pair_fails : (starts : List ℕ) (at : ℕ) (pairs : List (ℤ × ℕ)) (i : ℕ) (d : ℤ × ℕ) → i < length pairs → stands starts 2147483648 at (get_or pairs i d).1 ≡ false
    → list_all (λ p. stands starts 2147483648 at p.1) (map pair_of pairs) ≡ false
pair_fails starts at pairs i d lt bad =
    list_all_at (λ p. stands starts 2147483648 at p.1) (map pair_of pairs) i (pair_of d) (omega (arith, length-map pairs pair_of))
    (ap (λ (p : ℕ × ℕ). stands starts 2147483648 at p.1) (get_or-map pair_of pairs i d (pair_of d) lt) ∙ bad)
