-- Passing over entries one by one, and taking steps one by one.
use Rattle.std.proofs.Common.{◌≡◌, ℕ, zero, suc, ◌-◌, ◌<◌, List, [], ◌∷◌, ◌++◌, length, Some, None, refl, sym, ap, ◌∙◌, append_assoc, arith}
use Rattle.std.specs.Prelude.{option_and_then}
use Rattle.std.proofs.lemmas.List.{append-nil, length-append}
use Rattle.kt_base.specs.declared.stack_code.Plain.{Plain}
use Rattle.jvm_class_first.specs.Finding.{behind_entry, behind_entries, step_front, with_next, steps_front}

pub none_there : (n : ℕ) (bytes : List ℕ) → 0 < n → behind_entry bytes ≡ None → behind_entries n bytes ≡ None
unfolding behind_entries
none_there zero bytes lt is = absurd (omega arith)
none_there (suc n) bytes lt is = ap (option_and_then (behind_entries n)) is

pub one_less : (n : ℕ) (bytes next : List ℕ) → 0 < n → behind_entry bytes ≡ Some next → behind_entries (n - 1) next ≡ behind_entries n bytes
unfolding behind_entries
one_less zero bytes next lt is = absurd (omega arith)
one_less (suc n) bytes next lt is =
    let less : suc n - 1 ≡ n = omega arith in
    ap (λ m. behind_entries m next) less ∙ sym (ap (option_and_then (behind_entries n)) is)

pub none_left : (n : ℕ) (bytes : List ℕ) → n ≡ 0 → behind_entries n bytes ≡ Some bytes
unfolding behind_entries
none_left zero bytes is = refl
none_left (suc n) bytes is = absurd (omega (arith, is))

-- a step more is taken
pub step_taken : (n : ℕ) (pool bytes next : List ℕ) (done : List Plain) (step : Plain) → length done < n → step_front pool bytes ≡ Some (step, next)
    → (done ++ step ∷ []) ++ steps_front (n - length (done ++ step ∷ [])) pool next ≡ done ++ steps_front (n - length done) pool bytes
unfolding steps_front
step_taken n pool bytes next done step lt is =
    let left : ℕ = n - suc (length done) in
    let before : n - length done ≡ suc left = omega arith in
    let after : n - length (done ++ step ∷ []) ≡ left = omega (arith, length-append done (step ∷ [])) in
    append_assoc done (step ∷ []) (steps_front (n - length (done ++ step ∷ [])) pool next)
    ∙ ap (λ m. done ++ step ∷ steps_front m pool next) after
    ∙ ap (λ l. done ++ l) (sym (ap (λ m. steps_front m pool bytes) before ∙ ap (with_next (steps_front left pool)) is))

-- no step more is there
pub no_step : (n : ℕ) (pool bytes : List ℕ) (done : List Plain) → step_front pool bytes ≡ None → done ++ steps_front n pool bytes ≡ done
unfolding steps_front
no_step zero pool bytes done is = append-nil done
no_step (suc n) pool bytes done is = ap (λ l. done ++ l) (ap (with_next (steps_front n pool)) is) ∙ append-nil done

-- no step more may be taken
pub no_more : (n : ℕ) (pool bytes : List ℕ) (done : List Plain) → n ≡ 0 → done ++ steps_front n pool bytes ≡ done
unfolding steps_front
no_more zero pool bytes done is = append-nil done
no_more (suc n) pool bytes done is = absurd (omega (arith, is))
