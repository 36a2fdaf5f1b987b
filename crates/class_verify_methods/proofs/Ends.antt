-- Where code ends.
use Rattle.std.proofs.Common.{◌≡◌, ℕ, zero, suc, ◌-◌, ◌<◌, List, [], ◌∷◌, length, Some, refl, ap, subst, arith}
use Rattle.std.specs.Prelude.{slice_get}
use Rattle.jvm_code_instructions.specs.declared.instr.Instr.{Instr}
use Rattle.class_verify_rules.specs.Bodies.{end_of}
use Rattle.class_verify_methods.specs.Faults.{end_of_one}

pub end_of_none : (is : List (ℕ × Instr)) → length is ≡ 0 → end_of is ≡ 0
end_of_none [] e = refl
end_of_none (i ∷ is) e = absurd (omega (arith, e))

end_at : (is : List (ℕ × Instr)) (n : ℕ) (i : ℕ × Instr) → length is ≡ suc n → slice_get is n ≡ Some i → end_of is ≡ end_of_one i
end_at [] n i l e = absurd (omega (arith, l))
end_at (j ∷ []) zero i l e = let same : j ≡ i = cc in ap end_of_one same
end_at (j ∷ []) (suc n) i l e = absurd (omega (arith, l))
end_at (j ∷ k ∷ is) zero i l e = absurd (omega (arith, l))
end_at (j ∷ k ∷ is) (suc n) i l e = end_at (k ∷ is) n i (omega (arith, l)) e

pub end_of_last : (is : List (ℕ × Instr)) (i : ℕ × Instr) → (length is ≡ 0 → ⊥) → slice_get is (length is - 1) ≡ Some i → end_of is ≡ end_of_one i
end_of_last [] i some e = absurd (some refl)
end_of_last (j ∷ is) i some e =
    let q : length (j ∷ is) - 1 ≡ length is = omega arith in
    end_at (j ∷ is) (length is) i refl (subst (λ n. slice_get (j ∷ is) n ≡ Some i) q e)
