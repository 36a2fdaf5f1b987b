-- A small class that is verified.
use Rattle.std.proofs.Common.{ℕ, zero, suc, ◌≡◌, ◌≢◌, ◌<◌, ◌≤◌, ◌⊎◌, inl, inr, refl, sym, subst, true, false, List, [], ◌∷◌, Option, Some, None, length, arith, lit≤}
use Rattle.std.specs.Prelude.{slice_get}
use Rattle.jvm_code_instructions.specs.declared.instr.Instr.{Instr}
use Rattle.class_linked.specs.declared.classes.LinkedClass.{LinkedClass}
use Rattle.class_verify_rules.specs.Frames.{before}
use Rattle.class_verify_rules.specs.Bodies.{instruction}
use Rattle.class_verify_rules.specs.Kinds.{class_at}
use Rattle.class_verify_rules.specs.Turns.{Early, Start, Follow, is_tick_at}
use Rattle.class_verify_rules.specs.Typing.{WhereSome}
use Rattle.class_verify_rules.specs.Verified.{BodyKeeps, InstructionStands, IsVerified, Keeps, MethodStands}
use Rattle.class_verify_rules.specs.Examples.{IsAccepted, example, main_class, main_method, return, shortest, tick}
use Rattle.class_verify_rules.proofs.Rejected.{body, class_stands, false_true, not_abstract, not_constructor, not_interface, not_none, same_instruction, same_start}

true_false : true ≡ false → ⊥
true_false e = cc

-- no place but the first is reached without a tick
only_start : {j : ℕ} → Early (body shortest) j → j ≡ 0
only_start Start = refl
only_start (Follow {k = k} e t edge) =
    let z : k ≡ 0 = only_start e in
    absurd (true_false (subst (λ x. is_tick_at (body shortest) (instruction (body shortest) x) ≡ false) z t))

tick_stands : InstructionStands (body shortest) 0 (0, tick)
unfolding before
tick_stands = (
  record {
    operands = tt;
    also = (refl, not_constructor);
    height = lit≤ tt;
    jumps = λ k x h. absurd (not_none x h);
    on = λ e. tt;
    handlers = λ k x h. absurd (not_none x h);
  },
  record {
    back = λ k x h. absurd (not_none x h);
    late = λ e f g h. false_true e;
    fixed = λ f. absurd (not_constructor f.0);
    makes_one = λ e. absurd (false_true e);
    resumes_one = λ e. absurd (false_true e);
  },
)

return_stands : InstructionStands (body shortest) 1 (3, return)
unfolding before
return_stands = (
  record {
    operands = tt;
    also = (refl, refl);
    height = lit≤ tt;
    jumps = λ k x h. absurd (not_none x h);
    on = λ e. absurd (false_true e);
    handlers = λ k x h. absurd (not_none x h);
  },
  record {
    back = λ k x h. absurd (not_none x h);
    late = λ e f g h. let q : 1 ≡ 0 = only_start h in omega (arith, q);
    fixed = λ f. absurd (not_constructor f.0);
    makes_one = λ e. absurd (false_true e);
    resumes_one = λ e. absurd (false_true e);
  },
)

each_stands : (at place : ℕ) (i : Instr) → instruction (body shortest) place ≡ Some (at, i) → InstructionStands (body shortest) place (at, i)
each_stands at zero i e =
    subst (λ x. InstructionStands (body shortest) 0 (x, i)) (same_start 0 at tick i e)
    (subst (λ x. InstructionStands (body shortest) 0 (0, x)) (same_instruction 0 at tick i e) tick_stands)
each_stands at (suc zero) i e =
    subst (λ x. InstructionStands (body shortest) 1 (x, i)) (same_start 3 at return i e)
    (subst (λ x. InstructionStands (body shortest) 1 (3, x)) (same_instruction 3 at return i e) return_stands)
each_stands at (suc (suc place)) i e = absurd (not_none (at, i) e)

body_keeps : (at : ℕ) → BodyKeeps (body shortest) at
body_keeps at = record {
  instructions = each_stands at;
  handlers = λ k x h. absurd (not_none x h);
  frames = λ k x h. absurd (not_none x h);
  whole = λ e. record { some = tt; room = lit≤ tt; ascending = (lit≤ tt, (lit≤ tt, tt)); in_order = tt };
}

method_stands : MethodStands (example shortest) (main_class shortest) (main_method shortest)
method_stands = record {
  constructor = λ e. absurd (not_constructor e);
  interface = λ e. absurd (not_interface e);
  code = λ e. absurd (not_none _ (sym e));
  no_code = λ e. absurd (not_abstract e);
}

main_keeps : (n at : ℕ) → Keeps (example shortest) 36 n at
main_keeps zero at = λ e. class_stands shortest
main_keeps (suc zero) at = (λ e. method_stands, body_keeps at)
main_keeps (suc (suc n)) at = tt

-- no class stands behind it
past : (xs : List LinkedClass) (c : ℕ) → length xs ≤ c → slice_get xs c ≡ None
past [] c le = refl
past (x ∷ xs) zero le = absurd (omega arith)
past (x ∷ xs) (suc c) le = past xs c (omega arith)

nothing : {A : Type 0} (o : Option A) (P : A → Type 0) → o ≡ None → WhereSome o P
nothing None P e = tt
nothing (Some a) P e = absurd (not_none a (sym e))

none_keeps : (c n at : ℕ) → class_at (example shortest) c ≡ None → Keeps (example shortest) c n at
none_keeps c zero at e = λ z. nothing (class_at (example shortest) c) _ e
none_keeps c (suc n) at e = nothing (class_at (example shortest) c) _ e

first_or_past : (c : ℕ) → 36 ≤ c → (36 ≡ c) ⊎ (37 ≤ c)
first_or_past c le = elim (compared 36 c le) [ inl e ↦ inl e | inr lt ↦ inr (omega arith) ]
  where
    compared : (a b : ℕ) → a ≤ b → (a ≡ b) ⊎ (a < b)
    compared zero zero h = inl refl
    compared zero (suc b) h = inr (omega arith)
    compared (suc a) zero h = absurd (omega arith)
    compared (suc a) (suc b) h = elim (compared a b (omega arith)) [ inl e ↦ inl (omega arith) | inr lt ↦ inr (omega arith) ]

pub accepted : IsAccepted
accepted c n at le = elim (first_or_past c le) [
  | inl e ↦ subst (λ x. Keeps (example shortest) x n at) e (main_keeps n at)
  | inr lt ↦ none_keeps c n at (past (example shortest).classes c lt)
]
