-- The frames of a pass.
use Rattle.std.proofs.Common.{◌≡◌, ℕ, zero, suc, ◌+◌, ◌<◌, ◌≤◌, Bool, true, false, List, length, Option, Some, None, refl, sym, ap, ◌∙◌, subst, arith}
use Rattle.std.specs.Prelude.{slice_get, if◌then◌else◌, IsTrue, ◌↔◌}
use Rattle.jvm_code_instructions.specs.declared.instr.Instr.{Instr}
use Rattle.class_verify_rules.specs.Acts.{act}
use Rattle.class_verify_rules.specs.Bodies.{Body, instruction}
use Rattle.class_verify_rules.specs.Frames.{Frame, before, behind, declared_at, entry, goes_on, left_by, or_else}
use Rattle.class_verify_rules.specs.Kinds.{units}
use Rattle.class_verify_rules.specs.Typing.{Each, IsThere, IsTyped}
use Rattle.class_verify_steps.specs.Stepping.{Allows}
use Rattle.class_verify_flow.specs.Checks.{HandlerFits, Leads, TypedAt, when}
use Rattle.class_verify_flow.proofs.Deciding.{refused}

pub before_start : (b : Body) → before b 0 ≡ or_else (declared_at b (instruction b 0)) (Some (entry b))
unfolding before
before_start b = refl

before_suc : (b : Body) (place : ℕ) → before b (suc place) ≡ or_else (declared_at b (instruction b (suc place))) (left_by b (instruction b place) (before b place))
unfolding before
before_suc b place = refl

when_if : {A : Type 0} (t : Bool) (a : A) → (if t then Some a else None) ≡ when t a
when_if true a = refl
when_if false a = refl

pub before_next : (b : Body) (place : ℕ) (i : ℕ × Instr) (f : Frame) → instruction b place ≡ Some i → before b place ≡ Some f → before b (place + 1) ≡ or_else (declared_at b (instruction b (place + 1))) (when (goes_on (act i.1)) (behind b i.0 (act i.1) f))
before_next b place i f here shaped =
    let e : suc place ≡ place + 1 = omega arith in
    subst (λ k. before b k ≡ or_else (declared_at b (instruction b k)) (when (goes_on (act i.1)) (behind b i.0 (act i.1) f))) e
    (before_suc b place ∙ (rw (here, shaped) (ap (or_else (declared_at b (instruction b (suc place)))) (when_if (goes_on (act i.1)) (behind b i.0 (act i.1) f)))))

pub no_frame : (b : Body) (place : ℕ) (i : ℕ × Instr) → instruction b place ≡ Some i → before b place ≡ None → TypedAt b place → ⊥
no_frame b place i here none h = subst (λ o. IsThere o (IsTyped b place i.0 i.1)) none (h i here)

pub not_typed : (b : Body) (place : ℕ) (i : ℕ × Instr) (f : Frame) → instruction b place ≡ Some i → before b place ≡ Some f → (IsTyped b place i.0 i.1 f → ⊥) → TypedAt b place → ⊥
not_typed b place i f here shaped never h = never (subst (λ o. IsThere o (IsTyped b place i.0 i.1)) shaped (h i here))

pub typed : (b : Body) (place : ℕ) (i : ℕ × Instr) (f : Frame) → instruction b place ≡ Some i → before b place ≡ Some f → IsTyped b place i.0 i.1 f → TypedAt b place
typed b place i f here shaped k j there =
    let same : i ≡ j = cc in
    subst (λ (i : ℕ × Instr). IsThere (before b place) (IsTyped b place i.0 i.1)) same (subst (λ o. IsThere o (IsTyped b place i.0 i.1)) (sym shaped) k)

-- ---- what is found at one instruction

pub not_led : (b : Body) (place : ℕ) (i : ℕ × Instr) (f g : Frame) (fine : Bool) → g ≡ behind b i.0 (act i.1) f → (IsTrue fine ↔ Leads b place i.1 g) → fine ≡ false → IsTyped b place i.0 i.1 f → ⊥
not_led b place i f g fine is h e t = refused fine h e (subst (λ g. Leads b place i.1 g) (sym is) (t.jumps, t.on))

pub all_typed : (b : Body) (place : ℕ) (i : ℕ × Instr) (f g : Frame) → g ≡ behind b i.0 (act i.1) f → Allows b i.0 (act i.1) f → units g.stack ≤ b.code.max_stack → Leads b place i.1 g → Each b.code.handlers (HandlerFits b i.0 f) → IsTyped b place i.0 i.1 f
all_typed b place i f g is allows height leads handlers =
    let l = subst (λ g. Leads b place i.1 g) is leads in
    record {
      operands = allows.operands;
      also = allows.also;
      height = subst (λ (g : Frame). units g.stack ≤ b.code.max_stack) is height;
      jumps = l.0;
      on = l.1;
      handlers = handlers;
    }
