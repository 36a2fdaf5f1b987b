-- The turn rule: each loop and each call charges a turn, so that code runs only so long on so many turns.
use Rattle.std.specs.Prelude.{◌≡◌, ◌≢◌, ℕ, zero, suc, ◌<◌, ◌≤◌, ◌&&◌, ◌==◌, not, Bool, true, false, List, Option, Some, None, slice_get}
use Rattle.jvm_code_opcodes.specs.declared.opcodes.FixedLoad.TheVariants.{Aload0, Aload1}
use Rattle.jvm_code_opcodes.specs.declared.opcodes.InvokeOp.{InvokeOp}
use Rattle.jvm_code_opcodes.specs.declared.opcodes.InvokeOp.TheVariants.{Invokevirtual, Invokespecial, Invokestatic}
use Rattle.jvm_code_opcodes.specs.declared.opcodes.ReturnOp.TheVariants.{Return}
use Rattle.jvm_code_instructions.specs.declared.instr.Instr.{Instr}
use Rattle.jvm_code_instructions.specs.declared.instr.Instr.TheVariants as instr
use Rattle.class_linked.specs.Numbers.{continuation_class, turn_class}
use Rattle.class_linked.specs.declared.constants.Constant.{Constant}
use Rattle.class_linked.specs.declared.constants.Constant.TheVariants as constant
use Rattle.class_linked.specs.declared.constants.MethodMention.{MethodMention}
use Rattle.class_linked.specs.declared.methods.LinkedMethod.{LinkedMethod}
use Rattle.class_linked.specs.declared.methods.Role.{Role}
use Rattle.class_linked.specs.declared.methods.Role.TheVariants as role
use Rattle.class_linked.specs.declared.code.LinkedHandler.{LinkedHandler}
use Rattle.class_verify_rules.specs.Kinds.{is_below}
use Rattle.class_verify_rules.specs.Acts.{act}
use Rattle.class_verify_rules.specs.Bodies.{Body, constant_at, instruction, interface_method_named, meant, method_named, made_by, starting_at, then_get}
use Rattle.class_verify_rules.specs.Frames.{goes_on, targets}
use Rattle.class_verify_rules.specs.Typing.{Covers, Each}

-- ---- ticks, calls and returns

-- a method of a class, by its place among those that the class declares
abbrev pub is_at : ℕ → ℕ → Option MethodMention → Bool
is_at class place None = false
is_at class place (Some m) = m.owner == class && m.place == place

-- `invokestatic kt/rt/Turn.tick()V`
abbrev pub is_tick : Body → Instr → Bool
is_tick b (instr.Invoke Invokestatic p) = is_at turn_class 0 (method_named (constant_at b p))
is_tick b _ = false

abbrev pub is_tick_at : Body → Option (ℕ × Instr) → Bool
is_tick_at b None = false
is_tick_at b (Some i) = is_tick b i.1

-- an instruction before which a tick is due
abbrev pub is_late : Body → Instr → Bool
is_late b (instr.Invoke op p) = not (is_tick b (instr.Invoke op p))
is_late b (instr.InvokeInterface p n) = true
is_late b (instr.Return op) = true
is_late b _ = false

-- ---- paths

-- from the instruction of one place to that of another
pub data Edge (b : Body) : ℕ → ℕ → Type 0 where
  On : {k : ℕ} {i : ℕ × Instr} → instruction b k ≡ Some i → goes_on (act i.1) ≡ true → Edge b k (suc k)
  Jump : {k j : ℕ} {i t : ℕ × Instr} (n : ℕ) → instruction b k ≡ Some i → slice_get (targets (act i.1)) n ≡ Some t.0 →
      instruction b j ≡ Some t → Edge b k j
  Caught : {k j : ℕ} {i t : ℕ × Instr} {h : LinkedHandler} (n : ℕ) → instruction b k ≡ Some i →
      slice_get b.code.handlers n ≡ Some h → Covers h i.0 → h.handler ≡ t.0 → instruction b j ≡ Some t → Edge b k j

-- some path leads there on which no tick was executed
pub data Early (b : Body) : ℕ → Type 0 where
  Start : Early b 0
  Follow : {k j : ℕ} → Early b k → is_tick_at b (instruction b k) ≡ false → Edge b k j → Early b j

-- ---- continuations

-- a class below that of continuations
abbrev pub is_continuation : Body → Option ℕ → Bool
is_continuation b None = false
is_continuation b (Some c) = is_below b.program c continuation_class

-- the constructor of such a class, which is fixed
abbrev pub IsFixed : Body → Type 0
IsFixed b = (b.method.role ≡ role.Constructor) × (is_continuation b (Some b.class) ≡ true)

-- the instruction at this place of it: `aload_0`, `aload_1`, the constructor above, `return`
abbrev pub is_fixed_at : Body → ℕ → Instr → Bool
is_fixed_at b zero (instr.LoadFixed Aload0) = true
is_fixed_at b (suc zero) (instr.LoadFixed Aload1) = true
is_fixed_at b (suc (suc zero)) (instr.Invoke Invokespecial p) =
    is_at continuation_class 0 (method_named (constant_at b p))
is_fixed_at b (suc (suc (suc zero))) (instr.Return Return) = true
is_fixed_at b place i = false

-- it makes a continuation
abbrev pub makes : Body → ℕ × Instr → Bool
makes b i = is_continuation b (made_by b (Some i))

abbrev pub is_resuming : Role → Bool
is_resuming role.Constructor = false
is_resuming role.Resumption = true
is_resuming role.Ordinary = false

abbrev pub is_resumption : Option LinkedMethod → Bool
is_resumption None = false
is_resumption (Some m) = is_resuming m.role

-- it calls `invokeSuspend`
abbrev pub resumes : Body → ℕ × Instr → Bool
resumes b (at, instr.Invoke op p) = is_resumption (then_get (method_named (constant_at b p)) (meant b.program))
resumes b (at, instr.InvokeInterface p n) =
    is_resumption (then_get (interface_method_named (constant_at b p)) (meant b.program))
resumes b _ = false

-- none of these stands before a place
abbrev pub IsFirst : Body → (ℕ × Instr → Bool) → ℕ → Type 0
IsFirst b test place = (k : ℕ) (i : ℕ × Instr) → k < place → instruction b k ≡ Some i → test i ≡ false

-- ---- the rule at one instruction

pub record IsTimed (b : Body) (place at : ℕ) (i : Instr) : Type 0 where
  -- a branch back lands on a tick
  pub back : Each (targets (act i)) (λ to. to ≤ at → is_tick_at b (starting_at b to) ≡ true)
  -- a call or a return comes behind a tick on each path, but for a fixed constructor and `invokeSuspend`
  pub late : is_late b i ≡ true → (IsFixed b → ⊥) → b.method.role ≢ role.Resumption → Early b place → ⊥
  pub fixed : IsFixed b → is_fixed_at b place i ≡ true
  -- a method makes one continuation at most, and calls `invokeSuspend` once at most; `invokeSuspend` does neither
  pub makes_one : makes b (at, i) ≡ true → IsFirst b (makes b) place × (b.method.role ≢ role.Resumption)
  pub resumes_one : resumes b (at, i) ≡ true → IsFirst b (resumes b) place × (b.method.role ≢ role.Resumption)
