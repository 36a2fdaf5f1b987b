-- Where small classes are rejected.
use Rattle.std.proofs.Common.{ℕ, zero, suc, ◌≡◌, ◌≢◌, ◌<◌, ◌≤◌, refl, sym, ap, subst, ◌∙◌, true, false, List, [], ◌∷◌, Option, Some, None, arith, lit≤, lit<}
use Rattle.std.specs.Prelude.{slice_get}
use Rattle.jvm_code_opcodes.specs.declared.opcodes.StackOp.TheVariants.{Pop}
use Rattle.jvm_code_instructions.specs.declared.instr.Instr.{Instr}
use Rattle.jvm_code_instructions.specs.declared.instr.Instr.TheVariants as instr
use Rattle.jvm_class_types.specs.declared.flags.ClassFlags.TheVariants as class_flag
use Rattle.jvm_class_types.specs.declared.flags.MethodFlags.TheVariants as flag
use Rattle.class_linked.specs.declared.methods.Role.TheVariants as role
use Rattle.class_linked.specs.declared.methods.LinkedMethod.{LinkedMethod}
use Rattle.class_linked.specs.declared.classes.Linked.{Linked}
use Rattle.class_verify_rules.specs.Frames.{Frame, before, entry}
use Rattle.class_verify_rules.specs.Bodies.{Body, instruction}
use Rattle.class_verify_rules.specs.Typing.{IsTyped}
use Rattle.class_verify_rules.specs.Turns.{Early, IsTimed, Start}
use Rattle.class_verify_rules.specs.Verified.{BodyKeeps, BodyStands, ClassStands, InstructionStands, IsRejected, Keeps, MethodStands}
use Rattle.class_verify_rules.specs.Examples.{AreRejected, example, main_class, main_method, return, tick, ticked}

-- ---- an instruction's offset, and what it is

starts : Option (ℕ × Instr) → ℕ
starts None = 0
starts (Some i) = i.0

what : Option (ℕ × Instr) → Instr
what None = tick
what (Some i) = i.1

abbrev pub placed : ℕ → Instr → ℕ × Instr
placed x i = (x, i)

pub same_start : (x y : ℕ) (i j : Instr) → Some (placed x i) ≡ Some (placed y j) → x ≡ y
unfolding starts
same_start x y i j e = ap starts e

pub same_instruction : (x y : ℕ) (i j : Instr) → Some (placed x i) ≡ Some (placed y j) → i ≡ j
unfolding what
same_instruction x y i j e = ap what e

pub not_none : {A : Type 0} (a : A) → None ≡ Some a → ⊥
not_none a e = cc

pub not_interface : class_flag.Open ≡ class_flag.Interface → ⊥
not_interface e = cc

pub not_abstract : flag.Static ≡ flag.Abstract → ⊥
not_abstract e = cc

-- ---- what all of them keep

pub class_stands : (code : List (ℕ × Instr)) → ClassStands (example code) (main_class code)
class_stands code = record {
  above = ((λ e. cc), (λ e. cc));
  interfaces = λ k x h. absurd (not_none x h);
  fields = λ e. refl;
}

class_keeps : (code : List (ℕ × Instr)) (m o : ℕ) → m < 1 → Keeps (example code) 36 m o
class_keeps code zero o lt = λ e. class_stands code
class_keeps code (suc m) o lt = absurd (omega arith)

rejected : (code : List (ℕ × Instr)) (at : ℕ) → (Keeps (example code) 36 1 at → ⊥) → ((o : ℕ) → o < at → Keeps (example code) 36 1 o) → IsRejected (example code) 36 1 at
rejected code at fails before = record {
  file = omega arith;
  fails = fails;
  classes = λ d m o le lt. absurd (omega arith);
  methods = class_keeps code;
  offsets = before;
}

pub not_constructor : role.Ordinary ≡ role.Constructor → ⊥
not_constructor e = cc

pub not_resumption : role.Ordinary ≡ role.Resumption → ⊥
not_resumption e = cc

pub false_true : false ≡ true → ⊥
false_true e = cc

-- ---- a return at the start

return_fails : Keeps (example ((0, return) ∷ [])) 36 1 0 → ⊥
return_fails k = (k.1.instructions 0 return refl).1.late refl (λ f. not_constructor f.0) not_resumption Start

-- ---- a tick at the start

abbrev pub body : List (ℕ × Instr) → Body
body code = record {
  program = example code;
  class = 36;
  constants = (main_class code).constants;
  method = main_method code;
  code = record { max_stack = 1; max_locals = 0; instructions = code; handlers = []; frames = [] };
}

module _ (i : Instr) (end : ℕ) (later : 3 < end) where
  tick_kept : InstructionStands (body (ticked i end)) 0 (0, tick)
  unfolding before
  tick_kept = (
    record {
      operands = tt;
      also = (refl, not_constructor);
      height = lit≤ tt;
      jumps = λ k x h. absurd (not_none x h);
      on = λ e. tt;
      handlers = λ k x h. absurd (not_none x h);
    },
    record {
      back = λ k x h. absurd (not_none x h);
      late = λ e f g h. false_true e;
      fixed = λ f. absurd (not_constructor f.0);
      makes_one = λ e. absurd (false_true e);
      resumes_one = λ e. absurd (false_true e);
    },
  )

  tick_stands : (place : ℕ) (j : Instr) → instruction (body (ticked i end)) place ≡ Some (0, j) → InstructionStands (body (ticked i end)) place (0, j)
  tick_stands zero j e = subst (λ x. InstructionStands (body (ticked i end)) 0 (0, x)) (same_instruction 0 0 tick j e) tick_kept
  tick_stands (suc zero) j e = let q : 3 ≡ 0 = same_start 3 0 i j e in absurd (omega (arith, q))
  tick_stands (suc (suc zero)) j e = let q : end ≡ 0 = same_start end 0 return j e in absurd (omega (arith, q, later))
  tick_stands (suc (suc (suc place))) j e = absurd (not_none (0, j) e)

  none_starts : (o : ℕ) → 0 < o → o < 3 → (place : ℕ) (j : Instr) → instruction (body (ticked i end)) place ≡ Some (o, j) → InstructionStands (body (ticked i end)) place (o, j)
  none_starts o some few zero j e = let q : 0 ≡ o = same_start 0 o tick j e in absurd (omega (arith, q, some))
  none_starts o some few (suc zero) j e = let q : 3 ≡ o = same_start 3 o i j e in absurd (omega (arith, q, few))
  none_starts o some few (suc (suc zero)) j e = let q : end ≡ o = same_start end o return j e in absurd (omega (arith, q, later, few))
  none_starts o some few (suc (suc (suc place))) j e = absurd (not_none (o, j) e)

  method_stands : MethodStands (example (ticked i end)) (main_class (ticked i end)) (main_method (ticked i end))
  method_stands = record {
    constructor = λ e. absurd (not_constructor e);
    interface = λ e. let x : class_flag.Open ≡ class_flag.Interface = e in absurd (not_interface x);
    code = λ e. absurd (not_none _ (sym e));
    no_code = λ e. absurd (not_abstract e);
  }

  kept_before : (o : ℕ) → o < 3 → Keeps (example (ticked i end)) 36 1 o
  kept_before zero lt = (
    λ e. method_stands,
    record {
      instructions = tick_stands;
      handlers = λ k x h. absurd (not_none x h);
      frames = λ k x h. absurd (not_none x h);
      whole = λ e. record { some = tt; room = lit≤ tt; ascending = (lit≤ tt, (lit≤ tt, (omega (arith, later), tt))); in_order = tt };
    },
  )
  kept_before (suc o) lt = (
    λ e. absurd (omega arith),
    record {
      instructions = none_starts (suc o) (omega arith) lt;
      handlers = λ k x h. absurd (not_none x h);
      frames = λ k x h. absurd (not_none x h);
      whole = λ e. absurd (omega arith);
    },
  )

pop_fails : Keeps (example (ticked (instr.Stack Pop) 4)) 36 1 3 → ⊥
unfolding before
pop_fails k = (k.1.instructions 1 (instr.Stack Pop) refl).0.also

goto_fails : Keeps (example (ticked (instr.Goto 3) 6)) 36 1 3 → ⊥
unfolding before
goto_fails k = ((k.1.instructions 1 (instr.Goto 3) refl).0.jumps 0 3 refl).1

pub are_rejected : AreRejected
are_rejected = (
  rejected ((0, return) ∷ []) 0 return_fails (λ o lt. absurd (omega arith)),
  rejected (ticked (instr.Stack Pop) 4) 3 pop_fails (kept_before (instr.Stack Pop) 4 (lit< tt)),
  rejected (ticked (instr.Goto 3) 6) 3 goto_fails (kept_before (instr.Goto 3) 6 (lit< tt)),
)
