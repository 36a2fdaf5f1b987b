-- What verified classes have, class by class, method by method, place by place.
use Rattle.std.specs.Prelude.{◌≡◌, ℕ, ◌≤◌, Some}
use Rattle.jvm_code_instructions.specs.declared.instr.Instr.{Instr}
use Rattle.class_linked.specs.Numbers.{first_file_class}
use Rattle.class_linked.specs.declared.classes.Linked.{Linked}
use Rattle.class_linked.specs.declared.classes.LinkedClass.{LinkedClass}
use Rattle.class_verify_rules.specs.Kinds.{class_at}
use Rattle.class_verify_rules.specs.Bodies.{Body, body_at, instruction}
use Rattle.class_verify_rules.specs.Typing.{Each}
use Rattle.class_verify_rules.specs.Verified.{BodyStands, ClassStands, FrameStands, HandlerStands, InstructionStands, MethodStands}

-- a method with code: its start, its exception table, its frames, and of each instruction the frame before it, under
-- which it is typed, and the turn rule
pub record BodyIsFine (b : Body) : Type 0 where
  pub whole : BodyStands b
  pub handlers : Each b.code.handlers (HandlerStands b)
  pub frames : Each b.code.frames (FrameStands b)
  pub instructions : (place : ℕ) (i : ℕ × Instr) → instruction b place ≡ Some i → InstructionStands b place i

pub record ClassIsFine (p : Linked) (c : ℕ) (class : LinkedClass) : Type 0 where
  pub itself : ClassStands p class
  pub methods : Each class.methods (MethodStands p class)
  pub bodies : (k : ℕ) (b : Body) → body_at p c k ≡ Some b → BodyIsFine b

-- each class of a class file
abbrev pub AreFine : Linked → Type 0
AreFine p = (c : ℕ) (class : LinkedClass) → first_file_class ≤ c → class_at p c ≡ Some class → ClassIsFine p c class
