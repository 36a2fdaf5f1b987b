-- A step over one instruction.
use Rattle.std.specs.Prelude.{◌≡◌, ℕ, Bool, true, false, List}
use Rattle.class_verify_rules.specs.Kinds.{TopFits}
use Rattle.class_verify_rules.specs.Acts.{Act}
use Rattle.class_verify_rules.specs.Bodies.{Body}
use Rattle.class_verify_rules.specs.Frames.{Frame, behind, takes}
use Rattle.class_verify_rules.specs.Typing.{Also}
use Rattle.jvm_class_types.specs.declared.flags.MethodFlags.TheVariants as flag
use Rattle.class_linked.specs.declared.methods.LinkedMethod.{LinkedMethod}
use Rattle.class_linked.specs.declared.methods.Role.TheVariants as role
use Rattle.class_linked.specs.declared.constants.MethodMention.{MethodMention}
use Rattle.class_linked.specs.declared.kinds.Kind.{Kind}
use Rattle.class_linked.specs.declared.kinds.Kind.TheVariants.{Object, FreshThis}

-- the frame has the operands, and what else the instruction asks
pub record Allows (b : Body) (at : ℕ) (a : Act) (f : Frame) : Type 0 where
  pub operands : TopFits b.program (takes b a) f.stack
  pub also : Also b at a f

-- the frame before it allows it, and this is the frame behind it; or it doesn't allow it
abbrev pub Steps : Body → ℕ → Act → Frame → Bool → Frame → Type 0
Steps b at a f true g = Allows b at a f × (g ≡ behind b at a f)
Steps b at a f false g = Allows b at a f → ⊥

-- a method that *invokestatic* may call
abbrev pub IsStatic : LinkedMethod → Type 0
IsStatic m = (m.flags ≡ flag.Static) × (m.role ≡ role.Constructor → ⊥)

-- a method that *invokespecial* may call
abbrev pub IsInitialized : LinkedMethod → MethodMention → Type 0
IsInitialized m mention = (m.role ≡ role.Constructor) × (m.flags ≡ flag.Instance) × (mention.named ≡ mention.owner)

-- what an object of a class is once its constructor returned
abbrev pub made_kind : Body → Kind → ℕ → Kind
made_kind b FreshThis c = Object b.class
made_kind b k c = Object c
