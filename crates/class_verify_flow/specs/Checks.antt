-- What is found at one instruction, and in one pass over a method.
use Rattle.std.specs.Prelude.{◌≡◌, ℕ, ◌<◌, Bool, true, false, Option, Some, None}
use Rattle.jvm_code_instructions.specs.declared.instr.Instr.{Instr}
use Rattle.class_linked.specs.declared.code.LinkedHandler.{LinkedHandler}
use Rattle.class_verify_rules.specs.Acts.{act}
use Rattle.class_verify_rules.specs.Bodies.{Body, instruction}
use Rattle.class_verify_rules.specs.Frames.{Frame, FrameFits, before, behind, declared, goes_on, targets}
use Rattle.class_verify_rules.specs.Typing.{Covers, Each, GoesOn, IsThere, IsTyped, Meets, WhereSome, caught}

-- an entry of the exception table, at an instruction with this frame
abbrev pub HandlerFits : Body → ℕ → Frame → LinkedHandler → Type 0
HandlerFits b at f h = Covers h at → WhereSome (declared b h.handler) (FrameFits b.program (caught f h))

-- the instruction is typed, and this is the frame behind it; or it isn't typed
abbrev pub Checked : Body → ℕ → ℕ × Instr → Frame → Bool → Frame → Type 0
Checked b place i f true g = IsTyped b place i.0 i.1 f × (g ≡ behind b i.0 (act i.1) f)
Checked b place i f false g = IsTyped b place i.0 i.1 f → ⊥

-- the instruction of a place has a frame, and is typed under it
abbrev pub TypedAt : Body → ℕ → Type 0
TypedAt b place = (i : ℕ × Instr) → instruction b place ≡ Some i → IsThere (before b place) (IsTyped b place i.0 i.1)

-- the instruction of a place is the first that isn't
abbrev pub MistypedFirst : Body → ℕ → Type 0
MistypedFirst b place = (TypedAt b place → ⊥) × ((k : ℕ) → k < place → TypedAt b k)

-- where an instruction leads, with the frame behind it
abbrev pub Leads : Body → ℕ → Instr → Frame → Type 0
Leads b place i f = Each (targets (act i)) (λ to. Meets b to f) × (goes_on (act i) ≡ true → GoesOn b place f)

abbrev pub when : {A : Type 0} → Bool → A → Option A
when true a = Some a
when false a = None
