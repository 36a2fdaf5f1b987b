-- The first offset at which a rule fails.
use Rattle.std.specs.Prelude.{◌≡◌, ℕ, ◌<◌, ◌+◌, List, Option, Some, None, slice_get, length, leb, if◌then◌else◌, Bool, true, false}
use Rattle.jvm_code_instructions.specs.declared.instr.Instr.{Instr}
use Rattle.jvm_code_instructions.specs.Table.{row_of}
use Rattle.jvm_code_instructions.specs.Spelling.{row_bytes}
use Rattle.class_linked.specs.declared.kinds.Kind.{Kind}
use Rattle.class_linked.specs.declared.classes.Linked.{Linked}
use Rattle.class_linked.specs.declared.constants.Constant.{Constant}
use Rattle.class_linked.specs.declared.methods.LinkedMethod.{LinkedMethod}
use Rattle.class_linked.specs.declared.code.LinkedCode.{LinkedCode}
use Rattle.class_linked.specs.declared.code.LinkedFrame.{LinkedFrame}
use Rattle.class_linked.specs.declared.code.LinkedHandler.{LinkedHandler}
use Rattle.class_verify_rules.specs.Bodies.{Body, instruction}
use Rattle.class_verify_rules.specs.Verified.{FrameStands, HandlerStands, KindStands}

-- the least number for which something fails, where there is one
abbrev pub Least : (ℕ → Type 0) → Option ℕ → Type 0
Least P None = (at : ℕ) → P at
Least P (Some at) = (P at → ⊥) × ((o : ℕ) → o < at → P o)

-- of each instruction that starts at an offset
abbrev pub Instructions : Body → (ℕ → ℕ × Instr → Type 0) → ℕ → Type 0
Instructions b T at = (place : ℕ) (i : Instr) → instruction b place ≡ Some (at, i) → T place (at, i)

-- the first so many entries of the exception table that begin at an offset
abbrev pub HandlersAt : Body → ℕ → ℕ → Type 0
HandlersAt b count at =
    (k : ℕ) → k < count → (h : LinkedHandler) → slice_get b.code.handlers k ≡ Some h → h.start ≡ at → HandlerStands b h

-- the first so many frames for an offset
abbrev pub FramesAt : Body → ℕ → ℕ → Type 0
FramesAt b count at =
    (k : ℕ) → k < count → (f : LinkedFrame) → slice_get b.code.frames k ≡ Some f → f.offset ≡ at → FrameStands b f

-- each kind of a list may stand in a frame
abbrev pub KindsStand : Body → List Kind → Type 0
KindsStand b ks = (k : ℕ) (x : Kind) → slice_get ks k ≡ Some x → KindStands b x

-- where an instruction ends
abbrev pub end_of_one : ℕ × Instr → ℕ
end_of_one i = i.0 + length (row_bytes i.0 (row_of i.1))

-- the lesser of two offsets, where there are any
abbrev pub less_of : Option ℕ → Option ℕ → Option ℕ
less_of None other = other
less_of (Some a) None = Some a
less_of (Some a) (Some b) = if leb a b then Some a else Some b

abbrev pub start_of : List ℕ → Option ℕ → Option ℕ
start_of starts None = None
start_of starts (Some place) = slice_get starts place

-- a method with its code
abbrev pub made_body : Linked → ℕ → List Constant → LinkedMethod → LinkedCode → Body
made_body p c constants m code = record { program = p; class = c; constants = constants; method = m; code = code }

-- with another offset where a test failed there
abbrev pub noted_of : Option ℕ → Bool → ℕ → Option ℕ
noted_of least true o = least
noted_of least false o = less_of least (Some o)
