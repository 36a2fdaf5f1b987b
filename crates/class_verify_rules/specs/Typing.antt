-- What an instruction asks of the frame before it (JVMS SE 8 §4.10.1.9).
use Rattle.std.specs.Prelude.{◌≡◌, ℕ, suc, ◌<◌, ◌≤◌, ◌⊎◌, ◌==◌, Bool, true, false, List, [], ◌∷◌, Option, Some, None, length, slice_get}
use Rattle.std.specs.List.{list_any}
use Rattle.jvm_code_opcodes.specs.declared.opcodes.InvokeOp.{InvokeOp}
use Rattle.jvm_code_opcodes.specs.declared.opcodes.InvokeOp.TheVariants.{Invokevirtual, Invokespecial, Invokestatic}
use Rattle.jvm_code_instructions.specs.declared.instr.Instr.{Instr}
use Rattle.jvm_class_types.specs.declared.flags.ClassFlags.{ClassFlags}
use Rattle.jvm_class_types.specs.declared.flags.ClassFlags.TheVariants as class_flag
use Rattle.jvm_class_types.specs.declared.flags.MethodFlags.{MethodFlags}
use Rattle.jvm_class_types.specs.declared.flags.MethodFlags.TheVariants as flag
use Rattle.class_linked.specs.Numbers.{object_class}
use Rattle.class_linked.specs.declared.kinds.Kind.{Kind}
use Rattle.class_linked.specs.declared.kinds.Kind.TheVariants.{Int, Long, Object, Fresh, FreshThis}
use Rattle.class_linked.specs.declared.constants.Constant.{Constant}
use Rattle.class_linked.specs.declared.constants.Constant.TheVariants as constant
use Rattle.class_linked.specs.declared.constants.FieldMention.{FieldMention}
use Rattle.class_linked.specs.declared.constants.MethodMention.{MethodMention}
use Rattle.class_linked.specs.declared.methods.LinkedMethod.{LinkedMethod}
use Rattle.class_linked.specs.declared.methods.Role.{Role}
use Rattle.class_linked.specs.declared.methods.Role.TheVariants as role
use Rattle.class_linked.specs.declared.code.LinkedHandler.{LinkedHandler}
use Rattle.class_linked.specs.declared.classes.Linked.{Linked}
use Rattle.class_linked.specs.declared.classes.LinkedClass.{LinkedClass}
use Rattle.class_verify_rules.specs.Kinds.{TopFits, class_at, fits, is_array, is_array_class, is_fresh, is_reference, kind_of, units}
use Rattle.class_verify_rules.specs.Moves.{moved}
use Rattle.class_verify_rules.specs.Acts.{Act, Operate, Push, PushLong, Load, Store, Change, Move, Length, Go, Leave, GetField, PutField, Call, CallInterface, Make, MakeObjects, Cast, Test, Refused, Sort, Ints, Longs, References, act}
use Rattle.class_verify_rules.specs.Bodies.{Body, class_named, constant_at, field_named, interface_method_named, instruction, made_at, meant, method_named, HasInstruction}
use Rattle.class_verify_rules.specs.Frames.{Frame, FrameFits, behind, built, declared, goes_on, size_of, stack_behind, takes, targets, top_of}

-- where there is a value, it is so
abbrev pub WhereSome : {A : Type 0} → Option A → (A → Type 0) → Type 0
WhereSome None P = Unit {0}
WhereSome (Some a) P = P a

-- there is a value, and it is so
abbrev pub IsThere : {A : Type 0} → Option A → (A → Type 0) → Type 0
IsThere None P = ⊥
IsThere (Some a) P = P a

-- each of a list is so
abbrev pub Each : {A : Type 0} → List A → (A → Type 0) → Type 0
Each {A} xs P = (k : ℕ) (x : A) → slice_get xs k ≡ Some x → P x

-- ---- fields, methods and classes that are mentioned

-- a final field is stored in a constructor of the class that declares it, and nowhere else
abbrev pub MayStore : Body → FieldMention → Type 0
MayStore b f = f.is_final ≡ true → (b.method.role ≡ role.Constructor) × (b.class ≡ f.owner)

-- the constructor of a class may be called on it: the object is of that class, or it is the receiver of a constructor
-- of that class or of the class directly below
abbrev pub Builds : Body → Kind → ℕ → Type 0
Builds b (Fresh at) c = made_at b at ≡ Some c
Builds b FreshThis c = (b.class ≡ c) ⊎ IsThere (class_at b.program b.class) (λ owner. owner.above ≡ Some c)
Builds b k c = ⊥

abbrev pub IsVirtual : LinkedMethod → Type 0
IsVirtual m = (m.flags ≡ flag.Static → ⊥) × (m.role ≡ role.Constructor → ⊥)

abbrev pub MayCall : Body → InvokeOp → Option Kind → MethodMention → LinkedMethod → Type 0
MayCall b Invokevirtual object m callee = IsVirtual callee
MayCall b Invokestatic object m callee = (callee.flags ≡ flag.Static) × (callee.role ≡ role.Constructor → ⊥)
MayCall b Invokespecial object m callee =
    (callee.role ≡ role.Constructor) × (callee.flags ≡ flag.Instance) × (m.named ≡ m.owner)
    × IsThere object (λ k. Builds b k m.owner)

-- the method is there, and may be called so
abbrev pub IsCallable : Body → Option MethodMention → (MethodMention → LinkedMethod → Type 0) → Type 0
IsCallable b mention P = IsThere mention (λ m. IsThere (meant b.program m) (P m))

-- objects are made of classes that are neither abstract nor interfaces
abbrev pub IsConcrete : ClassFlags → Type 0
IsConcrete class_flag.Open = Unit {0}
IsConcrete class_flag.Final = Unit {0}
IsConcrete class_flag.Abstract = ⊥
IsConcrete class_flag.Interface = ⊥

abbrev pub MayBeMade : Linked → ℕ → Type 0
MayBeMade p c = (is_array_class c ≡ false) × IsThere (class_at p c) (λ class. IsConcrete class.flags)

-- ---- local variables

abbrev pub IsOfSort : Sort → Option Kind → Type 0
IsOfSort Ints o = o ≡ Some Int
IsOfSort Longs o = o ≡ Some Long
IsOfSort References o = IsThere o (λ k. is_reference k ≡ true)

-- there is room for it, and what is stored is a reference where that is stored
abbrev pub MayPut : Sort → ℕ → Frame → Type 0
MayPut Ints x f = x < length f.locals
MayPut Longs x f = suc x < length f.locals
MayPut References x f = (x < length f.locals) × (is_reference (top_of f.stack) ≡ true)

-- ---- returns: what the method gives; a constructor has called the one above

abbrev pub Gives : Body → Frame → Option Sort → Type 0
Gives b f None = (b.method.result ≡ None) × (f.raw ≡ false)
Gives b f (Some Ints) = IsThere b.method.result (λ r. kind_of r ≡ Int)
Gives b f (Some Longs) = IsThere b.method.result (λ r. kind_of r ≡ Long)
Gives b f (Some References) =
    IsThere b.method.result
    (λ r. (is_reference (kind_of r) ≡ true) × (fits b.program (top_of f.stack) (kind_of r) ≡ true))

abbrev pub IsLoadable : Constant → Type 0
IsLoadable (constant.Int n) = Unit {0}
IsLoadable (constant.Text t) = Unit {0}
IsLoadable _ = ⊥

abbrev pub IsLong : Constant → Type 0
IsLong (constant.Long n) = Unit {0}
IsLong _ = ⊥

-- ---- what an instruction at an offset asks besides its operands

abbrev pub Also : Body → ℕ → Act → Frame → Type 0
Also b at (Operate ks gs) f = Unit {0}
Also b at (Push p) f = IsLoadable (constant_at b p)
Also b at (PushLong p) f = IsLong (constant_at b p)
Also b at (Load s x) f = IsOfSort s (slice_get f.locals x)
Also b at (Store s x) f = MayPut s x f
Also b at (Change x) f = slice_get f.locals x ≡ Some Int
Also b at (Move op) f = IsThere (moved size_of op f.stack) (λ ks. Unit {0})
Also b at Length f = is_array (top_of f.stack) ≡ true
Also b at (Go ks to on) f = Unit {0}
Also b at (Leave s) f = Gives b f s
Also b at (GetField p) f = IsThere (field_named (constant_at b p)) (λ m. Unit {0})
Also b at (PutField p) f = IsThere (field_named (constant_at b p)) (MayStore b)
Also b at (Call op p) f = IsCallable b (method_named (constant_at b p)) (MayCall b op (built b (Call op p) f))
Also b at (CallInterface p) f = IsCallable b (interface_method_named (constant_at b p)) (λ m callee. IsVirtual callee)
Also b at (Make p) f =
    IsThere (class_named (constant_at b p)) (MayBeMade b.program) × (list_any (is_fresh at) f.stack ≡ false)
Also b at (MakeObjects p) f = class_named (constant_at b p) ≡ Some object_class
Also b at (Cast p) f = IsThere (class_named (constant_at b p)) (λ c. Unit {0})
Also b at (Test p) f = IsThere (class_named (constant_at b p)) (λ c. Unit {0})
Also b at Refused f = ⊥

-- ---- where an instruction leads

-- an instruction starts there, its frame is given, and this frame fits into it
abbrev pub Meets : Body → ℕ → Frame → Type 0
Meets b offset f = HasInstruction b offset × IsThere (declared b offset) (FrameFits b.program f)

-- behind it stands an instruction, whose frame, where it is given, this frame fits
abbrev pub GoesOn : Body → ℕ → Frame → Type 0
GoesOn b place f =
    IsThere (instruction b (suc place)) (λ next. WhereSome (declared b next.0) (FrameFits b.program f))

abbrev pub Covers : LinkedHandler → ℕ → Type 0
Covers h offset = (h.start ≤ offset) × (offset < h.end)

-- at a handler the stack has the throwable alone
abbrev pub caught : Frame → LinkedHandler → Frame
caught f h = record { locals = f.locals; stack = Object h.catch ∷ []; raw = f.raw }

-- the rules of types at one instruction, with the frame before it
pub record IsTyped (b : Body) (place at : ℕ) (i : Instr) (f : Frame) : Type 0 where
  pub operands : TopFits b.program (takes b (act i)) f.stack
  pub also : Also b at (act i) f
  pub height : units (stack_behind b at (act i) f) ≤ b.code.max_stack
  pub jumps : Each (targets (act i)) (λ to. Meets b to (behind b at (act i) f))
  pub on : goes_on (act i) ≡ true → GoesOn b place (behind b at (act i) f)
  pub handlers : Each b.code.handlers
      (λ h. Covers h at → WhereSome (declared b h.handler) (FrameFits b.program (caught f h)))
