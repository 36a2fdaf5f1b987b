-- Which classes are verified, and where the first that isn't breaks a rule.
use Rattle.std.specs.Prelude.{◌≡◌, ◌≢◌, ℕ, zero, suc, ◌<◌, ◌≤◌, ◌⊎◌, ◌==◌, true, List, [], Option, Some, None, All, length, map, slice_get}
use Rattle.jvm_code_instructions.specs.declared.instr.Instr.{Instr}
use Rattle.jvm_code_instructions.specs.declared.instr.Instr.TheVariants as instr
use Rattle.jvm_class_types.specs.declared.flags.ClassFlags.{ClassFlags}
use Rattle.jvm_class_types.specs.declared.flags.ClassFlags.TheVariants as class_flag
use Rattle.jvm_class_types.specs.declared.flags.MethodFlags.TheVariants as flag
use Rattle.class_linked.specs.Numbers.{first_file_class, object_class, throwable_class}
use Rattle.class_linked.specs.declared.kinds.Kind.{Kind}
use Rattle.class_linked.specs.declared.kinds.Kind.TheVariants.{Top, Int, Long, Null, Object, Fresh, FreshThis}
use Rattle.class_linked.specs.declared.methods.LinkedMethod.{LinkedMethod}
use Rattle.class_linked.specs.declared.methods.Role.TheVariants as role
use Rattle.class_linked.specs.declared.code.LinkedFrame.{LinkedFrame}
use Rattle.class_linked.specs.declared.code.LinkedHandler.{LinkedHandler}
use Rattle.class_linked.specs.declared.classes.Linked.{Linked}
use Rattle.class_linked.specs.declared.classes.LinkedClass.{LinkedClass}
use Rattle.class_supers.specs.Graph.{Ascends}
use Rattle.class_verify_rules.specs.Kinds.{class_at, is_below, spread, units}
use Rattle.class_verify_rules.specs.Bodies.{Body, HasInstruction, arguments, body_at, end_of, instruction, made_at, method_at}
use Rattle.class_verify_rules.specs.Frames.{Frame, FrameFits, before, declared, entry}
use Rattle.class_verify_rules.specs.Typing.{Each, IsThere, IsTyped, WhereSome}
use Rattle.class_verify_rules.specs.Turns.{IsTimed}

-- ---- an instruction

-- the instruction of a place has a frame, and keeps the rules
abbrev pub InstructionStands : Body → ℕ → ℕ × Instr → Type 0
InstructionStands b place i = IsThere (before b place) (IsTyped b place i.0 i.1) × IsTimed b place i.0 i.1

-- ---- an entry of the exception table by itself

pub record HandlerStands (b : Body) (h : LinkedHandler) : Type 0 where
  pub some : h.start < h.end
  pub from : HasInstruction b h.start
  pub to : HasInstruction b h.end ⊎ (end_of b.code.instructions ≡ h.end)
  pub handler : HasInstruction b h.handler
  pub after : h.end ≤ h.handler
  pub frame : IsThere (declared b h.handler) (λ f. Unit {0})
  pub throwable : is_below b.program h.catch throwable_class ≡ true

-- ---- a frame by itself

abbrev pub KindStands : Body → Kind → Type 0
KindStands b (Fresh at) = IsThere (made_at b at) (λ c. Unit {0})
KindStands b FreshThis = b.method.role ≡ role.Constructor
KindStands b k = Unit {0}

pub record FrameStands (b : Body) (f : LinkedFrame) : Type 0 where
  pub there : HasInstruction b f.offset
  pub locals : length f.locals ≤ b.code.max_locals
  pub height : units f.stack ≤ b.code.max_stack
  pub local_kinds : Each f.locals (KindStands b)
  pub stack_kinds : Each f.stack (KindStands b)

-- ---- a method as a whole

-- the frame at the start fits into the one that is given there, where one is
pub record BodyStands (b : Body) : Type 0 where
  pub some : IsThere (instruction b 0) (λ i. WhereSome (declared b i.0) (FrameFits b.program (entry b)))
  pub room : length (spread (arguments b.class b.method)) ≤ b.code.max_locals
  -- instructions stand in the order of their offsets, and so do frames
  pub ascending : Ascends 0 (map (λ i. i.0) b.code.instructions)
  pub in_order : Ascends 0 (map (λ f. f.offset) b.code.frames)

-- a constructor gives nothing, and is called on an object that isn't of an interface
abbrev pub ConstructorStands : LinkedClass → LinkedMethod → Type 0
ConstructorStands c m = (m.flags ≡ flag.Instance) × (m.result ≡ None) × (c.flags ≢ class_flag.Interface)

pub record MethodStands (p : Linked) (c : LinkedClass) (m : LinkedMethod) : Type 0 where
  pub constructor : m.role ≡ role.Constructor → ConstructorStands c m
  -- the methods of an interface are abstract
  pub interface : c.flags ≡ class_flag.Interface → m.flags ≡ flag.Abstract
  -- a method has code, but for an abstract one
  pub code : m.code ≡ None → m.flags ≡ flag.Abstract
  pub no_code : m.flags ≡ flag.Abstract → m.code ≡ None

-- ---- a class as a whole

-- a class is extended that is neither final nor an interface; above an interface stands the root
abbrev pub MayExtend : ClassFlags → ℕ → LinkedClass → Type 0
MayExtend class_flag.Interface number above = number ≡ object_class
MayExtend flags number above = (above.flags ≢ class_flag.Final) × (above.flags ≢ class_flag.Interface)

pub record ClassStands (p : Linked) (c : LinkedClass) : Type 0 where
  pub above : IsThere c.above (λ s. IsThere (class_at p s) (MayExtend c.flags s))
  pub interfaces : Each c.interfaces (λ s. IsThere (class_at p s) (λ i. i.flags ≡ class_flag.Interface))
  pub fields : c.flags ≡ class_flag.Interface → c.fields ≡ []

-- ---- the rules that count at one offset

pub record BodyKeeps (b : Body) (at : ℕ) : Type 0 where
  pub instructions : (place : ℕ) (i : Instr) → instruction b place ≡ Some (at, i) → InstructionStands b place (at, i)
  pub handlers : Each b.code.handlers (λ h. h.start ≡ at → HandlerStands b h)
  pub frames : Each b.code.frames (λ f. f.offset ≡ at → FrameStands b f)
  pub whole : at ≡ 0 → BodyStands b

abbrev pub MethodKeeps : Linked → ℕ → ℕ → ℕ → Type 0
MethodKeeps p c k at =
    WhereSome (class_at p c) (λ class. WhereSome (slice_get class.methods k)
    (λ m. (at ≡ 0 → MethodStands p class m) × WhereSome (body_at p c k) (λ b. BodyKeeps b at)))

-- the rules that count at an offset of a method of a class: methods count from 1, and 0 is the class itself
abbrev pub Keeps : Linked → ℕ → ℕ → ℕ → Type 0
Keeps p c zero at = at ≡ 0 → WhereSome (class_at p c) (ClassStands p)
Keeps p c (suc k) at = MethodKeeps p c k at

-- the classes of class files stand behind the others
abbrev pub IsVerified : Linked → Type 0
IsVerified p = (c n at : ℕ) → first_file_class ≤ c → Keeps p c n at

-- the first class, in it the first method, in it the first offset at which a rule fails
pub record IsRejected (p : Linked) (c n at : ℕ) : Type 0 where
  pub file : first_file_class ≤ c
  pub fails : Keeps p c n at → ⊥
  pub classes : (d m o : ℕ) → first_file_class ≤ d → d < c → Keeps p d m o
  pub methods : (m o : ℕ) → m < n → Keeps p c m o
  pub offsets : (o : ℕ) → o < at → Keeps p c n o
