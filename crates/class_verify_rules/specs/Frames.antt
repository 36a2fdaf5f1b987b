-- The frame before an instruction, and the one behind it (JVMS SE 8 §4.10.1.4, §4.10.1.6, §4.10.1.9).
use Rattle.std.specs.Prelude.{◌≡◌, ℕ, zero, suc, ◌+◌, ◌-◌, ◌==◌, Bool, true, false, List, [], ◌∷◌, ◌++◌, length, drop, map, reverse, replicate, find, Option, Some, None, option_map, slice_get, slice_set, if◌then◌else◌}
use Rattle.std.specs.List.{list_any}
use Rattle.jvm_code_opcodes.specs.declared.opcodes.InvokeOp.{InvokeOp}
use Rattle.jvm_code_opcodes.specs.declared.opcodes.InvokeOp.TheVariants.{Invokevirtual, Invokespecial, Invokestatic}
use Rattle.jvm_code_instructions.specs.declared.instr.Instr.{Instr}
use Rattle.class_linked.specs.Numbers.{object_class, string_class, object_array_class}
use Rattle.class_linked.specs.declared.kinds.Kind.{Kind}
use Rattle.class_linked.specs.declared.kinds.Kind.TheVariants.{Top, Int, Long, Null, Object, Fresh, FreshThis}
use Rattle.class_linked.specs.declared.constants.Constant.{Constant}
use Rattle.class_linked.specs.declared.constants.Constant.TheVariants as constant
use Rattle.class_linked.specs.declared.constants.FieldMention.{FieldMention}
use Rattle.class_linked.specs.declared.constants.MethodMention.{MethodMention}
use Rattle.class_linked.specs.declared.methods.LinkedMethod.{LinkedMethod}
use Rattle.class_linked.specs.declared.code.LinkedFrame.{LinkedFrame}
use Rattle.class_linked.specs.declared.classes.Linked.{Linked}
use Rattle.class_verify_rules.specs.Kinds.{AllFit, fits, operand_fits, is_fresh, is_fresh_this, kind_of, spread, width}
use Rattle.class_verify_rules.specs.Moves.{Size, One, Two, Neither, moved}
use Rattle.class_verify_rules.specs.Acts.{Act, Operate, Push, PushLong, Load, Store, Change, Move, Length, Go, Leave, GetField, PutField, Call, CallInterface, Make, MakeObjects, Cast, Test, Refused, Sort, Ints, Longs, References, act, an_object, object_array}
use Rattle.class_verify_rules.specs.Bodies.{Body, then_get, list_of, arguments, is_constructor, constant_at, class_named, field_named, method_named, interface_method_named, meant, instruction, made_at}

-- what is known where an instruction begins; the stack has its top first
pub record Frame : Type 0 where
  pub locals : List Kind
  pub stack : List Kind
  -- the constructor above has not returned yet
  pub raw : Bool

pub record FrameFits (p : Linked) (f g : Frame) : Type 0 where
  pub locals : AllFit (fits p) f.locals g.locals
  pub stack : AllFit (operand_fits p) f.stack g.stack
  pub raw : f.raw ≡ true → g.raw ≡ true

-- ---- the frames that are given

abbrev pub padded : ℕ → List Kind → List Kind
padded n ks = ks ++ replicate (n - length ks) Top

abbrev pub shown : ℕ → LinkedFrame → Frame
shown n f = record { locals = padded n f.locals; stack = f.stack; raw = list_any is_fresh_this f.locals }

-- the frame that the class file has for an offset
abbrev pub declared : Body → ℕ → Option Frame
declared b offset = option_map (shown b.code.max_locals) (find (λ f. f.offset == offset) b.code.frames)

-- the frame at the start of the method
abbrev pub entry : Body → Frame
entry b = record {
  locals = padded b.code.max_locals (spread (arguments b.class b.method));
  stack = [];
  raw = is_constructor b.method.role;
}

-- ---- what an instruction takes and leaves

abbrev pub kind_of_sort : Sort → Kind
kind_of_sort Ints = Int
kind_of_sort Longs = Long
kind_of_sort References = Top

abbrev pub field_taken : Option FieldMention → List Kind
field_taken None = []
field_taken (Some f) = Object f.named ∷ []

abbrev pub field_value : Option FieldMention → List Kind
field_value None = []
field_value (Some f) = kind_of f.kind ∷ []

abbrev pub parameters_of : Option LinkedMethod → List Kind
parameters_of None = []
parameters_of (Some m) = map kind_of m.parameters

abbrev pub result_of : Option LinkedMethod → List Kind
result_of None = []
result_of (Some m) = list_of (option_map kind_of m.result)

abbrev pub method_meant : Body → Option MethodMention → Option LinkedMethod
method_meant b m = then_get m (meant b.program)

-- the last argument is on top
abbrev pub arguments_taken : Body → Option MethodMention → List Kind
arguments_taken b m = reverse (parameters_of (method_meant b m))

abbrev pub receiver_taken : Option MethodMention → List Kind
receiver_taken None = []
receiver_taken (Some m) = Object m.named ∷ []

abbrev pub called : Body → InvokeOp → Option MethodMention → List Kind
called b Invokevirtual m = arguments_taken b m ++ receiver_taken m
called b Invokespecial m = arguments_taken b m ++ Top ∷ []
called b Invokestatic m = arguments_taken b m

abbrev pub left_value : Option Sort → List Kind
left_value None = []
left_value (Some Ints) = Int ∷ []
left_value (Some Longs) = Long ∷ []
left_value (Some References) = an_object ∷ []

-- the operands that an instruction takes, the top first
abbrev pub takes : Body → Act → List Kind
takes b (Operate ks gs) = ks
takes b (Push p) = []
takes b (PushLong p) = []
takes b (Load s x) = []
takes b (Store s x) = kind_of_sort s ∷ []
takes b (Change x) = []
takes b (Move op) = []
takes b Length = Top ∷ []
takes b (Go ks to on) = ks
takes b (Leave s) = left_value s
takes b (GetField p) = field_taken (field_named (constant_at b p))
takes b (PutField p) = field_value (field_named (constant_at b p)) ++ field_taken (field_named (constant_at b p))
takes b (Call op p) = called b op (method_named (constant_at b p))
takes b (CallInterface p) =
    arguments_taken b (interface_method_named (constant_at b p))
    ++ receiver_taken (interface_method_named (constant_at b p))
takes b (Make p) = []
takes b (MakeObjects p) = Int ∷ []
takes b (Cast p) = an_object ∷ []
takes b (Test p) = an_object ∷ []
takes b Refused = []

abbrev pub constant_kind : Constant → Kind
constant_kind (constant.Int n) = Int
constant_kind (constant.Text t) = Object string_class
constant_kind _ = Top

abbrev pub or_top : Option Kind → Kind
or_top None = Top
or_top (Some k) = k

abbrev pub loaded : Sort → List Kind → ℕ → Kind
loaded Ints locals x = Int
loaded Longs locals x = Long
loaded References locals x = or_top (slice_get locals x)

-- what it leaves in their place
abbrev pub gives : Body → ℕ → Act → Frame → List Kind
gives b at (Operate ks gs) f = gs
gives b at (Push p) f = constant_kind (constant_at b p) ∷ []
gives b at (PushLong p) f = Long ∷ []
gives b at (Load s x) f = loaded s f.locals x ∷ []
gives b at (Store s x) f = []
gives b at (Change x) f = []
gives b at (Move op) f = []
gives b at Length f = Int ∷ []
gives b at (Go ks to on) f = []
gives b at (Leave s) f = []
gives b at (GetField p) f = field_value (field_named (constant_at b p))
gives b at (PutField p) f = []
gives b at (Call op p) f = result_of (method_meant b (method_named (constant_at b p)))
gives b at (CallInterface p) f = result_of (method_meant b (interface_method_named (constant_at b p)))
gives b at (Make p) f = Fresh at ∷ []
gives b at (MakeObjects p) f = object_array ∷ []
gives b at (Cast p) f = list_of (option_map Object (class_named (constant_at b p)))
gives b at (Test p) f = Int ∷ []
gives b at Refused f = []

-- ---- constructors

-- the reference that a constructor is called on
abbrev pub built_by : Body → InvokeOp → Option MethodMention → List Kind → Option Kind
built_by b Invokespecial m stack = slice_get stack (length (arguments_taken b m))
built_by b Invokevirtual m stack = None
built_by b Invokestatic m stack = None

abbrev pub built : Body → Act → Frame → Option Kind
built b (Call op p) f = built_by b op (method_named (constant_at b p)) f.stack
built b _ f = None

-- what a copy of that reference is once the constructor returned
abbrev pub becomes : Body → Kind → Kind → Kind
becomes b (Fresh j) (Fresh k) = if j == k then or_top (option_map Object (made_at b j)) else Fresh k
becomes b FreshThis FreshThis = Object b.class
becomes b u k = k

abbrev pub initialized : Body → Option Kind → List Kind → List Kind
initialized b None ks = ks
initialized b (Some u) ks = map (becomes b u) ks

abbrev pub still_raw : Option Kind → Bool → Bool
still_raw (Some FreshThis) raw = false
still_raw o raw = raw

-- ---- local variables

-- an older object of the same *new* is used no more
abbrev pub forgotten : ℕ → Kind → Kind
forgotten at k = if is_fresh at k then Top else k

-- a store into the second unit of a `long` takes the first away
abbrev pub cut_at : Option Kind → ℕ → List Kind → List Kind
cut_at (Some Long) x ks = slice_set ks x Top
cut_at o x ks = ks

abbrev pub cut : ℕ → List Kind → List Kind
cut zero ks = ks
cut (suc x) ks = cut_at (slice_get ks x) x ks

abbrev pub stored : ℕ → Kind → List Kind → List Kind
stored x k ks = slice_set (cut x ks) x k

abbrev pub top_of : List Kind → Kind
top_of [] = Top
top_of (k ∷ ks) = k

abbrev pub stored_sort : Sort → ℕ → Frame → List Kind
stored_sort Ints x f = stored x Int f.locals
stored_sort Longs x f = slice_set (stored x Long f.locals) (suc x) Top
stored_sort References x f = stored x (top_of f.stack) f.locals

abbrev pub locals_behind : Body → ℕ → Act → Frame → List Kind
locals_behind b at (Store s x) f = stored_sort s x f
locals_behind b at (Make p) f = map (forgotten at) f.locals
locals_behind b at (Call op p) f = initialized b (built b (Call op p) f) f.locals
locals_behind b at _ f = f.locals

-- ---- the frame behind an instruction: it makes no test, since only the first fault counts

abbrev pub size_of : Kind → Size
size_of Top = Neither
size_of Long = Two
size_of k = One

abbrev pub or_empty : Option (List Kind) → List Kind
or_empty None = []
or_empty (Some ks) = ks

abbrev pub stack_behind : Body → ℕ → Act → Frame → List Kind
stack_behind b at (Move op) f = or_empty (moved size_of op f.stack)
stack_behind b at a f = gives b at a f ++ initialized b (built b a f) (drop (length (takes b a)) f.stack)

abbrev pub behind : Body → ℕ → Act → Frame → Frame
behind b at a f = record {
  locals = locals_behind b at a f;
  stack = stack_behind b at a f;
  raw = still_raw (built b a f) f.raw;
}

abbrev pub goes_on : Act → Bool
goes_on (Go ks to on) = on
goes_on (Leave s) = false
goes_on Refused = false
goes_on _ = true

abbrev pub targets : Act → List ℕ
targets (Go ks to on) = to
targets _ = []

-- ---- the frame before an instruction: the one that is given, or else what the instruction above it leaves

abbrev pub or_else : {A : Type 0} → Option A → Option A → Option A
or_else (Some a) o = Some a
or_else None o = o

abbrev pub declared_at : Body → Option (ℕ × Instr) → Option Frame
declared_at b None = None
declared_at b (Some i) = declared b i.0

abbrev pub left_by : Body → Option (ℕ × Instr) → Option Frame → Option Frame
left_by b None o = None
left_by b (Some i) None = None
left_by b (Some i) (Some f) = if goes_on (act i.1) then Some (behind b i.0 (act i.1) f) else None

unfoldable pub before : Body → ℕ → Option Frame
before b zero = or_else (declared_at b (instruction b zero)) (Some (entry b))
before b (suc place) = or_else (declared_at b (instruction b (suc place)))
    (left_by b (instruction b place) (before b place))
