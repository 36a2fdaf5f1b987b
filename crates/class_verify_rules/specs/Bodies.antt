-- A method with its code, and what its instructions mention.
use Rattle.std.specs.Prelude.{◌≡◌, ℕ, Bool, true, false, ◌==◌, ◌+◌, List, [], ◌∷◌, ◌++◌, length, map, find, Option, Some, None, slice_get}
use Rattle.jvm_code_instructions.specs.declared.instr.Instr.{Instr}
use Rattle.jvm_code_instructions.specs.declared.instr.Instr.TheVariants as instr
use Rattle.jvm_code_instructions.specs.Table.{row_of}
use Rattle.jvm_code_instructions.specs.Spelling.{row_bytes}
use Rattle.class_linked.specs.declared.kinds.Kind.{Kind}
use Rattle.class_linked.specs.declared.kinds.Kind.TheVariants.{Object, FreshThis}
use Rattle.class_linked.specs.declared.constants.Constant.{Constant}
use Rattle.class_linked.specs.declared.constants.Constant.TheVariants as constant
use Rattle.class_linked.specs.declared.constants.FieldMention.{FieldMention}
use Rattle.class_linked.specs.declared.constants.MethodMention.{MethodMention}
use Rattle.class_linked.specs.declared.methods.LinkedMethod.{LinkedMethod}
use Rattle.class_linked.specs.declared.methods.Role.{Role}
use Rattle.class_linked.specs.declared.methods.Role.TheVariants as role
use Rattle.class_linked.specs.declared.code.LinkedCode.{LinkedCode}
use Rattle.class_linked.specs.declared.classes.Linked.{Linked}
use Rattle.class_linked.specs.declared.classes.LinkedClass.{LinkedClass}
use Rattle.jvm_class_types.specs.declared.flags.MethodFlags.{MethodFlags}
use Rattle.jvm_class_types.specs.declared.flags.MethodFlags.TheVariants as flag
use Rattle.class_verify_rules.specs.Kinds.{class_at, kind_of}

-- a method whose code is looked at
pub record Body : Type 0 where
  pub program : Linked
  -- the number of the class that declares it
  pub class : ℕ
  pub constants : List Constant
  pub method : LinkedMethod
  pub code : LinkedCode

abbrev pub then_get : {A B : Type 0} → Option A → (A → Option B) → Option B
then_get None f = None
then_get (Some a) f = f a

abbrev pub list_of : {A : Type 0} → Option A → List A
list_of None = []
list_of (Some a) = a ∷ []

-- ---- methods

abbrev pub methods_of : Option LinkedClass → List LinkedMethod
methods_of None = []
methods_of (Some c) = c.methods

abbrev pub method_at : Linked → ℕ → ℕ → Option LinkedMethod
method_at p c k = slice_get (methods_of (class_at p c)) k

abbrev pub body_of : Linked → ℕ → LinkedClass → LinkedMethod → Option LinkedCode → Option Body
body_of p c class m None = None
body_of p c class m (Some code) =
    Some (record { program = p; class = c; constants = class.constants; method = m; code = code })

-- the code of a method, by its class and its place there
abbrev pub body_at : Linked → ℕ → ℕ → Option Body
body_at p c k =
    then_get (class_at p c) (λ class. then_get (slice_get class.methods k) (λ m. body_of p c class m m.code))

abbrev pub is_constructor : Role → Bool
is_constructor role.Constructor = true
is_constructor role.Resumption = false
is_constructor role.Ordinary = false

-- what a constructor is called on isn't initialized yet
abbrev pub receiver_kind : ℕ → Role → Kind
receiver_kind c role.Constructor = FreshThis
receiver_kind c role.Resumption = Object c
receiver_kind c role.Ordinary = Object c

abbrev pub receiver : ℕ → MethodFlags → Role → List Kind
receiver c flag.Static r = []
receiver c flag.Instance r = receiver_kind c r ∷ []
receiver c flag.Abstract r = receiver_kind c r ∷ []

-- what a method takes, the receiver first
abbrev pub arguments : ℕ → LinkedMethod → List Kind
arguments c m = receiver c m.flags m.role ++ map kind_of m.parameters

-- ---- constants

abbrev pub or_nothing : Option Constant → Constant
or_nothing None = constant.Nothing
or_nothing (Some c) = c

abbrev pub constant_at : Body → ℕ → Constant
constant_at b p = or_nothing (slice_get b.constants p)

abbrev pub class_named : Constant → Option ℕ
class_named (constant.Class c) = Some c
class_named _ = None

abbrev pub field_named : Constant → Option FieldMention
field_named (constant.Field f) = Some f
field_named _ = None

abbrev pub method_named : Constant → Option MethodMention
method_named (constant.Method m) = Some m
method_named _ = None

abbrev pub interface_method_named : Constant → Option MethodMention
interface_method_named (constant.InterfaceMethod m) = Some m
interface_method_named _ = None

-- the method that a mention means
abbrev pub meant : Linked → MethodMention → Option LinkedMethod
meant p m = method_at p m.owner m.place

-- ---- instructions, by their place in the code and by their offset

abbrev pub instruction : Body → ℕ → Option (ℕ × Instr)
instruction b place = slice_get b.code.instructions place

abbrev pub starting_at : Body → ℕ → Option (ℕ × Instr)
starting_at b offset = find (λ i. i.0 == offset) b.code.instructions

-- an instruction starts at the offset
abbrev pub HasInstruction : Body → ℕ → Type 0
HasInstruction b offset = (i : Instr) × (starting_at b offset ≡ Some (offset, i))

-- the class that a *new* names
abbrev pub made_by : Body → Option (ℕ × Instr) → Option ℕ
made_by b (Some (offset, instr.New p)) = class_named (constant_at b p)
made_by b _ = None

abbrev pub made_at : Body → ℕ → Option ℕ
made_at b offset = made_by b (starting_at b offset)

-- where the last instruction ends
abbrev pub end_of : List (ℕ × Instr) → ℕ
end_of [] = 0
end_of (i ∷ []) = i.0 + length (row_bytes i.0 (row_of i.1))
end_of (i ∷ j ∷ is) = end_of (j ∷ is)
