-- What each instruction does to kinds: a line for each row of the instruction table, and for each opcode where the
-- opcodes of a row differ (JVMS SE 8 §6.5).
use Rattle.std.specs.Prelude.{ℕ, Bool, true, false, List, [], ◌∷◌, map, Option, Some, None}
use Rattle.jvm_code_opcodes.specs.declared.opcodes.LoadOp.{LoadOp}
use Rattle.jvm_code_opcodes.specs.declared.opcodes.LoadOp.TheVariants.{Iload, Lload, Aload}
use Rattle.jvm_code_opcodes.specs.declared.opcodes.FixedLoad.{FixedLoad}
use Rattle.jvm_code_opcodes.specs.declared.opcodes.FixedLoad.TheVariants.{Iload0, Iload1, Iload2, Iload3, Lload0, Lload1, Lload2, Lload3, Aload0, Aload1, Aload2, Aload3}
use Rattle.jvm_code_opcodes.specs.declared.opcodes.ArrayLoad.{ArrayLoad}
use Rattle.jvm_code_opcodes.specs.declared.opcodes.ArrayLoad.TheVariants.{Iaload, Aaload}
use Rattle.jvm_code_opcodes.specs.declared.opcodes.StoreOp.{StoreOp}
use Rattle.jvm_code_opcodes.specs.declared.opcodes.StoreOp.TheVariants.{Istore, Lstore, Astore}
use Rattle.jvm_code_opcodes.specs.declared.opcodes.FixedStore.{FixedStore}
use Rattle.jvm_code_opcodes.specs.declared.opcodes.FixedStore.TheVariants.{Istore0, Istore1, Istore2, Istore3, Lstore0, Lstore1, Lstore2, Lstore3, Astore0, Astore1, Astore2, Astore3}
use Rattle.jvm_code_opcodes.specs.declared.opcodes.ArrayStore.{ArrayStore}
use Rattle.jvm_code_opcodes.specs.declared.opcodes.ArrayStore.TheVariants.{Iastore, Aastore}
use Rattle.jvm_code_opcodes.specs.declared.opcodes.StackOp.{StackOp}
use Rattle.jvm_code_opcodes.specs.declared.opcodes.Arithmetic.{Arithmetic}
use Rattle.jvm_code_opcodes.specs.declared.opcodes.Arithmetic.TheVariants.{Iadd, Ladd, Isub, Lsub, Imul, Lmul}
use Rattle.jvm_code_opcodes.specs.declared.opcodes.Division.{Division}
use Rattle.jvm_code_opcodes.specs.declared.opcodes.Division.TheVariants.{Idiv, Ldiv, Irem, Lrem}
use Rattle.jvm_code_opcodes.specs.declared.opcodes.Negation.{Negation}
use Rattle.jvm_code_opcodes.specs.declared.opcodes.Negation.TheVariants.{Ineg, Lneg}
use Rattle.jvm_code_opcodes.specs.declared.opcodes.Shift.{Shift}
use Rattle.jvm_code_opcodes.specs.declared.opcodes.Shift.TheVariants.{Ishl, Lshl, Ishr, Lshr, Iushr, Lushr}
use Rattle.jvm_code_opcodes.specs.declared.opcodes.Bitwise.{Bitwise}
use Rattle.jvm_code_opcodes.specs.declared.opcodes.Bitwise.TheVariants.{Iand, Land, Ior, Lor, Ixor, Lxor}
use Rattle.jvm_code_opcodes.specs.declared.opcodes.Conversion.{Conversion}
use Rattle.jvm_code_opcodes.specs.declared.opcodes.Conversion.TheVariants.{I2l, L2i, I2c}
use Rattle.jvm_code_opcodes.specs.declared.opcodes.ReturnOp.{ReturnOp}
use Rattle.jvm_code_opcodes.specs.declared.opcodes.ReturnOp.TheVariants.{Ireturn, Lreturn, Areturn, Return}
use Rattle.jvm_code_opcodes.specs.declared.opcodes.FieldOp.{FieldOp}
use Rattle.jvm_code_opcodes.specs.declared.opcodes.FieldOp.TheVariants.{Getfield, Putfield}
use Rattle.jvm_code_opcodes.specs.declared.opcodes.InvokeOp.{InvokeOp}
use Rattle.jvm_code_opcodes.specs.declared.opcodes.InvokeOp.TheVariants.{Invokevirtual, Invokespecial, Invokestatic}
use Rattle.jvm_code_instructions.specs.declared.instr.Instr.{Instr}
use Rattle.jvm_code_instructions.specs.declared.instr.Instr.TheVariants as instr
use Rattle.class_linked.specs.declared.kinds.Kind.{Kind}
use Rattle.class_linked.specs.declared.kinds.Kind.TheVariants.{Int, Long, Null, Object}
use Rattle.class_linked.specs.Numbers.{object_class, throwable_class, int_array_class, object_array_class}

-- the sort of value that a local variable, or a return, has
pub data Sort : Type 0 where
  Ints : Sort
  Longs : Sort
  References : Sort

-- operands stand with the top first
pub data Act : Type 0 where
  -- takes these operands, and leaves those in their place
  Operate : List Kind → List Kind → Act
  -- pushes the constant at an index, an `int` or a text, and a `long`
  Push : ℕ → Act
  PushLong : ℕ → Act
  Load : Sort → ℕ → Act
  Store : Sort → ℕ → Act
  -- changes a local `int`
  Change : ℕ → Act
  Move : StackOp → Act
  Length : Act
  -- takes these operands, and goes to one of these offsets, or goes on where it may
  Go : List Kind → List ℕ → Bool → Act
  Leave : Option Sort → Act
  GetField : ℕ → Act
  PutField : ℕ → Act
  Call : InvokeOp → ℕ → Act
  CallInterface : ℕ → Act
  Make : ℕ → Act
  MakeObjects : ℕ → Act
  Cast : ℕ → Act
  Test : ℕ → Act
  -- no frame allows it
  Refused : Act

abbrev pub an_object : Kind
an_object = Object object_class

abbrev pub int_array : Kind
int_array = Object int_array_class

abbrev pub object_array : Kind
object_array = Object object_array_class

-- of an operation on one operand, and on two
abbrev pub unary : Kind → Kind → Act
unary k g = Operate (k ∷ []) (g ∷ [])

abbrev pub binary : Kind → Act
binary k = Operate (k ∷ k ∷ []) (k ∷ [])

abbrev pub load : LoadOp → ℕ → Act
load Iload x = Load Ints x
load Lload x = Load Longs x
load Aload x = Load References x

abbrev pub fixed_load : FixedLoad → Act
fixed_load Iload0 = Load Ints 0
fixed_load Iload1 = Load Ints 1
fixed_load Iload2 = Load Ints 2
fixed_load Iload3 = Load Ints 3
fixed_load Lload0 = Load Longs 0
fixed_load Lload1 = Load Longs 1
fixed_load Lload2 = Load Longs 2
fixed_load Lload3 = Load Longs 3
fixed_load Aload0 = Load References 0
fixed_load Aload1 = Load References 1
fixed_load Aload2 = Load References 2
fixed_load Aload3 = Load References 3

abbrev pub load_element : ArrayLoad → Act
load_element Iaload = Operate (Int ∷ int_array ∷ []) (Int ∷ [])
load_element Aaload = Operate (Int ∷ object_array ∷ []) (an_object ∷ [])

abbrev pub store : StoreOp → ℕ → Act
store Istore x = Store Ints x
store Lstore x = Store Longs x
store Astore x = Store References x

abbrev pub fixed_store : FixedStore → Act
fixed_store Istore0 = Store Ints 0
fixed_store Istore1 = Store Ints 1
fixed_store Istore2 = Store Ints 2
fixed_store Istore3 = Store Ints 3
fixed_store Lstore0 = Store Longs 0
fixed_store Lstore1 = Store Longs 1
fixed_store Lstore2 = Store Longs 2
fixed_store Lstore3 = Store Longs 3
fixed_store Astore0 = Store References 0
fixed_store Astore1 = Store References 1
fixed_store Astore2 = Store References 2
fixed_store Astore3 = Store References 3

abbrev pub store_element : ArrayStore → Act
store_element Iastore = Operate (Int ∷ Int ∷ int_array ∷ []) []
store_element Aastore = Operate (an_object ∷ Int ∷ object_array ∷ []) []

abbrev pub arithmetic : Arithmetic → Act
arithmetic Iadd = binary Int
arithmetic Ladd = binary Long
arithmetic Isub = binary Int
arithmetic Lsub = binary Long
arithmetic Imul = binary Int
arithmetic Lmul = binary Long

abbrev pub divide : Division → Act
divide Idiv = binary Int
divide Ldiv = binary Long
divide Irem = binary Int
divide Lrem = binary Long

abbrev pub negate : Negation → Act
negate Ineg = unary Int Int
negate Lneg = unary Long Long

-- the count is an `int`
abbrev pub shift : Shift → Act
shift Ishl = binary Int
shift Lshl = Operate (Int ∷ Long ∷ []) (Long ∷ [])
shift Ishr = binary Int
shift Lshr = Operate (Int ∷ Long ∷ []) (Long ∷ [])
shift Iushr = binary Int
shift Lushr = Operate (Int ∷ Long ∷ []) (Long ∷ [])

abbrev pub bitwise : Bitwise → Act
bitwise Iand = binary Int
bitwise Land = binary Long
bitwise Ior = binary Int
bitwise Lor = binary Long
bitwise Ixor = binary Int
bitwise Lxor = binary Long

abbrev pub convert : Conversion → Act
convert I2l = unary Int Long
convert L2i = unary Long Int
convert I2c = unary Int Int

abbrev pub leave : ReturnOp → Act
leave Ireturn = Leave (Some Ints)
leave Lreturn = Leave (Some Longs)
leave Areturn = Leave (Some References)
leave Return = Leave None

abbrev pub use_field : FieldOp → ℕ → Act
use_field Getfield p = GetField p
use_field Putfield p = PutField p

-- a reference that is compared is initialized; a jump by a distance of four bytes isn't allowed
abbrev pub act : Instr → Act
act instr.AconstNull = Operate [] (Null ∷ [])
act (instr.Iconst op) = Operate [] (Int ∷ [])
act (instr.Lconst op) = Operate [] (Long ∷ [])
act (instr.Bipush n) = Operate [] (Int ∷ [])
act (instr.Sipush n) = Operate [] (Int ∷ [])
act (instr.LdcW p) = Push p
act (instr.Ldc2W p) = PushLong p
act (instr.Load op x) = load op x
act (instr.LoadFixed op) = fixed_load op
act (instr.LoadElement op) = load_element op
act (instr.Store op x) = store op x
act (instr.StoreFixed op) = fixed_store op
act (instr.StoreElement op) = store_element op
act (instr.Stack op) = Move op
act (instr.Arithmetic op) = arithmetic op
act (instr.Divide op) = divide op
act (instr.Negate op) = negate op
act (instr.Shift op) = shift op
act (instr.Bitwise op) = bitwise op
act (instr.Iinc x n) = Change x
act (instr.Convert op) = convert op
act instr.Lcmp = Operate (Long ∷ Long ∷ []) (Int ∷ [])
act (instr.If test t) = Go (Int ∷ []) (t ∷ []) true
act (instr.IfIcmp test t) = Go (Int ∷ Int ∷ []) (t ∷ []) true
act (instr.IfAcmp test t) = Go (an_object ∷ an_object ∷ []) (t ∷ []) true
act (instr.Goto t) = Go [] (t ∷ []) false
act (instr.GotoW t) = Refused
act (instr.TableSwitch s) = Go (Int ∷ []) (s.default ∷ s.targets.items) false
act (instr.LookupSwitch s) = Go (Int ∷ []) (s.default ∷ map (λ pair. pair.1) s.pairs.items) false
act (instr.Return op) = leave op
act (instr.Field op p) = use_field op p
act (instr.Invoke op p) = Call op p
act (instr.InvokeInterface p n) = CallInterface p
act (instr.New p) = Make p
act instr.NewIntArray = unary Int int_array
act (instr.AnewArray p) = MakeObjects p
act instr.ArrayLength = Length
act instr.Athrow = Go (Object throwable_class ∷ []) [] false
act (instr.Checkcast p) = Cast p
act (instr.Instanceof p) = Test p
act (instr.WideLoad op x) = load op x
act (instr.WideStore op x) = store op x
act (instr.WideIinc x n) = Change x
act (instr.IfNull test t) = Go (an_object ∷ []) (t ∷ []) true
