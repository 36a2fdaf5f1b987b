-- The opcodes of the rows that have several, and back (JVMS SE 8 §6.5).
use Rattle.std.specs.Prelude.{ℕ, [], ◌∷◌, Option, ◌==◌, find}
use Rattle.jvm_code_opcodes.specs.declared.opcodes.IntConstant.{IntConstant}
use Rattle.jvm_code_opcodes.specs.declared.opcodes.IntConstant.TheVariants as int_constant
use Rattle.jvm_code_opcodes.specs.declared.opcodes.LongConstant.{LongConstant}
use Rattle.jvm_code_opcodes.specs.declared.opcodes.LongConstant.TheVariants as long_constant
use Rattle.jvm_code_opcodes.specs.declared.opcodes.LoadOp.{LoadOp}
use Rattle.jvm_code_opcodes.specs.declared.opcodes.LoadOp.TheVariants as load_op
use Rattle.jvm_code_opcodes.specs.declared.opcodes.FixedLoad.{FixedLoad}
use Rattle.jvm_code_opcodes.specs.declared.opcodes.FixedLoad.TheVariants as fixed_load
use Rattle.jvm_code_opcodes.specs.declared.opcodes.ArrayLoad.{ArrayLoad}
use Rattle.jvm_code_opcodes.specs.declared.opcodes.ArrayLoad.TheVariants as array_load
use Rattle.jvm_code_opcodes.specs.declared.opcodes.StoreOp.{StoreOp}
use Rattle.jvm_code_opcodes.specs.declared.opcodes.StoreOp.TheVariants as store_op
use Rattle.jvm_code_opcodes.specs.declared.opcodes.FixedStore.{FixedStore}
use Rattle.jvm_code_opcodes.specs.declared.opcodes.FixedStore.TheVariants as fixed_store
use Rattle.jvm_code_opcodes.specs.declared.opcodes.ArrayStore.{ArrayStore}
use Rattle.jvm_code_opcodes.specs.declared.opcodes.ArrayStore.TheVariants as array_store
use Rattle.jvm_code_opcodes.specs.declared.opcodes.StackOp.{StackOp}
use Rattle.jvm_code_opcodes.specs.declared.opcodes.StackOp.TheVariants as stack_op
use Rattle.jvm_code_opcodes.specs.declared.opcodes.Arithmetic.{Arithmetic}
use Rattle.jvm_code_opcodes.specs.declared.opcodes.Arithmetic.TheVariants as arithmetic
use Rattle.jvm_code_opcodes.specs.declared.opcodes.Division.{Division}
use Rattle.jvm_code_opcodes.specs.declared.opcodes.Division.TheVariants as division
use Rattle.jvm_code_opcodes.specs.declared.opcodes.Negation.{Negation}
use Rattle.jvm_code_opcodes.specs.declared.opcodes.Negation.TheVariants as negation
use Rattle.jvm_code_opcodes.specs.declared.opcodes.Shift.{Shift}
use Rattle.jvm_code_opcodes.specs.declared.opcodes.Shift.TheVariants as shift
use Rattle.jvm_code_opcodes.specs.declared.opcodes.Bitwise.{Bitwise}
use Rattle.jvm_code_opcodes.specs.declared.opcodes.Bitwise.TheVariants as bitwise
use Rattle.jvm_code_opcodes.specs.declared.opcodes.Conversion.{Conversion}
use Rattle.jvm_code_opcodes.specs.declared.opcodes.Conversion.TheVariants as conversion
use Rattle.jvm_code_opcodes.specs.declared.opcodes.ZeroTest.{ZeroTest}
use Rattle.jvm_code_opcodes.specs.declared.opcodes.ZeroTest.TheVariants as zero_test
use Rattle.jvm_code_opcodes.specs.declared.opcodes.IntTest.{IntTest}
use Rattle.jvm_code_opcodes.specs.declared.opcodes.IntTest.TheVariants as int_test
use Rattle.jvm_code_opcodes.specs.declared.opcodes.ReferenceTest.{ReferenceTest}
use Rattle.jvm_code_opcodes.specs.declared.opcodes.ReferenceTest.TheVariants as reference_test
use Rattle.jvm_code_opcodes.specs.declared.opcodes.ReturnOp.{ReturnOp}
use Rattle.jvm_code_opcodes.specs.declared.opcodes.ReturnOp.TheVariants as return_op
use Rattle.jvm_code_opcodes.specs.declared.opcodes.FieldOp.{FieldOp}
use Rattle.jvm_code_opcodes.specs.declared.opcodes.FieldOp.TheVariants as field_op
use Rattle.jvm_code_opcodes.specs.declared.opcodes.InvokeOp.{InvokeOp}
use Rattle.jvm_code_opcodes.specs.declared.opcodes.InvokeOp.TheVariants as invoke_op
use Rattle.jvm_code_opcodes.specs.declared.opcodes.NullTest.{NullTest}
use Rattle.jvm_code_opcodes.specs.declared.opcodes.NullTest.TheVariants as null_test

abbrev pub int_constant_code : IntConstant → ℕ
int_constant_code int_constant.IconstM1 = 0x02
int_constant_code int_constant.Iconst0 = 0x03
int_constant_code int_constant.Iconst1 = 0x04
int_constant_code int_constant.Iconst2 = 0x05
int_constant_code int_constant.Iconst3 = 0x06
int_constant_code int_constant.Iconst4 = 0x07
int_constant_code int_constant.Iconst5 = 0x08

unfoldable pub int_constant_of : ℕ → Option IntConstant
int_constant_of c =
    find (λ op. c == int_constant_code op)
    (int_constant.IconstM1 ∷ int_constant.Iconst0 ∷ int_constant.Iconst1 ∷ int_constant.Iconst2 ∷ int_constant.Iconst3
    ∷ int_constant.Iconst4 ∷ int_constant.Iconst5 ∷ [])

abbrev pub long_constant_code : LongConstant → ℕ
long_constant_code long_constant.Lconst0 = 0x09
long_constant_code long_constant.Lconst1 = 0x0a

unfoldable pub long_constant_of : ℕ → Option LongConstant
long_constant_of c = find (λ op. c == long_constant_code op) (long_constant.Lconst0 ∷ long_constant.Lconst1 ∷ [])

abbrev pub load_op_code : LoadOp → ℕ
load_op_code load_op.Iload = 0x15
load_op_code load_op.Lload = 0x16
load_op_code load_op.Aload = 0x19

unfoldable pub load_op_of : ℕ → Option LoadOp
load_op_of c = find (λ op. c == load_op_code op) (load_op.Iload ∷ load_op.Lload ∷ load_op.Aload ∷ [])

abbrev pub fixed_load_code : FixedLoad → ℕ
fixed_load_code fixed_load.Iload0 = 0x1a
fixed_load_code fixed_load.Iload1 = 0x1b
fixed_load_code fixed_load.Iload2 = 0x1c
fixed_load_code fixed_load.Iload3 = 0x1d
fixed_load_code fixed_load.Lload0 = 0x1e
fixed_load_code fixed_load.Lload1 = 0x1f
fixed_load_code fixed_load.Lload2 = 0x20
fixed_load_code fixed_load.Lload3 = 0x21
fixed_load_code fixed_load.Aload0 = 0x2a
fixed_load_code fixed_load.Aload1 = 0x2b
fixed_load_code fixed_load.Aload2 = 0x2c
fixed_load_code fixed_load.Aload3 = 0x2d

unfoldable pub fixed_load_of : ℕ → Option FixedLoad
fixed_load_of c =
    find (λ op. c == fixed_load_code op)
    (fixed_load.Iload0 ∷ fixed_load.Iload1 ∷ fixed_load.Iload2 ∷ fixed_load.Iload3 ∷ fixed_load.Lload0
    ∷ fixed_load.Lload1 ∷ fixed_load.Lload2 ∷ fixed_load.Lload3 ∷ fixed_load.Aload0 ∷ fixed_load.Aload1
    ∷ fixed_load.Aload2 ∷ fixed_load.Aload3 ∷ [])

abbrev pub array_load_code : ArrayLoad → ℕ
array_load_code array_load.Iaload = 0x2e
array_load_code array_load.Aaload = 0x32

unfoldable pub array_load_of : ℕ → Option ArrayLoad
array_load_of c = find (λ op. c == array_load_code op) (array_load.Iaload ∷ array_load.Aaload ∷ [])

abbrev pub store_op_code : StoreOp → ℕ
store_op_code store_op.Istore = 0x36
store_op_code store_op.Lstore = 0x37
store_op_code store_op.Astore = 0x3a

unfoldable pub store_op_of : ℕ → Option StoreOp
store_op_of c = find (λ op. c == store_op_code op) (store_op.Istore ∷ store_op.Lstore ∷ store_op.Astore ∷ [])

abbrev pub fixed_store_code : FixedStore → ℕ
fixed_store_code fixed_store.Istore0 = 0x3b
fixed_store_code fixed_store.Istore1 = 0x3c
fixed_store_code fixed_store.Istore2 = 0x3d
fixed_store_code fixed_store.Istore3 = 0x3e
fixed_store_code fixed_store.Lstore0 = 0x3f
fixed_store_code fixed_store.Lstore1 = 0x40
fixed_store_code fixed_store.Lstore2 = 0x41
fixed_store_code fixed_store.Lstore3 = 0x42
fixed_store_code fixed_store.Astore0 = 0x4b
fixed_store_code fixed_store.Astore1 = 0x4c
fixed_store_code fixed_store.Astore2 = 0x4d
fixed_store_code fixed_store.Astore3 = 0x4e

unfoldable pub fixed_store_of : ℕ → Option FixedStore
fixed_store_of c =
    find (λ op. c == fixed_store_code op)
    (fixed_store.Istore0 ∷ fixed_store.Istore1 ∷ fixed_store.Istore2 ∷ fixed_store.Istore3 ∷ fixed_store.Lstore0
    ∷ fixed_store.Lstore1 ∷ fixed_store.Lstore2 ∷ fixed_store.Lstore3 ∷ fixed_store.Astore0 ∷ fixed_store.Astore1
    ∷ fixed_store.Astore2 ∷ fixed_store.Astore3 ∷ [])

abbrev pub array_store_code : ArrayStore → ℕ
array_store_code array_store.Iastore = 0x4f
array_store_code array_store.Aastore = 0x53

unfoldable pub array_store_of : ℕ → Option ArrayStore
array_store_of c = find (λ op. c == array_store_code op) (array_store.Iastore ∷ array_store.Aastore ∷ [])

abbrev pub stack_op_code : StackOp → ℕ
stack_op_code stack_op.Pop = 0x57
stack_op_code stack_op.Pop2 = 0x58
stack_op_code stack_op.Dup = 0x59
stack_op_code stack_op.DupX1 = 0x5a
stack_op_code stack_op.DupX2 = 0x5b
stack_op_code stack_op.Dup2 = 0x5c
stack_op_code stack_op.Dup2X1 = 0x5d
stack_op_code stack_op.Dup2X2 = 0x5e
stack_op_code stack_op.Swap = 0x5f

unfoldable pub stack_op_of : ℕ → Option StackOp
stack_op_of c =
    find (λ op. c == stack_op_code op) (stack_op.Pop ∷ stack_op.Pop2 ∷ stack_op.Dup ∷ stack_op.DupX1 ∷ stack_op.DupX2
    ∷ stack_op.Dup2 ∷ stack_op.Dup2X1 ∷ stack_op.Dup2X2 ∷ stack_op.Swap ∷ [])

abbrev pub arithmetic_code : Arithmetic → ℕ
arithmetic_code arithmetic.Iadd = 0x60
arithmetic_code arithmetic.Ladd = 0x61
arithmetic_code arithmetic.Isub = 0x64
arithmetic_code arithmetic.Lsub = 0x65
arithmetic_code arithmetic.Imul = 0x68
arithmetic_code arithmetic.Lmul = 0x69

unfoldable pub arithmetic_of : ℕ → Option Arithmetic
arithmetic_of c =
    find (λ op. c == arithmetic_code op)
    (arithmetic.Iadd ∷ arithmetic.Ladd ∷ arithmetic.Isub ∷ arithmetic.Lsub ∷ arithmetic.Imul ∷ arithmetic.Lmul ∷ [])

abbrev pub division_code : Division → ℕ
division_code division.Idiv = 0x6c
division_code division.Ldiv = 0x6d
division_code division.Irem = 0x70
division_code division.Lrem = 0x71

unfoldable pub division_of : ℕ → Option Division
division_of c = find (λ op. c == division_code op) (division.Idiv ∷ division.Ldiv ∷ division.Irem ∷ division.Lrem ∷ [])

abbrev pub negation_code : Negation → ℕ
negation_code negation.Ineg = 0x74
negation_code negation.Lneg = 0x75

unfoldable pub negation_of : ℕ → Option Negation
negation_of c = find (λ op. c == negation_code op) (negation.Ineg ∷ negation.Lneg ∷ [])

abbrev pub shift_code : Shift → ℕ
shift_code shift.Ishl = 0x78
shift_code shift.Lshl = 0x79
shift_code shift.Ishr = 0x7a
shift_code shift.Lshr = 0x7b
shift_code shift.Iushr = 0x7c
shift_code shift.Lushr = 0x7d

unfoldable pub shift_of : ℕ → Option Shift
shift_of c =
    find (λ op. c == shift_code op) (shift.Ishl ∷ shift.Lshl ∷ shift.Ishr ∷ shift.Lshr ∷ shift.Iushr
    ∷ shift.Lushr ∷ [])

abbrev pub bitwise_code : Bitwise → ℕ
bitwise_code bitwise.Iand = 0x7e
bitwise_code bitwise.Land = 0x7f
bitwise_code bitwise.Ior = 0x80
bitwise_code bitwise.Lor = 0x81
bitwise_code bitwise.Ixor = 0x82
bitwise_code bitwise.Lxor = 0x83

unfoldable pub bitwise_of : ℕ → Option Bitwise
bitwise_of c =
    find (λ op. c == bitwise_code op) (bitwise.Iand ∷ bitwise.Land ∷ bitwise.Ior ∷ bitwise.Lor ∷ bitwise.Ixor
    ∷ bitwise.Lxor ∷ [])

abbrev pub conversion_code : Conversion → ℕ
conversion_code conversion.I2l = 0x85
conversion_code conversion.L2i = 0x88
conversion_code conversion.I2c = 0x92

unfoldable pub conversion_of : ℕ → Option Conversion
conversion_of c = find (λ op. c == conversion_code op) (conversion.I2l ∷ conversion.L2i ∷ conversion.I2c ∷ [])

abbrev pub zero_test_code : ZeroTest → ℕ
zero_test_code zero_test.Ifeq = 0x99
zero_test_code zero_test.Ifne = 0x9a
zero_test_code zero_test.Iflt = 0x9b
zero_test_code zero_test.Ifge = 0x9c
zero_test_code zero_test.Ifgt = 0x9d
zero_test_code zero_test.Ifle = 0x9e

unfoldable pub zero_test_of : ℕ → Option ZeroTest
zero_test_of c =
    find (λ op. c == zero_test_code op)
    (zero_test.Ifeq ∷ zero_test.Ifne ∷ zero_test.Iflt ∷ zero_test.Ifge ∷ zero_test.Ifgt ∷ zero_test.Ifle ∷ [])

abbrev pub int_test_code : IntTest → ℕ
int_test_code int_test.IfIcmpeq = 0x9f
int_test_code int_test.IfIcmpne = 0xa0
int_test_code int_test.IfIcmplt = 0xa1
int_test_code int_test.IfIcmpge = 0xa2
int_test_code int_test.IfIcmpgt = 0xa3
int_test_code int_test.IfIcmple = 0xa4

unfoldable pub int_test_of : ℕ → Option IntTest
int_test_of c =
    find (λ op. c == int_test_code op) (int_test.IfIcmpeq ∷ int_test.IfIcmpne ∷ int_test.IfIcmplt ∷ int_test.IfIcmpge
    ∷ int_test.IfIcmpgt ∷ int_test.IfIcmple ∷ [])

abbrev pub reference_test_code : ReferenceTest → ℕ
reference_test_code reference_test.IfAcmpeq = 0xa5
reference_test_code reference_test.IfAcmpne = 0xa6

unfoldable pub reference_test_of : ℕ → Option ReferenceTest
reference_test_of c = find (λ op. c == reference_test_code op) (reference_test.IfAcmpeq ∷ reference_test.IfAcmpne ∷ [])

abbrev pub return_op_code : ReturnOp → ℕ
return_op_code return_op.Ireturn = 0xac
return_op_code return_op.Lreturn = 0xad
return_op_code return_op.Areturn = 0xb0
return_op_code return_op.Return = 0xb1

unfoldable pub return_op_of : ℕ → Option ReturnOp
return_op_of c =
    find (λ op. c == return_op_code op)
    (return_op.Ireturn ∷ return_op.Lreturn ∷ return_op.Areturn ∷ return_op.Return ∷ [])

abbrev pub field_op_code : FieldOp → ℕ
field_op_code field_op.Getfield = 0xb4
field_op_code field_op.Putfield = 0xb5

unfoldable pub field_op_of : ℕ → Option FieldOp
field_op_of c = find (λ op. c == field_op_code op) (field_op.Getfield ∷ field_op.Putfield ∷ [])

abbrev pub invoke_op_code : InvokeOp → ℕ
invoke_op_code invoke_op.Invokevirtual = 0xb6
invoke_op_code invoke_op.Invokespecial = 0xb7
invoke_op_code invoke_op.Invokestatic = 0xb8

unfoldable pub invoke_op_of : ℕ → Option InvokeOp
invoke_op_of c =
    find (λ op. c == invoke_op_code op)
    (invoke_op.Invokevirtual ∷ invoke_op.Invokespecial ∷ invoke_op.Invokestatic ∷ [])

abbrev pub null_test_code : NullTest → ℕ
null_test_code null_test.Ifnull = 0xc6
null_test_code null_test.Ifnonnull = 0xc7

unfoldable pub null_test_of : ℕ → Option NullTest
null_test_of c = find (λ op. c == null_test_code op) (null_test.Ifnull ∷ null_test.Ifnonnull ∷ [])
