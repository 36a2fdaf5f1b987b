-- Each instruction has its opcode in the table, and its types see to most of what its row asks.
use Rattle.std.proofs.Common.{◌≡◌, ℕ, ◌<◌, Option, Some, refl, sym, subst, arith}
use Rattle.jvm_code_instructions.specs.declared.instr.Instr.{Instr}
use Rattle.jvm_code_instructions.specs.declared.instr.Instr.TheVariants as instr
use Rattle.jvm_code_opcodes.specs.declared.opcodes.IntConstant.{IntConstant}
use Rattle.jvm_code_opcodes.specs.declared.opcodes.IntConstant.TheVariants as int_constant
use Rattle.jvm_code_opcodes.specs.declared.opcodes.LongConstant.{LongConstant}
use Rattle.jvm_code_opcodes.specs.declared.opcodes.LongConstant.TheVariants as long_constant
use Rattle.jvm_code_opcodes.specs.declared.opcodes.LoadOp.{LoadOp}
use Rattle.jvm_code_opcodes.specs.declared.opcodes.LoadOp.TheVariants as load_op
use Rattle.jvm_code_opcodes.specs.declared.opcodes.FixedLoad.{FixedLoad}
use Rattle.jvm_code_opcodes.specs.declared.opcodes.FixedLoad.TheVariants as fixed_load
use Rattle.jvm_code_opcodes.specs.declared.opcodes.ArrayLoad.{ArrayLoad}
use Rattle.jvm_code_opcodes.specs.declared.opcodes.ArrayLoad.TheVariants as array_load
use Rattle.jvm_code_opcodes.specs.declared.opcodes.StoreOp.{StoreOp}
use Rattle.jvm_code_opcodes.specs.declared.opcodes.StoreOp.TheVariants as store_op
use Rattle.jvm_code_opcodes.specs.declared.opcodes.FixedStore.{FixedStore}
use Rattle.jvm_code_opcodes.specs.declared.opcodes.FixedStore.TheVariants as fixed_store
use Rattle.jvm_code_opcodes.specs.declared.opcodes.ArrayStore.{ArrayStore}
use Rattle.jvm_code_opcodes.specs.declared.opcodes.ArrayStore.TheVariants as array_store
use Rattle.jvm_code_opcodes.specs.declared.opcodes.StackOp.{StackOp}
use Rattle.jvm_code_opcodes.specs.declared.opcodes.StackOp.TheVariants as stack_op
use Rattle.jvm_code_opcodes.specs.declared.opcodes.Arithmetic.{Arithmetic}
use Rattle.jvm_code_opcodes.specs.declared.opcodes.Arithmetic.TheVariants as arithmetic
use Rattle.jvm_code_opcodes.specs.declared.opcodes.Division.{Division}
use Rattle.jvm_code_opcodes.specs.declared.opcodes.Division.TheVariants as division
use Rattle.jvm_code_opcodes.specs.declared.opcodes.Negation.{Negation}
use Rattle.jvm_code_opcodes.specs.declared.opcodes.Negation.TheVariants as negation
use Rattle.jvm_code_opcodes.specs.declared.opcodes.Shift.{Shift}
use Rattle.jvm_code_opcodes.specs.declared.opcodes.Shift.TheVariants as shift
use Rattle.jvm_code_opcodes.specs.declared.opcodes.Bitwise.{Bitwise}
use Rattle.jvm_code_opcodes.specs.declared.opcodes.Bitwise.TheVariants as bitwise
use Rattle.jvm_code_opcodes.specs.declared.opcodes.Conversion.{Conversion}
use Rattle.jvm_code_opcodes.specs.declared.opcodes.Conversion.TheVariants as conversion
use Rattle.jvm_code_opcodes.specs.declared.opcodes.ZeroTest.{ZeroTest}
use Rattle.jvm_code_opcodes.specs.declared.opcodes.ZeroTest.TheVariants as zero_test
use Rattle.jvm_code_opcodes.specs.declared.opcodes.IntTest.{IntTest}
use Rattle.jvm_code_opcodes.specs.declared.opcodes.IntTest.TheVariants as int_test
use Rattle.jvm_code_opcodes.specs.declared.opcodes.ReferenceTest.{ReferenceTest}
use Rattle.jvm_code_opcodes.specs.declared.opcodes.ReferenceTest.TheVariants as reference_test
use Rattle.jvm_code_opcodes.specs.declared.opcodes.ReturnOp.{ReturnOp}
use Rattle.jvm_code_opcodes.specs.declared.opcodes.ReturnOp.TheVariants as return_op
use Rattle.jvm_code_opcodes.specs.declared.opcodes.FieldOp.{FieldOp}
use Rattle.jvm_code_opcodes.specs.declared.opcodes.FieldOp.TheVariants as field_op
use Rattle.jvm_code_opcodes.specs.declared.opcodes.InvokeOp.{InvokeOp}
use Rattle.jvm_code_opcodes.specs.declared.opcodes.InvokeOp.TheVariants as invoke_op
use Rattle.jvm_code_opcodes.specs.declared.opcodes.NullTest.{NullTest}
use Rattle.jvm_code_opcodes.specs.declared.opcodes.NullTest.TheVariants as null_test
use Rattle.jvm_code_opcodes.specs.Opcodes.{int_constant_code, int_constant_of, long_constant_code, long_constant_of, load_op_code, load_op_of, fixed_load_code, fixed_load_of, array_load_code, array_load_of, store_op_code, store_op_of, fixed_store_code, fixed_store_of, array_store_code, array_store_of, stack_op_code, stack_op_of, arithmetic_code, arithmetic_of, division_code, division_of, negation_code, negation_of, shift_code, shift_of, bitwise_code, bitwise_of, conversion_code, conversion_of, zero_test_code, zero_test_of, int_test_code, int_test_of, reference_test_code, reference_test_of, return_op_code, return_op_of, field_op_code, field_op_of, invoke_op_code, invoke_op_of, null_test_code, null_test_of}
use Rattle.jvm_code_instructions.specs.Table.{Operands, Nothing, Byte, Half, Near, Shape, IsNothing, IsByte, IsHalf, IsNear, IsLocal, row_of, shape_of, wide_shape}
use Rattle.jvm_code_instructions.specs.Spelling.{HasShape, Allowed}
use Rattle.jvm_code_instructions.specs.Widths.{HasWidths, HasOperands}

-- an opcode of the table, with the operands that it has
record Stands (c : ℕ) (s : Shape) : Type 0 where
  small : c < 256
  shaped : shape_of c ≡ Some s

int_constant_row : (op : IntConstant) → Stands (int_constant_code op) IsNothing
unfolding shape_of int_constant_of long_constant_of load_op_of fixed_load_of array_load_of store_op_of fixed_store_of array_store_of stack_op_of arithmetic_of division_of negation_of shift_of bitwise_of conversion_of zero_test_of int_test_of reference_test_of return_op_of field_op_of invoke_op_of null_test_of
int_constant_row int_constant.IconstM1 = record { small = omega arith; shaped = refl }
int_constant_row int_constant.Iconst0 = record { small = omega arith; shaped = refl }
int_constant_row int_constant.Iconst1 = record { small = omega arith; shaped = refl }
int_constant_row int_constant.Iconst2 = record { small = omega arith; shaped = refl }
int_constant_row int_constant.Iconst3 = record { small = omega arith; shaped = refl }
int_constant_row int_constant.Iconst4 = record { small = omega arith; shaped = refl }
int_constant_row int_constant.Iconst5 = record { small = omega arith; shaped = refl }

long_constant_row : (op : LongConstant) → Stands (long_constant_code op) IsNothing
unfolding shape_of int_constant_of long_constant_of load_op_of fixed_load_of array_load_of store_op_of fixed_store_of array_store_of stack_op_of arithmetic_of division_of negation_of shift_of bitwise_of conversion_of zero_test_of int_test_of reference_test_of return_op_of field_op_of invoke_op_of null_test_of
long_constant_row long_constant.Lconst0 = record { small = omega arith; shaped = refl }
long_constant_row long_constant.Lconst1 = record { small = omega arith; shaped = refl }

load_op_row : (op : LoadOp) → Stands (load_op_code op) IsByte
unfolding shape_of int_constant_of long_constant_of load_op_of fixed_load_of array_load_of store_op_of fixed_store_of array_store_of stack_op_of arithmetic_of division_of negation_of shift_of bitwise_of conversion_of zero_test_of int_test_of reference_test_of return_op_of field_op_of invoke_op_of null_test_of
load_op_row load_op.Iload = record { small = omega arith; shaped = refl }
load_op_row load_op.Lload = record { small = omega arith; shaped = refl }
load_op_row load_op.Aload = record { small = omega arith; shaped = refl }

fixed_load_row : (op : FixedLoad) → Stands (fixed_load_code op) IsNothing
unfolding shape_of int_constant_of long_constant_of load_op_of fixed_load_of array_load_of store_op_of fixed_store_of array_store_of stack_op_of arithmetic_of division_of negation_of shift_of bitwise_of conversion_of zero_test_of int_test_of reference_test_of return_op_of field_op_of invoke_op_of null_test_of
fixed_load_row fixed_load.Iload0 = record { small = omega arith; shaped = refl }
fixed_load_row fixed_load.Iload1 = record { small = omega arith; shaped = refl }
fixed_load_row fixed_load.Iload2 = record { small = omega arith; shaped = refl }
fixed_load_row fixed_load.Iload3 = record { small = omega arith; shaped = refl }
fixed_load_row fixed_load.Lload0 = record { small = omega arith; shaped = refl }
fixed_load_row fixed_load.Lload1 = record { small = omega arith; shaped = refl }
fixed_load_row fixed_load.Lload2 = record { small = omega arith; shaped = refl }
fixed_load_row fixed_load.Lload3 = record { small = omega arith; shaped = refl }
fixed_load_row fixed_load.Aload0 = record { small = omega arith; shaped = refl }
fixed_load_row fixed_load.Aload1 = record { small = omega arith; shaped = refl }
fixed_load_row fixed_load.Aload2 = record { small = omega arith; shaped = refl }
fixed_load_row fixed_load.Aload3 = record { small = omega arith; shaped = refl }

array_load_row : (op : ArrayLoad) → Stands (array_load_code op) IsNothing
unfolding shape_of int_constant_of long_constant_of load_op_of fixed_load_of array_load_of store_op_of fixed_store_of array_store_of stack_op_of arithmetic_of division_of negation_of shift_of bitwise_of conversion_of zero_test_of int_test_of reference_test_of return_op_of field_op_of invoke_op_of null_test_of
array_load_row array_load.Iaload = record { small = omega arith; shaped = refl }
array_load_row array_load.Aaload = record { small = omega arith; shaped = refl }

store_op_row : (op : StoreOp) → Stands (store_op_code op) IsByte
unfolding shape_of int_constant_of long_constant_of load_op_of fixed_load_of array_load_of store_op_of fixed_store_of array_store_of stack_op_of arithmetic_of division_of negation_of shift_of bitwise_of conversion_of zero_test_of int_test_of reference_test_of return_op_of field_op_of invoke_op_of null_test_of
store_op_row store_op.Istore = record { small = omega arith; shaped = refl }
store_op_row store_op.Lstore = record { small = omega arith; shaped = refl }
store_op_row store_op.Astore = record { small = omega arith; shaped = refl }

fixed_store_row : (op : FixedStore) → Stands (fixed_store_code op) IsNothing
unfolding shape_of int_constant_of long_constant_of load_op_of fixed_load_of array_load_of store_op_of fixed_store_of array_store_of stack_op_of arithmetic_of division_of negation_of shift_of bitwise_of conversion_of zero_test_of int_test_of reference_test_of return_op_of field_op_of invoke_op_of null_test_of
fixed_store_row fixed_store.Istore0 = record { small = omega arith; shaped = refl }
fixed_store_row fixed_store.Istore1 = record { small = omega arith; shaped = refl }
fixed_store_row fixed_store.Istore2 = record { small = omega arith; shaped = refl }
fixed_store_row fixed_store.Istore3 = record { small = omega arith; shaped = refl }
fixed_store_row fixed_store.Lstore0 = record { small = omega arith; shaped = refl }
fixed_store_row fixed_store.Lstore1 = record { small = omega arith; shaped = refl }
fixed_store_row fixed_store.Lstore2 = record { small = omega arith; shaped = refl }
fixed_store_row fixed_store.Lstore3 = record { small = omega arith; shaped = refl }
fixed_store_row fixed_store.Astore0 = record { small = omega arith; shaped = refl }
fixed_store_row fixed_store.Astore1 = record { small = omega arith; shaped = refl }
fixed_store_row fixed_store.Astore2 = record { small = omega arith; shaped = refl }
fixed_store_row fixed_store.Astore3 = record { small = omega arith; shaped = refl }

array_store_row : (op : ArrayStore) → Stands (array_store_code op) IsNothing
unfolding shape_of int_constant_of long_constant_of load_op_of fixed_load_of array_load_of store_op_of fixed_store_of array_store_of stack_op_of arithmetic_of division_of negation_of shift_of bitwise_of conversion_of zero_test_of int_test_of reference_test_of return_op_of field_op_of invoke_op_of null_test_of
array_store_row array_store.Iastore = record { small = omega arith; shaped = refl }
array_store_row array_store.Aastore = record { small = omega arith; shaped = refl }

stack_op_row : (op : StackOp) → Stands (stack_op_code op) IsNothing
unfolding shape_of int_constant_of long_constant_of load_op_of fixed_load_of array_load_of store_op_of fixed_store_of array_store_of stack_op_of arithmetic_of division_of negation_of shift_of bitwise_of conversion_of zero_test_of int_test_of reference_test_of return_op_of field_op_of invoke_op_of null_test_of
stack_op_row stack_op.Pop = record { small = omega arith; shaped = refl }
stack_op_row stack_op.Pop2 = record { small = omega arith; shaped = refl }
stack_op_row stack_op.Dup = record { small = omega arith; shaped = refl }
stack_op_row stack_op.DupX1 = record { small = omega arith; shaped = refl }
stack_op_row stack_op.DupX2 = record { small = omega arith; shaped = refl }
stack_op_row stack_op.Dup2 = record { small = omega arith; shaped = refl }
stack_op_row stack_op.Dup2X1 = record { small = omega arith; shaped = refl }
stack_op_row stack_op.Dup2X2 = record { small = omega arith; shaped = refl }
stack_op_row stack_op.Swap = record { small = omega arith; shaped = refl }

arithmetic_row : (op : Arithmetic) → Stands (arithmetic_code op) IsNothing
unfolding shape_of int_constant_of long_constant_of load_op_of fixed_load_of array_load_of store_op_of fixed_store_of array_store_of stack_op_of arithmetic_of division_of negation_of shift_of bitwise_of conversion_of zero_test_of int_test_of reference_test_of return_op_of field_op_of invoke_op_of null_test_of
arithmetic_row arithmetic.Iadd = record { small = omega arith; shaped = refl }
arithmetic_row arithmetic.Ladd = record { small = omega arith; shaped = refl }
arithmetic_row arithmetic.Isub = record { small = omega arith; shaped = refl }
arithmetic_row arithmetic.Lsub = record { small = omega arith; shaped = refl }
arithmetic_row arithmetic.Imul = record { small = omega arith; shaped = refl }
arithmetic_row arithmetic.Lmul = record { small = omega arith; shaped = refl }

division_row : (op : Division) → Stands (division_code op) IsNothing
unfolding shape_of int_constant_of long_constant_of load_op_of fixed_load_of array_load_of store_op_of fixed_store_of array_store_of stack_op_of arithmetic_of division_of negation_of shift_of bitwise_of conversion_of zero_test_of int_test_of reference_test_of return_op_of field_op_of invoke_op_of null_test_of
division_row division.Idiv = record { small = omega arith; shaped = refl }
division_row division.Ldiv = record { small = omega arith; shaped = refl }
division_row division.Irem = record { small = omega arith; shaped = refl }
division_row division.Lrem = record { small = omega arith; shaped = refl }

negation_row : (op : Negation) → Stands (negation_code op) IsNothing
unfolding shape_of int_constant_of long_constant_of load_op_of fixed_load_of array_load_of store_op_of fixed_store_of array_store_of stack_op_of arithmetic_of division_of negation_of shift_of bitwise_of conversion_of zero_test_of int_test_of reference_test_of return_op_of field_op_of invoke_op_of null_test_of
negation_row negation.Ineg = record { small = omega arith; shaped = refl }
negation_row negation.Lneg = record { small = omega arith; shaped = refl }

shift_row : (op : Shift) → Stands (shift_code op) IsNothing
unfolding shape_of int_constant_of long_constant_of load_op_of fixed_load_of array_load_of store_op_of fixed_store_of array_store_of stack_op_of arithmetic_of division_of negation_of shift_of bitwise_of conversion_of zero_test_of int_test_of reference_test_of return_op_of field_op_of invoke_op_of null_test_of
shift_row shift.Ishl = record { small = omega arith; shaped = refl }
shift_row shift.Lshl = record { small = omega arith; shaped = refl }
shift_row shift.Ishr = record { small = omega arith; shaped = refl }
shift_row shift.Lshr = record { small = omega arith; shaped = refl }
shift_row shift.Iushr = record { small = omega arith; shaped = refl }
shift_row shift.Lushr = record { small = omega arith; shaped = refl }

bitwise_row : (op : Bitwise) → Stands (bitwise_code op) IsNothing
unfolding shape_of int_constant_of long_constant_of load_op_of fixed_load_of array_load_of store_op_of fixed_store_of array_store_of stack_op_of arithmetic_of division_of negation_of shift_of bitwise_of conversion_of zero_test_of int_test_of reference_test_of return_op_of field_op_of invoke_op_of null_test_of
bitwise_row bitwise.Iand = record { small = omega arith; shaped = refl }
bitwise_row bitwise.Land = record { small = omega arith; shaped = refl }
bitwise_row bitwise.Ior = record { small = omega arith; shaped = refl }
bitwise_row bitwise.Lor = record { small = omega arith; shaped = refl }
bitwise_row bitwise.Ixor = record { small = omega arith; shaped = refl }
bitwise_row bitwise.Lxor = record { small = omega arith; shaped = refl }

conversion_row : (op : Conversion) → Stands (conversion_code op) IsNothing
unfolding shape_of int_constant_of long_constant_of load_op_of fixed_load_of array_load_of store_op_of fixed_store_of array_store_of stack_op_of arithmetic_of division_of negation_of shift_of bitwise_of conversion_of zero_test_of int_test_of reference_test_of return_op_of field_op_of invoke_op_of null_test_of
conversion_row conversion.I2l = record { small = omega arith; shaped = refl }
conversion_row conversion.L2i = record { small = omega arith; shaped = refl }
conversion_row conversion.I2c = record { small = omega arith; shaped = refl }

zero_test_row : (op : ZeroTest) → Stands (zero_test_code op) IsNear
unfolding shape_of int_constant_of long_constant_of load_op_of fixed_load_of array_load_of store_op_of fixed_store_of array_store_of stack_op_of arithmetic_of division_of negation_of shift_of bitwise_of conversion_of zero_test_of int_test_of reference_test_of return_op_of field_op_of invoke_op_of null_test_of
zero_test_row zero_test.Ifeq = record { small = omega arith; shaped = refl }
zero_test_row zero_test.Ifne = record { small = omega arith; shaped = refl }
zero_test_row zero_test.Iflt = record { small = omega arith; shaped = refl }
zero_test_row zero_test.Ifge = record { small = omega arith; shaped = refl }
zero_test_row zero_test.Ifgt = record { small = omega arith; shaped = refl }
zero_test_row zero_test.Ifle = record { small = omega arith; shaped = refl }

int_test_row : (op : IntTest) → Stands (int_test_code op) IsNear
unfolding shape_of int_constant_of long_constant_of load_op_of fixed_load_of array_load_of store_op_of fixed_store_of array_store_of stack_op_of arithmetic_of division_of negation_of shift_of bitwise_of conversion_of zero_test_of int_test_of reference_test_of return_op_of field_op_of invoke_op_of null_test_of
int_test_row int_test.IfIcmpeq = record { small = omega arith; shaped = refl }
int_test_row int_test.IfIcmpne = record { small = omega arith; shaped = refl }
int_test_row int_test.IfIcmplt = record { small = omega arith; shaped = refl }
int_test_row int_test.IfIcmpge = record { small = omega arith; shaped = refl }
int_test_row int_test.IfIcmpgt = record { small = omega arith; shaped = refl }
int_test_row int_test.IfIcmple = record { small = omega arith; shaped = refl }

reference_test_row : (op : ReferenceTest) → Stands (reference_test_code op) IsNear
unfolding shape_of int_constant_of long_constant_of load_op_of fixed_load_of array_load_of store_op_of fixed_store_of array_store_of stack_op_of arithmetic_of division_of negation_of shift_of bitwise_of conversion_of zero_test_of int_test_of reference_test_of return_op_of field_op_of invoke_op_of null_test_of
reference_test_row reference_test.IfAcmpeq = record { small = omega arith; shaped = refl }
reference_test_row reference_test.IfAcmpne = record { small = omega arith; shaped = refl }

return_op_row : (op : ReturnOp) → Stands (return_op_code op) IsNothing
unfolding shape_of int_constant_of long_constant_of load_op_of fixed_load_of array_load_of store_op_of fixed_store_of array_store_of stack_op_of arithmetic_of division_of negation_of shift_of bitwise_of conversion_of zero_test_of int_test_of reference_test_of return_op_of field_op_of invoke_op_of null_test_of
return_op_row return_op.Ireturn = record { small = omega arith; shaped = refl }
return_op_row return_op.Lreturn = record { small = omega arith; shaped = refl }
return_op_row return_op.Areturn = record { small = omega arith; shaped = refl }
return_op_row return_op.Return = record { small = omega arith; shaped = refl }

field_op_row : (op : FieldOp) → Stands (field_op_code op) IsHalf
unfolding shape_of int_constant_of long_constant_of load_op_of fixed_load_of array_load_of store_op_of fixed_store_of array_store_of stack_op_of arithmetic_of division_of negation_of shift_of bitwise_of conversion_of zero_test_of int_test_of reference_test_of return_op_of field_op_of invoke_op_of null_test_of
field_op_row field_op.Getfield = record { small = omega arith; shaped = refl }
field_op_row field_op.Putfield = record { small = omega arith; shaped = refl }

invoke_op_row : (op : InvokeOp) → Stands (invoke_op_code op) IsHalf
unfolding shape_of int_constant_of long_constant_of load_op_of fixed_load_of array_load_of store_op_of fixed_store_of array_store_of stack_op_of arithmetic_of division_of negation_of shift_of bitwise_of conversion_of zero_test_of int_test_of reference_test_of return_op_of field_op_of invoke_op_of null_test_of
invoke_op_row invoke_op.Invokevirtual = record { small = omega arith; shaped = refl }
invoke_op_row invoke_op.Invokespecial = record { small = omega arith; shaped = refl }
invoke_op_row invoke_op.Invokestatic = record { small = omega arith; shaped = refl }

null_test_row : (op : NullTest) → Stands (null_test_code op) IsNear
unfolding shape_of int_constant_of long_constant_of load_op_of fixed_load_of array_load_of store_op_of fixed_store_of array_store_of stack_op_of arithmetic_of division_of negation_of shift_of bitwise_of conversion_of zero_test_of int_test_of reference_test_of return_op_of field_op_of invoke_op_of null_test_of
null_test_row null_test.Ifnull = record { small = omega arith; shaped = refl }
null_test_row null_test.Ifnonnull = record { small = omega arith; shaped = refl }

load_wide : (op : LoadOp) → wide_shape (load_op_code op) ≡ Some IsLocal
unfolding wide_shape load_op_of store_op_of
load_wide load_op.Iload = refl
load_wide load_op.Lload = refl
load_wide load_op.Aload = refl

store_wide : (op : StoreOp) → wide_shape (store_op_code op) ≡ Some IsLocal
unfolding wide_shape load_op_of store_op_of
store_wide store_op.Istore = refl
store_wide store_op.Lstore = refl
store_wide store_op.Astore = refl

by_row : (c : ℕ) (s : Shape) (o : Operands) → Stands c s → HasShape (Some s) o → (c < 256) × HasShape (shape_of c) o
by_row c s o r h = (r.small, subst (λ (x : Option Shape). HasShape x o) (sym r.shaped) h)

-- what the types see to, and the rest, is all that the row asks
pub allowed_of : (i : Instr) → HasWidths (row_of i).operands → HasOperands i → Allowed (row_of i)
unfolding shape_of
allowed_of instr.AconstNull w h = (omega arith, w)
allowed_of (instr.Iconst op) w h = by_row (int_constant_code op) IsNothing Nothing (int_constant_row op) w
allowed_of (instr.Lconst op) w h = by_row (long_constant_code op) IsNothing Nothing (long_constant_row op) w
allowed_of (instr.Bipush n) w h = (omega arith, w)
allowed_of (instr.Sipush n) w h = (omega arith, w)
allowed_of (instr.LdcW p) w h = (omega arith, w)
allowed_of (instr.Ldc2W p) w h = (omega arith, w)
allowed_of (instr.Load op n) w h = by_row (load_op_code op) IsByte (Byte n) (load_op_row op) w
allowed_of (instr.LoadFixed op) w h = by_row (fixed_load_code op) IsNothing Nothing (fixed_load_row op) w
allowed_of (instr.LoadElement op) w h = by_row (array_load_code op) IsNothing Nothing (array_load_row op) w
allowed_of (instr.Store op n) w h = by_row (store_op_code op) IsByte (Byte n) (store_op_row op) w
allowed_of (instr.StoreFixed op) w h = by_row (fixed_store_code op) IsNothing Nothing (fixed_store_row op) w
allowed_of (instr.StoreElement op) w h = by_row (array_store_code op) IsNothing Nothing (array_store_row op) w
allowed_of (instr.Stack op) w h = by_row (stack_op_code op) IsNothing Nothing (stack_op_row op) w
allowed_of (instr.Arithmetic op) w h = by_row (arithmetic_code op) IsNothing Nothing (arithmetic_row op) w
allowed_of (instr.Divide op) w h = by_row (division_code op) IsNothing Nothing (division_row op) w
allowed_of (instr.Negate op) w h = by_row (negation_code op) IsNothing Nothing (negation_row op) w
allowed_of (instr.Shift op) w h = by_row (shift_code op) IsNothing Nothing (shift_row op) w
allowed_of (instr.Bitwise op) w h = by_row (bitwise_code op) IsNothing Nothing (bitwise_row op) w
allowed_of (instr.Iinc n k) w h = (omega arith, w)
allowed_of (instr.Convert op) w h = by_row (conversion_code op) IsNothing Nothing (conversion_row op) w
allowed_of instr.Lcmp w h = (omega arith, w)
allowed_of (instr.If op t) w h = by_row (zero_test_code op) IsNear (Near t) (zero_test_row op) w
allowed_of (instr.IfIcmp op t) w h = by_row (int_test_code op) IsNear (Near t) (int_test_row op) w
allowed_of (instr.IfAcmp op t) w h = by_row (reference_test_code op) IsNear (Near t) (reference_test_row op) w
allowed_of (instr.Goto t) w h = (omega arith, w)
allowed_of (instr.TableSwitch t) w h = (omega arith, h)
allowed_of (instr.LookupSwitch t) w h = (omega arith, h)
allowed_of (instr.Return op) w h = by_row (return_op_code op) IsNothing Nothing (return_op_row op) w
allowed_of (instr.Field op p) w h = by_row (field_op_code op) IsHalf (Half p) (field_op_row op) w
allowed_of (instr.Invoke op p) w h = by_row (invoke_op_code op) IsHalf (Half p) (invoke_op_row op) w
allowed_of (instr.InvokeInterface p n) w h = (omega arith, (w.0, w.1, h))
allowed_of (instr.New p) w h = (omega arith, w)
allowed_of instr.NewIntArray w h = (omega arith, w)
allowed_of (instr.AnewArray p) w h = (omega arith, w)
allowed_of instr.ArrayLength w h = (omega arith, w)
allowed_of instr.Athrow w h = (omega arith, w)
allowed_of (instr.Checkcast p) w h = (omega arith, w)
allowed_of (instr.Instanceof p) w h = (omega arith, w)
allowed_of (instr.WideLoad op n) w h = (omega arith, (load_wide op, w))
allowed_of (instr.WideStore op n) w h = (omega arith, (store_wide op, w))
allowed_of (instr.WideIinc n k) w h = (omega arith, w)
allowed_of (instr.IfNull op t) w h = by_row (null_test_code op) IsNear (Near t) (null_test_row op) w
allowed_of (instr.GotoW t) w h = (omega arith, w)

pub operands_of : (i : Instr) → Allowed (row_of i) → HasOperands i
unfolding shape_of
operands_of instr.AconstNull h = tt
operands_of (instr.Iconst op) h = tt
operands_of (instr.Lconst op) h = tt
operands_of (instr.Bipush n) h = tt
operands_of (instr.Sipush n) h = tt
operands_of (instr.LdcW p) h = tt
operands_of (instr.Ldc2W p) h = tt
operands_of (instr.Load op n) h = tt
operands_of (instr.LoadFixed op) h = tt
operands_of (instr.LoadElement op) h = tt
operands_of (instr.Store op n) h = tt
operands_of (instr.StoreFixed op) h = tt
operands_of (instr.StoreElement op) h = tt
operands_of (instr.Stack op) h = tt
operands_of (instr.Arithmetic op) h = tt
operands_of (instr.Divide op) h = tt
operands_of (instr.Negate op) h = tt
operands_of (instr.Shift op) h = tt
operands_of (instr.Bitwise op) h = tt
operands_of (instr.Iinc n k) h = tt
operands_of (instr.Convert op) h = tt
operands_of instr.Lcmp h = tt
operands_of (instr.If op t) h = tt
operands_of (instr.IfIcmp op t) h = tt
operands_of (instr.IfAcmp op t) h = tt
operands_of (instr.Goto t) h = tt
operands_of (instr.TableSwitch t) h = h.1
operands_of (instr.LookupSwitch t) h = h.1
operands_of (instr.Return op) h = tt
operands_of (instr.Field op p) h = tt
operands_of (instr.Invoke op p) h = tt
operands_of (instr.InvokeInterface p n) h = h.1.2
operands_of (instr.New p) h = tt
operands_of instr.NewIntArray h = tt
operands_of (instr.AnewArray p) h = tt
operands_of instr.ArrayLength h = tt
operands_of instr.Athrow h = tt
operands_of (instr.Checkcast p) h = tt
operands_of (instr.Instanceof p) h = tt
operands_of (instr.WideLoad op n) h = tt
operands_of (instr.WideStore op n) h = tt
operands_of (instr.WideIinc n k) h = tt
operands_of (instr.IfNull op t) h = tt
operands_of (instr.GotoW t) h = tt
