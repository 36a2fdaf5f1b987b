-- A row tells its instruction.
use Rattle.std.proofs.Common.{◌≡◌, ℕ, Option, Some, None, List, [], ◌∷◌, inl, inr, refl, sym, ap, subst, ◌∙◌, arith}
use Rattle.std.specs.Prelude.{ℤ, map, FitsSigned}
use Rattle.std.specs.List.{AllByRecursion}
use Rattle.std.specs.Int.{w8, w16, w32, cast_signed, cast_unsigned}
use Rattle.std.proofs.lemmas.Int.{ints}
use Rattle.jvm_code_instructions.specs.declared.instr.Instr.{Instr}
use Rattle.jvm_code_instructions.specs.declared.instr.Instr.TheVariants as instr
use Rattle.jvm_code_opcodes.specs.Opcodes.{int_constant_code, int_constant_of, long_constant_code, long_constant_of, load_op_code, load_op_of, fixed_load_code, fixed_load_of, array_load_code, array_load_of, store_op_code, store_op_of, fixed_store_code, fixed_store_of, array_store_code, array_store_of, stack_op_code, stack_op_of, arithmetic_code, arithmetic_of, division_code, division_of, negation_code, negation_of, shift_code, shift_of, bitwise_code, bitwise_of, conversion_code, conversion_of, zero_test_code, zero_test_of, int_test_code, int_test_of, reference_test_code, reference_test_of, return_op_code, return_op_of, field_op_code, field_op_of, invoke_op_code, invoke_op_of, null_test_code, null_test_of}
use Rattle.jvm_code_instructions.specs.Table.{Nothing, Byte, Half, Near, Wide, Row, row_of, pair_of, table_of, lookup_of}
use Rattle.jvm_code_instructions.specs.declared.instr.TableSwitch.{TableSwitch}
use Rattle.jvm_code_instructions.specs.declared.instr.LookupSwitch.{LookupSwitch}
use Rattle.jvm_code_instructions.specs.Widths.{HasRanges}
use Rattle.jvm_code_instructions.specs.Same.{SameTables, SameLookups, SameInstr}
use Rattle.jvm_code_instructions.proofs.Named.{named}
use Rattle.jvm_code_opcodes.specs.declared.opcodes.IntConstant.{IntConstant}
use Rattle.jvm_code_opcodes.specs.declared.opcodes.IntConstant.TheVariants as int_constant
use Rattle.jvm_code_opcodes.specs.declared.opcodes.LongConstant.{LongConstant}
use Rattle.jvm_code_opcodes.specs.declared.opcodes.LongConstant.TheVariants as long_constant
use Rattle.jvm_code_opcodes.specs.declared.opcodes.LoadOp.{LoadOp}
use Rattle.jvm_code_opcodes.specs.declared.opcodes.LoadOp.TheVariants as load_op
use Rattle.jvm_code_opcodes.specs.declared.opcodes.FixedLoad.{FixedLoad}
use Rattle.jvm_code_opcodes.specs.declared.opcodes.FixedLoad.TheVariants as fixed_load
use Rattle.jvm_code_opcodes.specs.declared.opcodes.ArrayLoad.{ArrayLoad}
use Rattle.jvm_code_opcodes.specs.declared.opcodes.ArrayLoad.TheVariants as array_load
use Rattle.jvm_code_opcodes.specs.declared.opcodes.StoreOp.{StoreOp}
use Rattle.jvm_code_opcodes.specs.declared.opcodes.StoreOp.TheVariants as store_op
use Rattle.jvm_code_opcodes.specs.declared.opcodes.FixedStore.{FixedStore}
use Rattle.jvm_code_opcodes.specs.declared.opcodes.FixedStore.TheVariants as fixed_store
use Rattle.jvm_code_opcodes.specs.declared.opcodes.ArrayStore.{ArrayStore}
use Rattle.jvm_code_opcodes.specs.declared.opcodes.ArrayStore.TheVariants as array_store
use Rattle.jvm_code_opcodes.specs.declared.opcodes.StackOp.{StackOp}
use Rattle.jvm_code_opcodes.specs.declared.opcodes.StackOp.TheVariants as stack_op
use Rattle.jvm_code_opcodes.specs.declared.opcodes.Arithmetic.{Arithmetic}
use Rattle.jvm_code_opcodes.specs.declared.opcodes.Arithmetic.TheVariants as arithmetic
use Rattle.jvm_code_opcodes.specs.declared.opcodes.Division.{Division}
use Rattle.jvm_code_opcodes.specs.declared.opcodes.Division.TheVariants as division
use Rattle.jvm_code_opcodes.specs.declared.opcodes.Negation.{Negation}
use Rattle.jvm_code_opcodes.specs.declared.opcodes.Negation.TheVariants as negation
use Rattle.jvm_code_opcodes.specs.declared.opcodes.Shift.{Shift}
use Rattle.jvm_code_opcodes.specs.declared.opcodes.Shift.TheVariants as shift
use Rattle.jvm_code_opcodes.specs.declared.opcodes.Bitwise.{Bitwise}
use Rattle.jvm_code_opcodes.specs.declared.opcodes.Bitwise.TheVariants as bitwise
use Rattle.jvm_code_opcodes.specs.declared.opcodes.Conversion.{Conversion}
use Rattle.jvm_code_opcodes.specs.declared.opcodes.Conversion.TheVariants as conversion
use Rattle.jvm_code_opcodes.specs.declared.opcodes.ZeroTest.{ZeroTest}
use Rattle.jvm_code_opcodes.specs.declared.opcodes.ZeroTest.TheVariants as zero_test
use Rattle.jvm_code_opcodes.specs.declared.opcodes.IntTest.{IntTest}
use Rattle.jvm_code_opcodes.specs.declared.opcodes.IntTest.TheVariants as int_test
use Rattle.jvm_code_opcodes.specs.declared.opcodes.ReferenceTest.{ReferenceTest}
use Rattle.jvm_code_opcodes.specs.declared.opcodes.ReferenceTest.TheVariants as reference_test
use Rattle.jvm_code_opcodes.specs.declared.opcodes.ReturnOp.{ReturnOp}
use Rattle.jvm_code_opcodes.specs.declared.opcodes.ReturnOp.TheVariants as return_op
use Rattle.jvm_code_opcodes.specs.declared.opcodes.FieldOp.{FieldOp}
use Rattle.jvm_code_opcodes.specs.declared.opcodes.FieldOp.TheVariants as field_op
use Rattle.jvm_code_opcodes.specs.declared.opcodes.InvokeOp.{InvokeOp}
use Rattle.jvm_code_opcodes.specs.declared.opcodes.InvokeOp.TheVariants as invoke_op
use Rattle.jvm_code_opcodes.specs.declared.opcodes.NullTest.{NullTest}
use Rattle.jvm_code_opcodes.specs.declared.opcodes.NullTest.TheVariants as null_test

int_constant_named : (op : IntConstant) → named (int_constant_code op) Nothing ≡ Some (instr.Iconst op)
unfolding named int_constant_of long_constant_of load_op_of fixed_load_of array_load_of store_op_of fixed_store_of array_store_of stack_op_of arithmetic_of division_of negation_of shift_of bitwise_of conversion_of zero_test_of int_test_of reference_test_of return_op_of field_op_of invoke_op_of null_test_of
int_constant_named int_constant.IconstM1 = refl
int_constant_named int_constant.Iconst0 = refl
int_constant_named int_constant.Iconst1 = refl
int_constant_named int_constant.Iconst2 = refl
int_constant_named int_constant.Iconst3 = refl
int_constant_named int_constant.Iconst4 = refl
int_constant_named int_constant.Iconst5 = refl

long_constant_named : (op : LongConstant) → named (long_constant_code op) Nothing ≡ Some (instr.Lconst op)
unfolding named int_constant_of long_constant_of load_op_of fixed_load_of array_load_of store_op_of fixed_store_of array_store_of stack_op_of arithmetic_of division_of negation_of shift_of bitwise_of conversion_of zero_test_of int_test_of reference_test_of return_op_of field_op_of invoke_op_of null_test_of
long_constant_named long_constant.Lconst0 = refl
long_constant_named long_constant.Lconst1 = refl

load_op_named : (op : LoadOp) (n : ℕ) → named (load_op_code op) (Byte n) ≡ Some (instr.Load op n)
unfolding named int_constant_of long_constant_of load_op_of fixed_load_of array_load_of store_op_of fixed_store_of array_store_of stack_op_of arithmetic_of division_of negation_of shift_of bitwise_of conversion_of zero_test_of int_test_of reference_test_of return_op_of field_op_of invoke_op_of null_test_of
load_op_named load_op.Iload n = refl
load_op_named load_op.Lload n = refl
load_op_named load_op.Aload n = refl

fixed_load_named : (op : FixedLoad) → named (fixed_load_code op) Nothing ≡ Some (instr.LoadFixed op)
unfolding named int_constant_of long_constant_of load_op_of fixed_load_of array_load_of store_op_of fixed_store_of array_store_of stack_op_of arithmetic_of division_of negation_of shift_of bitwise_of conversion_of zero_test_of int_test_of reference_test_of return_op_of field_op_of invoke_op_of null_test_of
fixed_load_named fixed_load.Iload0 = refl
fixed_load_named fixed_load.Iload1 = refl
fixed_load_named fixed_load.Iload2 = refl
fixed_load_named fixed_load.Iload3 = refl
fixed_load_named fixed_load.Lload0 = refl
fixed_load_named fixed_load.Lload1 = refl
fixed_load_named fixed_load.Lload2 = refl
fixed_load_named fixed_load.Lload3 = refl
fixed_load_named fixed_load.Aload0 = refl
fixed_load_named fixed_load.Aload1 = refl
fixed_load_named fixed_load.Aload2 = refl
fixed_load_named fixed_load.Aload3 = refl

array_load_named : (op : ArrayLoad) → named (array_load_code op) Nothing ≡ Some (instr.LoadElement op)
unfolding named int_constant_of long_constant_of load_op_of fixed_load_of array_load_of store_op_of fixed_store_of array_store_of stack_op_of arithmetic_of division_of negation_of shift_of bitwise_of conversion_of zero_test_of int_test_of reference_test_of return_op_of field_op_of invoke_op_of null_test_of
array_load_named array_load.Iaload = refl
array_load_named array_load.Aaload = refl

store_op_named : (op : StoreOp) (n : ℕ) → named (store_op_code op) (Byte n) ≡ Some (instr.Store op n)
unfolding named int_constant_of long_constant_of load_op_of fixed_load_of array_load_of store_op_of fixed_store_of array_store_of stack_op_of arithmetic_of division_of negation_of shift_of bitwise_of conversion_of zero_test_of int_test_of reference_test_of return_op_of field_op_of invoke_op_of null_test_of
store_op_named store_op.Istore n = refl
store_op_named store_op.Lstore n = refl
store_op_named store_op.Astore n = refl

fixed_store_named : (op : FixedStore) → named (fixed_store_code op) Nothing ≡ Some (instr.StoreFixed op)
unfolding named int_constant_of long_constant_of load_op_of fixed_load_of array_load_of store_op_of fixed_store_of array_store_of stack_op_of arithmetic_of division_of negation_of shift_of bitwise_of conversion_of zero_test_of int_test_of reference_test_of return_op_of field_op_of invoke_op_of null_test_of
fixed_store_named fixed_store.Istore0 = refl
fixed_store_named fixed_store.Istore1 = refl
fixed_store_named fixed_store.Istore2 = refl
fixed_store_named fixed_store.Istore3 = refl
fixed_store_named fixed_store.Lstore0 = refl
fixed_store_named fixed_store.Lstore1 = refl
fixed_store_named fixed_store.Lstore2 = refl
fixed_store_named fixed_store.Lstore3 = refl
fixed_store_named fixed_store.Astore0 = refl
fixed_store_named fixed_store.Astore1 = refl
fixed_store_named fixed_store.Astore2 = refl
fixed_store_named fixed_store.Astore3 = refl

array_store_named : (op : ArrayStore) → named (array_store_code op) Nothing ≡ Some (instr.StoreElement op)
unfolding named int_constant_of long_constant_of load_op_of fixed_load_of array_load_of store_op_of fixed_store_of array_store_of stack_op_of arithmetic_of division_of negation_of shift_of bitwise_of conversion_of zero_test_of int_test_of reference_test_of return_op_of field_op_of invoke_op_of null_test_of
array_store_named array_store.Iastore = refl
array_store_named array_store.Aastore = refl

stack_op_named : (op : StackOp) → named (stack_op_code op) Nothing ≡ Some (instr.Stack op)
unfolding named int_constant_of long_constant_of load_op_of fixed_load_of array_load_of store_op_of fixed_store_of array_store_of stack_op_of arithmetic_of division_of negation_of shift_of bitwise_of conversion_of zero_test_of int_test_of reference_test_of return_op_of field_op_of invoke_op_of null_test_of
stack_op_named stack_op.Pop = refl
stack_op_named stack_op.Pop2 = refl
stack_op_named stack_op.Dup = refl
stack_op_named stack_op.DupX1 = refl
stack_op_named stack_op.DupX2 = refl
stack_op_named stack_op.Dup2 = refl
stack_op_named stack_op.Dup2X1 = refl
stack_op_named stack_op.Dup2X2 = refl
stack_op_named stack_op.Swap = refl

arithmetic_named : (op : Arithmetic) → named (arithmetic_code op) Nothing ≡ Some (instr.Arithmetic op)
unfolding named int_constant_of long_constant_of load_op_of fixed_load_of array_load_of store_op_of fixed_store_of array_store_of stack_op_of arithmetic_of division_of negation_of shift_of bitwise_of conversion_of zero_test_of int_test_of reference_test_of return_op_of field_op_of invoke_op_of null_test_of
arithmetic_named arithmetic.Iadd = refl
arithmetic_named arithmetic.Ladd = refl
arithmetic_named arithmetic.Isub = refl
arithmetic_named arithmetic.Lsub = refl
arithmetic_named arithmetic.Imul = refl
arithmetic_named arithmetic.Lmul = refl

division_named : (op : Division) → named (division_code op) Nothing ≡ Some (instr.Divide op)
unfolding named int_constant_of long_constant_of load_op_of fixed_load_of array_load_of store_op_of fixed_store_of array_store_of stack_op_of arithmetic_of division_of negation_of shift_of bitwise_of conversion_of zero_test_of int_test_of reference_test_of return_op_of field_op_of invoke_op_of null_test_of
division_named division.Idiv = refl
division_named division.Ldiv = refl
division_named division.Irem = refl
division_named division.Lrem = refl

negation_named : (op : Negation) → named (negation_code op) Nothing ≡ Some (instr.Negate op)
unfolding named int_constant_of long_constant_of load_op_of fixed_load_of array_load_of store_op_of fixed_store_of array_store_of stack_op_of arithmetic_of division_of negation_of shift_of bitwise_of conversion_of zero_test_of int_test_of reference_test_of return_op_of field_op_of invoke_op_of null_test_of
negation_named negation.Ineg = refl
negation_named negation.Lneg = refl

shift_named : (op : Shift) → named (shift_code op) Nothing ≡ Some (instr.Shift op)
unfolding named int_constant_of long_constant_of load_op_of fixed_load_of array_load_of store_op_of fixed_store_of array_store_of stack_op_of arithmetic_of division_of negation_of shift_of bitwise_of conversion_of zero_test_of int_test_of reference_test_of return_op_of field_op_of invoke_op_of null_test_of
shift_named shift.Ishl = refl
shift_named shift.Lshl = refl
shift_named shift.Ishr = refl
shift_named shift.Lshr = refl
shift_named shift.Iushr = refl
shift_named shift.Lushr = refl

bitwise_named : (op : Bitwise) → named (bitwise_code op) Nothing ≡ Some (instr.Bitwise op)
unfolding named int_constant_of long_constant_of load_op_of fixed_load_of array_load_of store_op_of fixed_store_of array_store_of stack_op_of arithmetic_of division_of negation_of shift_of bitwise_of conversion_of zero_test_of int_test_of reference_test_of return_op_of field_op_of invoke_op_of null_test_of
bitwise_named bitwise.Iand = refl
bitwise_named bitwise.Land = refl
bitwise_named bitwise.Ior = refl
bitwise_named bitwise.Lor = refl
bitwise_named bitwise.Ixor = refl
bitwise_named bitwise.Lxor = refl

conversion_named : (op : Conversion) → named (conversion_code op) Nothing ≡ Some (instr.Convert op)
unfolding named int_constant_of long_constant_of load_op_of fixed_load_of array_load_of store_op_of fixed_store_of array_store_of stack_op_of arithmetic_of division_of negation_of shift_of bitwise_of conversion_of zero_test_of int_test_of reference_test_of return_op_of field_op_of invoke_op_of null_test_of
conversion_named conversion.I2l = refl
conversion_named conversion.L2i = refl
conversion_named conversion.I2c = refl

zero_test_named : (op : ZeroTest) (n : ℕ) → named (zero_test_code op) (Near n) ≡ Some (instr.If op n)
unfolding named int_constant_of long_constant_of load_op_of fixed_load_of array_load_of store_op_of fixed_store_of array_store_of stack_op_of arithmetic_of division_of negation_of shift_of bitwise_of conversion_of zero_test_of int_test_of reference_test_of return_op_of field_op_of invoke_op_of null_test_of
zero_test_named zero_test.Ifeq n = refl
zero_test_named zero_test.Ifne n = refl
zero_test_named zero_test.Iflt n = refl
zero_test_named zero_test.Ifge n = refl
zero_test_named zero_test.Ifgt n = refl
zero_test_named zero_test.Ifle n = refl

int_test_named : (op : IntTest) (n : ℕ) → named (int_test_code op) (Near n) ≡ Some (instr.IfIcmp op n)
unfolding named int_constant_of long_constant_of load_op_of fixed_load_of array_load_of store_op_of fixed_store_of array_store_of stack_op_of arithmetic_of division_of negation_of shift_of bitwise_of conversion_of zero_test_of int_test_of reference_test_of return_op_of field_op_of invoke_op_of null_test_of
int_test_named int_test.IfIcmpeq n = refl
int_test_named int_test.IfIcmpne n = refl
int_test_named int_test.IfIcmplt n = refl
int_test_named int_test.IfIcmpge n = refl
int_test_named int_test.IfIcmpgt n = refl
int_test_named int_test.IfIcmple n = refl

reference_test_named : (op : ReferenceTest) (n : ℕ) → named (reference_test_code op) (Near n) ≡ Some (instr.IfAcmp op n)
unfolding named int_constant_of long_constant_of load_op_of fixed_load_of array_load_of store_op_of fixed_store_of array_store_of stack_op_of arithmetic_of division_of negation_of shift_of bitwise_of conversion_of zero_test_of int_test_of reference_test_of return_op_of field_op_of invoke_op_of null_test_of
reference_test_named reference_test.IfAcmpeq n = refl
reference_test_named reference_test.IfAcmpne n = refl

return_op_named : (op : ReturnOp) → named (return_op_code op) Nothing ≡ Some (instr.Return op)
unfolding named int_constant_of long_constant_of load_op_of fixed_load_of array_load_of store_op_of fixed_store_of array_store_of stack_op_of arithmetic_of division_of negation_of shift_of bitwise_of conversion_of zero_test_of int_test_of reference_test_of return_op_of field_op_of invoke_op_of null_test_of
return_op_named return_op.Ireturn = refl
return_op_named return_op.Lreturn = refl
return_op_named return_op.Areturn = refl
return_op_named return_op.Return = refl

field_op_named : (op : FieldOp) (n : ℕ) → named (field_op_code op) (Half n) ≡ Some (instr.Field op n)
unfolding named int_constant_of long_constant_of load_op_of fixed_load_of array_load_of store_op_of fixed_store_of array_store_of stack_op_of arithmetic_of division_of negation_of shift_of bitwise_of conversion_of zero_test_of int_test_of reference_test_of return_op_of field_op_of invoke_op_of null_test_of
field_op_named field_op.Getfield n = refl
field_op_named field_op.Putfield n = refl

invoke_op_named : (op : InvokeOp) (n : ℕ) → named (invoke_op_code op) (Half n) ≡ Some (instr.Invoke op n)
unfolding named int_constant_of long_constant_of load_op_of fixed_load_of array_load_of store_op_of fixed_store_of array_store_of stack_op_of arithmetic_of division_of negation_of shift_of bitwise_of conversion_of zero_test_of int_test_of reference_test_of return_op_of field_op_of invoke_op_of null_test_of
invoke_op_named invoke_op.Invokevirtual n = refl
invoke_op_named invoke_op.Invokespecial n = refl
invoke_op_named invoke_op.Invokestatic n = refl

null_test_named : (op : NullTest) (n : ℕ) → named (null_test_code op) (Near n) ≡ Some (instr.IfNull op n)
unfolding named int_constant_of long_constant_of load_op_of fixed_load_of array_load_of store_op_of fixed_store_of array_store_of stack_op_of arithmetic_of division_of negation_of shift_of bitwise_of conversion_of zero_test_of int_test_of reference_test_of return_op_of field_op_of invoke_op_of null_test_of
null_test_named null_test.Ifnull n = refl
null_test_named null_test.Ifnonnull n = refl

wide_load_named : (op : LoadOp) (n : ℕ) → named 0xc4 (Wide (load_op_code op) n) ≡ Some (instr.WideLoad op n)
unfolding named load_op_of store_op_of
wide_load_named load_op.Iload n = refl
wide_load_named load_op.Lload n = refl
wide_load_named load_op.Aload n = refl

wide_store_named : (op : StoreOp) (n : ℕ) → named 0xc4 (Wide (store_op_code op) n) ≡ Some (instr.WideStore op n)
unfolding named load_op_of store_op_of
wide_store_named store_op.Istore n = refl
wide_store_named store_op.Lstore n = refl
wide_store_named store_op.Astore n = refl

byte_back : (n : ℤ) → FitsSigned w8 n → cast_signed w8 (cast_unsigned w8 n) ≡ n
byte_back n h = grind (arith, ints)

half_back : (n : ℤ) → FitsSigned w16 n → cast_signed w16 (cast_unsigned w16 n) ≡ n
half_back n h = grind (arith, ints)

word_back : (n : ℤ) → FitsSigned w32 n → cast_signed w32 (cast_unsigned w32 n) ≡ n
word_back n h = grind (arith, ints)

-- an instruction that is no switch
abbrev shown : Instr → Option Instr
shown (instr.TableSwitch t) = None
shown (instr.LookupSwitch t) = None
shown instr.AconstNull = Some instr.AconstNull
shown (instr.Iconst op) = Some (instr.Iconst op)
shown (instr.Lconst op) = Some (instr.Lconst op)
shown (instr.Bipush n) = Some (instr.Bipush n)
shown (instr.Sipush n) = Some (instr.Sipush n)
shown (instr.LdcW p) = Some (instr.LdcW p)
shown (instr.Ldc2W p) = Some (instr.Ldc2W p)
shown (instr.Load op n) = Some (instr.Load op n)
shown (instr.LoadFixed op) = Some (instr.LoadFixed op)
shown (instr.LoadElement op) = Some (instr.LoadElement op)
shown (instr.Store op n) = Some (instr.Store op n)
shown (instr.StoreFixed op) = Some (instr.StoreFixed op)
shown (instr.StoreElement op) = Some (instr.StoreElement op)
shown (instr.Stack op) = Some (instr.Stack op)
shown (instr.Arithmetic op) = Some (instr.Arithmetic op)
shown (instr.Divide op) = Some (instr.Divide op)
shown (instr.Negate op) = Some (instr.Negate op)
shown (instr.Shift op) = Some (instr.Shift op)
shown (instr.Bitwise op) = Some (instr.Bitwise op)
shown (instr.Iinc n k) = Some (instr.Iinc n k)
shown (instr.Convert op) = Some (instr.Convert op)
shown instr.Lcmp = Some instr.Lcmp
shown (instr.If op t) = Some (instr.If op t)
shown (instr.IfIcmp op t) = Some (instr.IfIcmp op t)
shown (instr.IfAcmp op t) = Some (instr.IfAcmp op t)
shown (instr.Goto t) = Some (instr.Goto t)
shown (instr.Return op) = Some (instr.Return op)
shown (instr.Field op p) = Some (instr.Field op p)
shown (instr.Invoke op p) = Some (instr.Invoke op p)
shown (instr.InvokeInterface p n) = Some (instr.InvokeInterface p n)
shown (instr.New p) = Some (instr.New p)
shown instr.NewIntArray = Some instr.NewIntArray
shown (instr.AnewArray p) = Some (instr.AnewArray p)
shown instr.ArrayLength = Some instr.ArrayLength
shown instr.Athrow = Some instr.Athrow
shown (instr.Checkcast p) = Some (instr.Checkcast p)
shown (instr.Instanceof p) = Some (instr.Instanceof p)
shown (instr.WideLoad op n) = Some (instr.WideLoad op n)
shown (instr.WideStore op n) = Some (instr.WideStore op n)
shown (instr.WideIinc n k) = Some (instr.WideIinc n k)
shown (instr.IfNull op t) = Some (instr.IfNull op t)
shown (instr.GotoW t) = Some (instr.GotoW t)

-- every instruction that is no switch is the one of its row
tells : (i : Instr) → HasRanges i → named (row_of i).opcode (row_of i).operands ≡ shown i
unfolding named
tells (instr.TableSwitch t) h = refl
tells (instr.LookupSwitch t) h = refl
tells instr.AconstNull h = refl
tells (instr.Iconst op) h = int_constant_named op
tells (instr.Lconst op) h = long_constant_named op
tells (instr.Bipush n) h = ap (λ k. Some (instr.Bipush k)) (byte_back n h)
tells (instr.Sipush n) h = ap (λ k. Some (instr.Sipush k)) (half_back n h)
tells (instr.LdcW p) h = refl
tells (instr.Ldc2W p) h = refl
tells (instr.Load op n) h = load_op_named op n
tells (instr.LoadFixed op) h = fixed_load_named op
tells (instr.LoadElement op) h = array_load_named op
tells (instr.Store op n) h = store_op_named op n
tells (instr.StoreFixed op) h = fixed_store_named op
tells (instr.StoreElement op) h = array_store_named op
tells (instr.Stack op) h = stack_op_named op
tells (instr.Arithmetic op) h = arithmetic_named op
tells (instr.Divide op) h = division_named op
tells (instr.Negate op) h = negation_named op
tells (instr.Shift op) h = shift_named op
tells (instr.Bitwise op) h = bitwise_named op
tells (instr.Iinc n k) h = ap (λ k. Some (instr.Iinc n k)) (byte_back k h)
tells (instr.Convert op) h = conversion_named op
tells instr.Lcmp h = refl
tells (instr.If op t) h = zero_test_named op t
tells (instr.IfIcmp op t) h = int_test_named op t
tells (instr.IfAcmp op t) h = reference_test_named op t
tells (instr.Goto t) h = refl
tells (instr.Return op) h = return_op_named op
tells (instr.Field op p) h = field_op_named op p
tells (instr.Invoke op p) h = invoke_op_named op p
tells (instr.InvokeInterface p n) h = refl
tells (instr.New p) h = refl
tells instr.NewIntArray h = refl
tells (instr.AnewArray p) h = refl
tells instr.ArrayLength h = refl
tells instr.Athrow h = refl
tells (instr.Checkcast p) h = refl
tells (instr.Instanceof p) h = refl
tells (instr.WideLoad op n) h = wide_load_named op n
tells (instr.WideStore op n) h = wide_store_named op n
tells (instr.WideIinc n k) h = ap (λ k. Some (instr.WideIinc n k)) (half_back k h)
tells (instr.IfNull op t) h = null_test_named op t
tells (instr.GotoW t) h = refl

-- the kinds of instructions
data KindOf (i : Instr) : Type 0 where
  Plain : shown i ≡ Some i → KindOf i
  ATable : (t : TableSwitch) → i ≡ instr.TableSwitch t → KindOf i
  ALookup : (t : LookupSwitch) → i ≡ instr.LookupSwitch t → KindOf i

kind_of : (i : Instr) → KindOf i
kind_of (instr.TableSwitch t) = ATable t refl
kind_of (instr.LookupSwitch t) = ALookup t refl
kind_of instr.AconstNull = Plain refl
kind_of (instr.Iconst op) = Plain refl
kind_of (instr.Lconst op) = Plain refl
kind_of (instr.Bipush n) = Plain refl
kind_of (instr.Sipush n) = Plain refl
kind_of (instr.LdcW p) = Plain refl
kind_of (instr.Ldc2W p) = Plain refl
kind_of (instr.Load op n) = Plain refl
kind_of (instr.LoadFixed op) = Plain refl
kind_of (instr.LoadElement op) = Plain refl
kind_of (instr.Store op n) = Plain refl
kind_of (instr.StoreFixed op) = Plain refl
kind_of (instr.StoreElement op) = Plain refl
kind_of (instr.Stack op) = Plain refl
kind_of (instr.Arithmetic op) = Plain refl
kind_of (instr.Divide op) = Plain refl
kind_of (instr.Negate op) = Plain refl
kind_of (instr.Shift op) = Plain refl
kind_of (instr.Bitwise op) = Plain refl
kind_of (instr.Iinc n k) = Plain refl
kind_of (instr.Convert op) = Plain refl
kind_of instr.Lcmp = Plain refl
kind_of (instr.If op t) = Plain refl
kind_of (instr.IfIcmp op t) = Plain refl
kind_of (instr.IfAcmp op t) = Plain refl
kind_of (instr.Goto t) = Plain refl
kind_of (instr.Return op) = Plain refl
kind_of (instr.Field op p) = Plain refl
kind_of (instr.Invoke op p) = Plain refl
kind_of (instr.InvokeInterface p n) = Plain refl
kind_of (instr.New p) = Plain refl
kind_of instr.NewIntArray = Plain refl
kind_of (instr.AnewArray p) = Plain refl
kind_of instr.ArrayLength = Plain refl
kind_of instr.Athrow = Plain refl
kind_of (instr.Checkcast p) = Plain refl
kind_of (instr.Instanceof p) = Plain refl
kind_of (instr.WideLoad op n) = Plain refl
kind_of (instr.WideStore op n) = Plain refl
kind_of (instr.WideIinc n k) = Plain refl
kind_of (instr.IfNull op t) = Plain refl
kind_of (instr.GotoW t) = Plain refl

one_pair : (p q : ℤ × ℕ) → FitsSigned w32 p.0 → FitsSigned w32 q.0 → pair_of p ≡ pair_of q → p ≡ q
one_pair p q hp hq e =
    let numbers : p.0 ≡ q.0 = sym (word_back p.0 hp) ∙ ap (λ (x : ℕ × ℕ). cast_signed w32 x.0) e ∙ word_back q.0 hq in
    let targets : p.1 ≡ q.1 = ap (λ (x : ℕ × ℕ). x.1) e in
    ap (λ (n : ℤ). (n, p.1)) numbers ∙ ap (λ (t : ℕ). (q.0, t)) targets

one_list : (ps qs : List (ℤ × ℕ)) → AllByRecursion (λ p. FitsSigned w32 p.0) ps → AllByRecursion (λ p. FitsSigned w32 p.0) qs → map pair_of ps ≡ map pair_of qs → ps ≡ qs
one_list [] [] h k e = refl
one_list [] (q ∷ qs) h k e = absurd cc
one_list (p ∷ ps) [] h k e = absurd cc
one_list (p ∷ ps) (q ∷ qs) h k e =
    let first : pair_of p ≡ pair_of q = cc in
    let rest : map pair_of ps ≡ map pair_of qs = cc in
    let same : p ≡ q = one_pair p q h.0 k.0 first in
    let more : ps ≡ qs = one_list ps qs h.1 k.1 rest in
    cc (same, more)

operands_same : (i j : Instr) → row_of i ≡ row_of j → (row_of i).operands ≡ (row_of j).operands
operands_same i j e = ap (λ (r : Row). r.operands) e

same_tables : (s t : TableSwitch) → HasRanges (instr.TableSwitch s) → HasRanges (instr.TableSwitch t) → table_of s ≡ table_of t → SameTables (instr.TableSwitch s) (instr.TableSwitch t)
same_tables s t hs ht e =
    let low : cast_unsigned w32 s.low ≡ cast_unsigned w32 t.low = cc in
    (s, t, refl, refl, cc, sym (word_back s.low hs) ∙ ap (λ (n : ℕ). cast_signed w32 n) low ∙ word_back t.low ht, cc)

same_lookups : (s t : LookupSwitch) → HasRanges (instr.LookupSwitch s) → HasRanges (instr.LookupSwitch t) → lookup_of s ≡ lookup_of t → SameLookups (instr.LookupSwitch s) (instr.LookupSwitch t)
same_lookups s t hs ht e =
    let pairs : map pair_of s.pairs.items ≡ map pair_of t.pairs.items = cc in
    (s, t, refl, refl, cc, one_list s.pairs.items t.pairs.items hs ht pairs)

not_both : (s : TableSwitch) (t : LookupSwitch) → table_of s ≡ lookup_of t → ⊥
not_both s t e = cc

by_kind : (i j : Instr) → HasRanges i → HasRanges j → row_of i ≡ row_of j → shown i ≡ shown j → KindOf i → KindOf j → SameInstr i j
by_kind i j hi hj e same (Plain a) (Plain b) = inl cc
by_kind i j hi hj e same (Plain a) (ATable t b) = absurd (let n : shown j ≡ None = ap shown b in cc)
by_kind i j hi hj e same (Plain a) (ALookup t b) = absurd (let n : shown j ≡ None = ap shown b in cc)
by_kind i j hi hj e same (ATable s a) (Plain b) = absurd (let n : shown i ≡ None = ap shown a in cc)
by_kind i j hi hj e same (ALookup s a) (Plain b) = absurd (let n : shown i ≡ None = ap shown a in cc)
by_kind i j hi hj e same (ATable s a) (ATable t b) =
    let rows : table_of s ≡ table_of t = sym (ap (λ (k : Instr). (row_of k).operands) a) ∙ operands_same i j e ∙ ap (λ (k : Instr). (row_of k).operands) b in
    let tables = same_tables s t (subst HasRanges a hi) (subst HasRanges b hj) rows in
    inr (inl (subst (λ (k : Instr). SameTables k j) (sym a) (subst (λ (k : Instr). SameTables (instr.TableSwitch s) k) (sym b) tables)))
by_kind i j hi hj e same (ALookup s a) (ALookup t b) =
    let rows : lookup_of s ≡ lookup_of t = sym (ap (λ (k : Instr). (row_of k).operands) a) ∙ operands_same i j e ∙ ap (λ (k : Instr). (row_of k).operands) b in
    let lookups = same_lookups s t (subst HasRanges a hi) (subst HasRanges b hj) rows in
    inr (inr (subst (λ (k : Instr). SameLookups k j) (sym a) (subst (λ (k : Instr). SameLookups (instr.LookupSwitch s) k) (sym b) lookups)))
by_kind i j hi hj e same (ATable s a) (ALookup t b) = absurd (not_both s t (sym (ap (λ (k : Instr). (row_of k).operands) a) ∙ operands_same i j e ∙ ap (λ (k : Instr). (row_of k).operands) b))
by_kind i j hi hj e same (ALookup s a) (ATable t b) = absurd (not_both t s (sym (ap (λ (k : Instr). (row_of k).operands) b) ∙ sym (operands_same i j e) ∙ ap (λ (k : Instr). (row_of k).operands) a))

-- a row tells its instruction
pub row_tells : (i j : Instr) → HasRanges i → HasRanges j → row_of i ≡ row_of j → SameInstr i j
row_tells i j hi hj e =
    by_kind i j hi hj e (sym (tells i hi) ∙ ap (λ (r : Row). named r.opcode r.operands) e ∙ tells j hj) (kind_of i) (kind_of j)
