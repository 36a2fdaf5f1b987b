-- The instruction of an opcode and its operands: the table from the other side. Switches own lists in memory, and
-- are not among these.
use Rattle.std.specs.Prelude.{ℕ, Option, Some, None, ◌==◌, if◌then◌else◌}
use Rattle.std.specs.Int.{w8, w16, cast_signed}
use Rattle.jvm_code_opcodes.specs.declared.opcodes.LoadOp.{LoadOp}
use Rattle.jvm_code_opcodes.specs.declared.opcodes.StoreOp.{StoreOp}
use Rattle.jvm_code_instructions.specs.declared.instr.Instr.{Instr}
use Rattle.jvm_code_instructions.specs.declared.instr.Instr.TheVariants as instr
use Rattle.jvm_code_opcodes.specs.Opcodes.{int_constant_of, long_constant_of, load_op_of, fixed_load_of, array_load_of, store_op_of, fixed_store_of, array_store_of, stack_op_of, arithmetic_of, division_of, negation_of, shift_of, bitwise_of, conversion_of, zero_test_of, int_test_of, reference_test_of, return_op_of, field_op_of, invoke_op_of, null_test_of}
use Rattle.jvm_code_instructions.specs.Table.{Operands, Nothing, Byte, Half, LocalAmount, Near, Far, Called, Ints, Table, Lookup, Wide, WideAmount}

abbrev work_instr : ℕ → Option Instr
work_instr c = elim (division_of c) [ Some op ↦ Some (instr.Divide op) | None ↦ elim (negation_of c) [ Some op ↦ Some (instr.Negate op) | None ↦ elim (shift_of c) [ Some op ↦ Some (instr.Shift op) | None ↦ elim (bitwise_of c) [ Some op ↦ Some (instr.Bitwise op) | None ↦ elim (conversion_of c) [ Some op ↦ Some (instr.Convert op) | None ↦ elim (return_op_of c) [ Some op ↦ Some (instr.Return op) | None ↦ None ] ] ] ] ] ]

abbrev bare_instr : ℕ → Option Instr
bare_instr c = elim (int_constant_of c) [ Some op ↦ Some (instr.Iconst op) | None ↦ elim (long_constant_of c) [ Some op ↦ Some (instr.Lconst op) | None ↦ elim (fixed_load_of c) [ Some op ↦ Some (instr.LoadFixed op) | None ↦ elim (array_load_of c) [ Some op ↦ Some (instr.LoadElement op) | None ↦ elim (fixed_store_of c) [ Some op ↦ Some (instr.StoreFixed op) | None ↦ elim (array_store_of c) [ Some op ↦ Some (instr.StoreElement op) | None ↦ elim (stack_op_of c) [ Some op ↦ Some (instr.Stack op) | None ↦ elim (arithmetic_of c) [ Some op ↦ Some (instr.Arithmetic op) | None ↦ work_instr c ] ] ] ] ] ] ] ]

abbrev wide_named : Option LoadOp → Option StoreOp → ℕ → Option Instr
wide_named (Some op) store n = Some (instr.WideLoad op n)
wide_named None (Some op) n = Some (instr.WideStore op n)
wide_named None None n = None

unfoldable pub named : ℕ → Operands → Option Instr
named c Nothing = if c == 0x01 then Some instr.AconstNull else if c == 0x94 then Some instr.Lcmp else if c == 0xbe then Some instr.ArrayLength else if c == 0xbf then Some instr.Athrow else bare_instr c
named c (Byte n) = if c == 0x10 then Some (instr.Bipush (cast_signed w8 n)) else (elim (load_op_of c) [ Some op ↦ Some (instr.Load op n) | None ↦ elim (store_op_of c) [ Some op ↦ Some (instr.Store op n) | None ↦ None ] ])
named c (Half n) = if c == 0x11 then Some (instr.Sipush (cast_signed w16 n)) else if c == 0x13 then Some (instr.LdcW n) else if c == 0x14 then Some (instr.Ldc2W n) else if c == 0xbb then Some (instr.New n) else if c == 0xbd then Some (instr.AnewArray n) else if c == 0xc0 then Some (instr.Checkcast n) else if c == 0xc1 then Some (instr.Instanceof n) else (elim (field_op_of c) [ Some op ↦ Some (instr.Field op n) | None ↦ elim (invoke_op_of c) [ Some op ↦ Some (instr.Invoke op n) | None ↦ None ] ])
named c (LocalAmount n k) = Some (instr.Iinc n (cast_signed w8 k))
named c (Near t) = if c == 0xa7 then Some (instr.Goto t) else (elim (zero_test_of c) [ Some op ↦ Some (instr.If op t) | None ↦ elim (int_test_of c) [ Some op ↦ Some (instr.IfIcmp op t) | None ↦ elim (reference_test_of c) [ Some op ↦ Some (instr.IfAcmp op t) | None ↦ elim (null_test_of c) [ Some op ↦ Some (instr.IfNull op t) | None ↦ None ] ] ] ])
named c (Far t) = Some (instr.GotoW t)
named c (Called p n) = Some (instr.InvokeInterface p n)
named c Ints = Some instr.NewIntArray
named c (Table default low targets) = None
named c (Lookup default pairs) = None
named c (Wide k n) = wide_named (load_op_of k) (store_op_of k) n
named c (WideAmount n k) = Some (instr.WideIinc n (cast_signed w16 k))
