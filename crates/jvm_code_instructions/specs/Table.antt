-- The instruction table (JVMS SE 8 §6.5): each instruction's opcode and operands, and the operands that an opcode has.
use Rattle.std.specs.Prelude.{ℕ, ℤ, List, map, Option, Some, None, ◌==◌, if◌then◌else◌}
use Rattle.std.specs.Int.{w8, w16, w32, cast_unsigned}
use Rattle.jvm_code_opcodes.specs.Opcodes.{int_constant_code, int_constant_of, long_constant_code, long_constant_of, load_op_code, load_op_of, fixed_load_code, fixed_load_of, array_load_code, array_load_of, store_op_code, store_op_of, fixed_store_code, fixed_store_of, array_store_code, array_store_of, stack_op_code, stack_op_of, arithmetic_code, arithmetic_of, division_code, division_of, negation_code, negation_of, shift_code, shift_of, bitwise_code, bitwise_of, conversion_code, conversion_of, zero_test_code, zero_test_of, int_test_code, int_test_of, reference_test_code, reference_test_of, return_op_code, return_op_of, field_op_code, field_op_of, invoke_op_code, invoke_op_of, null_test_code, null_test_of}
use Rattle.jvm_code_opcodes.specs.declared.opcodes.LoadOp.{LoadOp}
use Rattle.jvm_code_opcodes.specs.declared.opcodes.StoreOp.{StoreOp}
use Rattle.jvm_code_instructions.specs.declared.instr.TableSwitch.{TableSwitch}
use Rattle.jvm_code_instructions.specs.declared.instr.LookupSwitch.{LookupSwitch}
use Rattle.jvm_code_instructions.specs.declared.instr.Instr.{Instr}
use Rattle.jvm_code_instructions.specs.declared.instr.Instr.TheVariants as instr

-- the operands of an instruction: each number by its bits, each target as an offset in the code
pub data Operands : Type 0 where
  Nothing : Operands
  Byte : ℕ → Operands
  Half : ℕ → Operands
  LocalAmount : ℕ → ℕ → Operands
  Near : ℕ → Operands
  Far : ℕ → Operands
  Called : ℕ → ℕ → Operands
  Ints : Operands
  Table : ℕ → ℕ → List ℕ → Operands
  Lookup : ℕ → List (ℕ × ℕ) → Operands
  Wide : ℕ → ℕ → Operands
  WideAmount : ℕ → ℕ → Operands

-- an instruction as its row has it
pub record Row : Type 0 where
  pub opcode : ℕ
  pub operands : Operands

abbrev pub row : ℕ → Operands → Row
row c o = record { opcode = c; operands = o }

abbrev pub pair_of : ℤ × ℕ → ℕ × ℕ
pair_of p = (cast_unsigned w32 p.0, p.1)

abbrev pub table_of : TableSwitch → Operands
table_of t = Table t.default (cast_unsigned w32 t.low) t.targets.items

abbrev pub lookup_of : LookupSwitch → Operands
lookup_of t = Lookup t.default (map pair_of t.pairs.items)

-- the opcode and the operands of each instruction
abbrev pub row_of : Instr → Row
row_of instr.AconstNull = row 0x01 Nothing
row_of (instr.Iconst op) = row (int_constant_code op) Nothing
row_of (instr.Lconst op) = row (long_constant_code op) Nothing
row_of (instr.Bipush n) = row 0x10 (Byte (cast_unsigned w8 n))
row_of (instr.Sipush n) = row 0x11 (Half (cast_unsigned w16 n))
row_of (instr.LdcW p) = row 0x13 (Half p)
row_of (instr.Ldc2W p) = row 0x14 (Half p)
row_of (instr.Load op n) = row (load_op_code op) (Byte n)
row_of (instr.LoadFixed op) = row (fixed_load_code op) Nothing
row_of (instr.LoadElement op) = row (array_load_code op) Nothing
row_of (instr.Store op n) = row (store_op_code op) (Byte n)
row_of (instr.StoreFixed op) = row (fixed_store_code op) Nothing
row_of (instr.StoreElement op) = row (array_store_code op) Nothing
row_of (instr.Stack op) = row (stack_op_code op) Nothing
row_of (instr.Arithmetic op) = row (arithmetic_code op) Nothing
row_of (instr.Divide op) = row (division_code op) Nothing
row_of (instr.Negate op) = row (negation_code op) Nothing
row_of (instr.Shift op) = row (shift_code op) Nothing
row_of (instr.Bitwise op) = row (bitwise_code op) Nothing
row_of (instr.Iinc n k) = row 0x84 (LocalAmount n (cast_unsigned w8 k))
row_of (instr.Convert op) = row (conversion_code op) Nothing
row_of instr.Lcmp = row 0x94 Nothing
row_of (instr.If op t) = row (zero_test_code op) (Near t)
row_of (instr.IfIcmp op t) = row (int_test_code op) (Near t)
row_of (instr.IfAcmp op t) = row (reference_test_code op) (Near t)
row_of (instr.Goto t) = row 0xa7 (Near t)
row_of (instr.TableSwitch t) = row 0xaa (table_of t)
row_of (instr.LookupSwitch t) = row 0xab (lookup_of t)
row_of (instr.Return op) = row (return_op_code op) Nothing
row_of (instr.Field op p) = row (field_op_code op) (Half p)
row_of (instr.Invoke op p) = row (invoke_op_code op) (Half p)
row_of (instr.InvokeInterface p n) = row 0xb9 (Called p n)
row_of (instr.New p) = row 0xbb (Half p)
row_of instr.NewIntArray = row 0xbc Ints
row_of (instr.AnewArray p) = row 0xbd (Half p)
row_of instr.ArrayLength = row 0xbe Nothing
row_of instr.Athrow = row 0xbf Nothing
row_of (instr.Checkcast p) = row 0xc0 (Half p)
row_of (instr.Instanceof p) = row 0xc1 (Half p)
row_of (instr.WideLoad op n) = row 0xc4 (Wide (load_op_code op) n)
row_of (instr.WideStore op n) = row 0xc4 (Wide (store_op_code op) n)
row_of (instr.WideIinc n k) = row 0xc4 (WideAmount n (cast_unsigned w16 k))
row_of (instr.IfNull op t) = row (null_test_code op) (Near t)
row_of (instr.GotoW t) = row 0xc8 (Far t)

-- the kinds of operands
pub data Shape : Type 0 where
  IsNothing : Shape
  IsByte : Shape
  IsHalf : Shape
  IsLocalAmount : Shape
  IsNear : Shape
  IsFar : Shape
  IsCalled : Shape
  IsInts : Shape
  IsTable : Shape
  IsLookup : Shape
  IsWide : Shape

-- the rows of several opcodes without operands
abbrev pub stack_shape : ℕ → Option Shape
stack_shape c =
    elim (stack_op_of c) [
      | Some op ↦ Some IsNothing
      | None ↦
          elim (arithmetic_of c) [
            | Some op ↦ Some IsNothing
            | None ↦
                elim (division_of c) [
                  | Some op ↦ Some IsNothing
                  | None ↦
                      elim (negation_of c) [
                        | Some op ↦ Some IsNothing
                        | None ↦
                            elim (shift_of c) [
                              | Some op ↦ Some IsNothing
                              | None ↦
                                  elim (bitwise_of c) [
                                    | Some op ↦ Some IsNothing
                                    | None ↦
                                        elim (conversion_of c) [
                                          | Some op ↦ Some IsNothing
                                          | None ↦
                                              elim (return_op_of c) [ Some op ↦ Some IsNothing | None ↦ None ]
                                        ]
                                  ]
                            ]
                      ]
                ]
          ]
    ]

abbrev pub constant_shape : ℕ → Option Shape
constant_shape c =
    elim (int_constant_of c) [
      | Some op ↦ Some IsNothing
      | None ↦
          elim (long_constant_of c) [
            | Some op ↦ Some IsNothing
            | None ↦
                elim (fixed_load_of c) [
                  | Some op ↦ Some IsNothing
                  | None ↦
                      elim (array_load_of c) [
                        | Some op ↦ Some IsNothing
                        | None ↦
                            elim (fixed_store_of c) [
                              | Some op ↦ Some IsNothing
                              | None ↦
                                  elim (array_store_of c) [ Some op ↦ Some IsNothing | None ↦ stack_shape c ]
                            ]
                      ]
                ]
          ]
    ]

-- the rows of several opcodes with an operand
abbrev pub operand_shape : ℕ → Option Shape
operand_shape c =
    elim (load_op_of c) [
      | Some op ↦ Some IsByte
      | None ↦
          elim (store_op_of c) [
            | Some op ↦ Some IsByte
            | None ↦
                elim (zero_test_of c) [
                  | Some op ↦ Some IsNear
                  | None ↦
                      elim (int_test_of c) [
                        | Some op ↦ Some IsNear
                        | None ↦
                            elim (reference_test_of c) [
                              | Some op ↦ Some IsNear
                              | None ↦
                                  elim (null_test_of c) [
                                    | Some op ↦ Some IsNear
                                    | None ↦
                                        elim (field_op_of c) [
                                          | Some op ↦ Some IsHalf
                                          | None ↦
                                              elim (invoke_op_of c) [ Some op ↦ Some IsHalf | None ↦ constant_shape c ]
                                        ]
                                  ]
                            ]
                      ]
                ]
          ]
    ]

-- the operands of an opcode, where the table has it
unfoldable pub shape_of : ℕ → Option Shape
shape_of c =
    if c == 0x01 then Some IsNothing else
    if c == 0x10 then Some IsByte else
    if c == 0x11 then Some IsHalf else
    if c == 0x13 then Some IsHalf else
    if c == 0x14 then Some IsHalf else
    if c == 0x84 then Some IsLocalAmount else
    if c == 0x94 then Some IsNothing else
    if c == 0xa7 then Some IsNear else
    if c == 0xaa then Some IsTable else
    if c == 0xab then Some IsLookup else
    if c == 0xb9 then Some IsCalled else
    if c == 0xbb then Some IsHalf else
    if c == 0xbc then Some IsInts else
    if c == 0xbd then Some IsHalf else
    if c == 0xbe then Some IsNothing else
    if c == 0xbf then Some IsNothing else
    if c == 0xc0 then Some IsHalf else
    if c == 0xc1 then Some IsHalf else
    if c == 0xc4 then Some IsWide else
    if c == 0xc8 then Some IsFar else
    operand_shape c

-- the operands behind a wide opcode
pub data WideShape : Type 0 where
  IsLocal : WideShape
  IsAmount : WideShape

abbrev pub local_shape : Option LoadOp → Option StoreOp → Option WideShape
local_shape (Some load) store = Some IsLocal
local_shape None (Some store) = Some IsLocal
local_shape None None = None

-- the operands of a wide form, where the opcode behind it has one
unfoldable pub wide_shape : ℕ → Option WideShape
wide_shape c = if c == 0x84 then Some IsAmount else local_shape (load_op_of c) (store_op_of c)
