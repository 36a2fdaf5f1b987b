-- The numbers of an instruction, within the widths of their types; those of pairs are in `Ascends`.
use Rattle.std.specs.Prelude.{◌^◌, ◌<◌, FitsSigned}
use Rattle.std.specs.Int.{w8, w16, w32}
use Rattle.std.specs.List.{AllByRecursion}
use Rattle.jvm_code_instructions.specs.declared.instr.Instr.{Instr}
use Rattle.jvm_code_instructions.specs.declared.instr.Instr.TheVariants as instr
use Rattle.jvm_code_instructions.specs.Spelling.{Has}
use Rattle.jvm_code_instructions.specs.Table.{table_of, lookup_of, IsTable, IsLookup, Operands, Nothing, Byte, Half, LocalAmount, Near, Far, Called, Ints, Table, Lookup, Wide, WideAmount}

abbrev pub HasWidths : Operands → Type 0
HasWidths Nothing = Unit {0}
HasWidths (Byte n) = n < 256
HasWidths (Half n) = n < 2 ^ 16
HasWidths (LocalAmount n k) = (n < 256) × (k < 256)
HasWidths (Near t) = t < 2 ^ 32
HasWidths (Far t) = t < 2 ^ 32
HasWidths (Called p n) = (p < 2 ^ 16) × (n < 256)
HasWidths Ints = Unit {0}
HasWidths (Table default low targets) = (default < 2 ^ 32) × (low < 2 ^ 32) × AllByRecursion (λ t. t < 2 ^ 32) targets
HasWidths (Lookup default pairs) = default < 2 ^ 32
HasWidths (Wide c n) = n < 2 ^ 16
HasWidths (WideAmount n k) = (n < 2 ^ 16) × (k < 2 ^ 16)

-- what the types don't see to: the targets of a table, the numbers of a look-up, the count of a call
abbrev pub HasOperands : Instr → Type 0
HasOperands (instr.TableSwitch t) = Has IsTable (table_of t)
HasOperands (instr.LookupSwitch t) = Has IsLookup (lookup_of t)
HasOperands (instr.InvokeInterface p n) = 0 < n
HasOperands instr.AconstNull = Unit {0}
HasOperands (instr.Iconst op) = Unit {0}
HasOperands (instr.Lconst op) = Unit {0}
HasOperands (instr.Bipush n) = Unit {0}
HasOperands (instr.Sipush n) = Unit {0}
HasOperands (instr.LdcW p) = Unit {0}
HasOperands (instr.Ldc2W p) = Unit {0}
HasOperands (instr.Load op n) = Unit {0}
HasOperands (instr.LoadFixed op) = Unit {0}
HasOperands (instr.LoadElement op) = Unit {0}
HasOperands (instr.Store op n) = Unit {0}
HasOperands (instr.StoreFixed op) = Unit {0}
HasOperands (instr.StoreElement op) = Unit {0}
HasOperands (instr.Stack op) = Unit {0}
HasOperands (instr.Arithmetic op) = Unit {0}
HasOperands (instr.Divide op) = Unit {0}
HasOperands (instr.Negate op) = Unit {0}
HasOperands (instr.Shift op) = Unit {0}
HasOperands (instr.Bitwise op) = Unit {0}
HasOperands (instr.Iinc n k) = Unit {0}
HasOperands (instr.Convert op) = Unit {0}
HasOperands instr.Lcmp = Unit {0}
HasOperands (instr.If op t) = Unit {0}
HasOperands (instr.IfIcmp op t) = Unit {0}
HasOperands (instr.IfAcmp op t) = Unit {0}
HasOperands (instr.Goto t) = Unit {0}
HasOperands (instr.GotoW t) = Unit {0}
HasOperands (instr.Return op) = Unit {0}
HasOperands (instr.Field op p) = Unit {0}
HasOperands (instr.Invoke op p) = Unit {0}
HasOperands (instr.New p) = Unit {0}
HasOperands instr.NewIntArray = Unit {0}
HasOperands (instr.AnewArray p) = Unit {0}
HasOperands instr.ArrayLength = Unit {0}
HasOperands instr.Athrow = Unit {0}
HasOperands (instr.Checkcast p) = Unit {0}
HasOperands (instr.Instanceof p) = Unit {0}
HasOperands (instr.WideLoad op n) = Unit {0}
HasOperands (instr.WideStore op n) = Unit {0}
HasOperands (instr.WideIinc n k) = Unit {0}
HasOperands (instr.IfNull op t) = Unit {0}

-- the signed numbers of an instruction, within their types
abbrev pub HasRanges : Instr → Type 0
HasRanges (instr.Bipush n) = FitsSigned w8 n
HasRanges (instr.Sipush n) = FitsSigned w16 n
HasRanges (instr.Iinc n k) = FitsSigned w8 k
HasRanges (instr.WideIinc n k) = FitsSigned w16 k
HasRanges (instr.TableSwitch t) = FitsSigned w32 t.low
HasRanges (instr.LookupSwitch t) = AllByRecursion (λ p. FitsSigned w32 p.0) t.pairs.items
HasRanges instr.AconstNull = Unit {0}
HasRanges (instr.Iconst op) = Unit {0}
HasRanges (instr.Lconst op) = Unit {0}
HasRanges (instr.LdcW p) = Unit {0}
HasRanges (instr.Ldc2W p) = Unit {0}
HasRanges (instr.Load op n) = Unit {0}
HasRanges (instr.LoadFixed op) = Unit {0}
HasRanges (instr.LoadElement op) = Unit {0}
HasRanges (instr.Store op n) = Unit {0}
HasRanges (instr.StoreFixed op) = Unit {0}
HasRanges (instr.StoreElement op) = Unit {0}
HasRanges (instr.Stack op) = Unit {0}
HasRanges (instr.Arithmetic op) = Unit {0}
HasRanges (instr.Divide op) = Unit {0}
HasRanges (instr.Negate op) = Unit {0}
HasRanges (instr.Shift op) = Unit {0}
HasRanges (instr.Bitwise op) = Unit {0}
HasRanges (instr.Convert op) = Unit {0}
HasRanges instr.Lcmp = Unit {0}
HasRanges (instr.If op t) = Unit {0}
HasRanges (instr.IfIcmp op t) = Unit {0}
HasRanges (instr.IfAcmp op t) = Unit {0}
HasRanges (instr.Goto t) = Unit {0}
HasRanges (instr.Return op) = Unit {0}
HasRanges (instr.Field op p) = Unit {0}
HasRanges (instr.Invoke op p) = Unit {0}
HasRanges (instr.InvokeInterface p n) = Unit {0}
HasRanges (instr.New p) = Unit {0}
HasRanges instr.NewIntArray = Unit {0}
HasRanges (instr.AnewArray p) = Unit {0}
HasRanges instr.ArrayLength = Unit {0}
HasRanges instr.Athrow = Unit {0}
HasRanges (instr.Checkcast p) = Unit {0}
HasRanges (instr.Instanceof p) = Unit {0}
HasRanges (instr.WideLoad op n) = Unit {0}
HasRanges (instr.WideStore op n) = Unit {0}
HasRanges (instr.IfNull op t) = Unit {0}
HasRanges (instr.GotoW t) = Unit {0}
