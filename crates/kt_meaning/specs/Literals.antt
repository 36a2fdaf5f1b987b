-- Literals and constants.
use Rattle.std.specs.Prelude.{ℕ, Some, option_and_then, slice_get}
use Rattle.std.specs.List.{flat_map}
use Rattle.kt_typed.specs.declared.operators.TypedLiteral.{TypedLiteral}
use Rattle.kt_typed.specs.declared.operators.TypedLiteral.TheVariants as literal
use Rattle.kt_typed.specs.declared.headers.ConstantLiteral.{ConstantLiteral}
use Rattle.kt_typed.specs.declared.headers.ConstantLiteral.TheVariants as constant
use Rattle.kt_typed.specs.Units.{UnitForm}
use Rattle.kt_values.specs.Values as v
use Rattle.kt_values.specs.Values.{Value}
use Rattle.kt_values.specs.Runs.{Run, or_unfit}
use Rattle.kt_meaning.specs.Printing.{units_of}

abbrev pub literal_value : TypedLiteral → Value
literal_value (literal.Int n) = v.int n
literal_value (literal.Long n) = v.long n
literal_value (literal.Boolean b) = v.truth b
literal_value (literal.Char c) = v.character c
literal_value literal.Null = v.null

abbrev pub constant_literal : ConstantLiteral → Value
constant_literal (constant.Int n) = v.int n
constant_literal (constant.Long n) = v.long n
constant_literal (constant.Boolean b) = v.truth b
constant_literal (constant.Char c) = v.character c
constant_literal (constant.Text parts) = v.text (flat_map units_of parts)

-- the value of a constant of the file
abbrev pub constant_value : UnitForm → ℕ → Run Value
constant_value u n = or_unfit (option_and_then (λ c. Some (constant_literal c.value)) (slice_get u.headers.constants n))
