-- Operators (Kotlin specification, "Operators and expressions"): operands are evaluated from left to right, and `||`,
-- `&&` and `?:` evaluate the right side only where it is needed.
use Rattle.std.specs.Prelude.{ℤ, pos, Bool, true, false, not, cond, Option, Some, None, option_map, int_lt, int_le}
use Rattle.std.specs.Int.{w32, w64, int_wrapping_add, int_wrapping_sub, int_wrapping_mul, int_wrapping_neg, int_bit_and, int_bit_or, int_bit_xor}
use Rattle.std.specs.Int as std
use Rattle.kt_tree.specs.declared.bodies.PrefixOperator.{PrefixOperator}
use Rattle.kt_tree.specs.declared.bodies.PrefixOperator.TheVariants as prefix
use Rattle.kt_tree.specs.declared.bodies.StepOperator.{StepOperator}
use Rattle.kt_tree.specs.declared.bodies.StepOperator.TheVariants as step
use Rattle.kt_typed.specs.declared.operators.Width.{Width}
use Rattle.kt_typed.specs.declared.operators.Width.TheVariants as width
use Rattle.kt_typed.specs.declared.operators.ArithmeticOperator.{ArithmeticOperator}
use Rattle.kt_typed.specs.declared.operators.ArithmeticOperator.TheVariants as arithmetic
use Rattle.kt_typed.specs.declared.operators.BitwiseOperator.{BitwiseOperator}
use Rattle.kt_typed.specs.declared.operators.BitwiseOperator.TheVariants as bitwise
use Rattle.kt_typed.specs.declared.operators.ShiftOperator.{ShiftOperator}
use Rattle.kt_typed.specs.declared.operators.ShiftOperator.TheVariants as shift
use Rattle.kt_typed.specs.declared.operators.ComparisonOperator.{ComparisonOperator}
use Rattle.kt_typed.specs.declared.operators.ComparisonOperator.TheVariants as comparison
use Rattle.kt_typed.specs.declared.operators.Ordered.{Ordered}
use Rattle.kt_typed.specs.declared.operators.Ordered.TheVariants as ordered
use Rattle.kt_typed.specs.declared.operators.TypedOperator.{TypedOperator}
use Rattle.kt_typed.specs.declared.operators.TypedOperator.TheVariants as operator
use Rattle.kt_values.specs.Values as v
use Rattle.kt_values.specs.Values.{Value, as_int, as_number, as_truth, as_character}
use Rattle.kt_values.specs.Numbers.{quotient, remainder, shifted_left, shifted_right, shifted_right_unsigned}
use Rattle.kt_values.specs.Throwables.{zero_divisor}
use Rattle.kt_values.specs.Runs.{Run, ◌>>=◌, give, or_unfit}
use Rattle.kt_values.specs.Heap.{raise}
use Rattle.kt_meaning.specs.Activations.{Activation}
use Rattle.kt_meaning.specs.Equality.{compared}
use Rattle.kt_meaning.specs.Printing.{concatenated}

-- how many bits a number has
abbrev pub bits_of : Width → std.Width
bits_of width.Int = w32
bits_of width.Long = w64

-- a number as a value
abbrev pub number : Width → ℤ → Value
number width.Int n = v.int n
number width.Long n = v.long n

-- what an operation of this width takes: an `Int` counts as the `Long` of its size, and nothing else is converted
abbrev pub operand : Width → Value → Option ℤ
operand width.Int x = as_int x
operand width.Long x = as_number x

-- `Int` and `Long`.

-- what there is, or a zero divisor
abbrev pub divided : Width → Option ℤ → Run Value
divided w (Some n) = give (number w n)
divided w None = raise zero_divisor

abbrev pub calculated : ArithmeticOperator → Width → ℤ → ℤ → Run Value
calculated arithmetic.Plus w x y = give (number w (int_wrapping_add (bits_of w) x y))
calculated arithmetic.Minus w x y = give (number w (int_wrapping_sub (bits_of w) x y))
calculated arithmetic.Times w x y = give (number w (int_wrapping_mul (bits_of w) x y))
calculated arithmetic.Divide w x y = divided w (quotient (bits_of w) x y)
calculated arithmetic.Remainder w x y = divided w (remainder (bits_of w) x y)

abbrev pub joined_bits : BitwiseOperator → Width → ℤ → ℤ → Value
joined_bits bitwise.And w x y = number w (int_bit_and (bits_of w) x y)
joined_bits bitwise.Or w x y = number w (int_bit_or (bits_of w) x y)
joined_bits bitwise.Xor w x y = number w (int_bit_xor (bits_of w) x y)

abbrev pub shifted : ShiftOperator → Width → ℤ → ℤ → Value
shifted shift.Shl w x count = number w (shifted_left (bits_of w) x count)
shifted shift.Shr w x count = number w (shifted_right (bits_of w) x count)
shifted shift.Ushr w x count = number w (shifted_right_unsigned (bits_of w) x count)

abbrev pub is_ordered : ComparisonOperator → ℤ → ℤ → Bool
is_ordered comparison.Less x y = int_lt x y
is_ordered comparison.Greater x y = int_lt y x
is_ordered comparison.LessOrEqual x y = int_le x y
is_ordered comparison.GreaterOrEqual x y = int_le y x

-- a number, or the code of a character
abbrev pub rank : Ordered → Value → Option ℤ
rank (ordered.Numbers w) x = as_number x
rank ordered.Characters x = option_map pos (as_character x)

abbrev pub negated : Value → Option Value
negated (v.int n) = Some (v.int (int_wrapping_neg w32 n))
negated (v.long n) = Some (v.long (int_wrapping_neg w64 n))
negated _ = None

-- `-` and `!`
abbrev pub prefixed : PrefixOperator → Value → Run Value
prefixed prefix.Negate x = or_unfit (negated x)
prefixed prefix.Not x = or_unfit (option_map (λ b. v.truth (not b)) (as_truth x))

-- `++` and `--`
abbrev pub stepped : StepOperator → Width → Value → Run Value
stepped step.Increment w x = or_unfit (operand w x) >>= λ n. calculated arithmetic.Plus w n (pos 1)
stepped step.Decrement w x = or_unfit (operand w x) >>= λ n. calculated arithmetic.Minus w n (pos 1)

-- Operations on two values.

abbrev pub both : {A B : Type 0} → Option A → Option B → (A → B → Run Value) → Run Value
both a b go = or_unfit a >>= λ x. or_unfit b >>= λ y. go x y

-- `is_null`: one of the operands is the literal `null`
abbrev pub applied : Activation → TypedOperator → Bool → Value → Value → Run Value
applied here operator.Equal is_null x y = compared here is_null x y >>= λ b. give (v.truth b)
applied here operator.NotEqual is_null x y = compared here is_null x y >>= λ b. give (v.truth (not b))
applied here operator.Concatenate is_null x y = concatenated here x y
applied here (operator.Arithmetic o w) is_null x y = both (operand w x) (operand w y) (calculated o w)
applied here (operator.Bitwise o w) is_null x y = both (operand w x) (operand w y) (λ m n. give (joined_bits o w m n))
applied here (operator.Shift o w) is_null x y = both (operand w x) (as_int y) (λ m n. give (shifted o w m n))
applied here (operator.Compare o kind) is_null x y =
    both (rank kind x) (rank kind y) (λ m n. give (v.truth (is_ordered o m n)))
applied here _ is_null x y = or_unfit None

-- the second only where the first is so
abbrev pub if_true : Run Value → Value → Run Value
if_true right x = or_unfit (as_truth x) >>= λ b. cond b right (give (v.truth false))

abbrev pub if_false : Run Value → Value → Run Value
if_false right x = or_unfit (as_truth x) >>= λ b. cond b (give (v.truth true)) right

abbrev pub if_null : Run Value → Value → Run Value
if_null right v.null = right
if_null right x = give x

-- what an operator does with its operands
abbrev pub operation : Activation → TypedOperator → Bool → Run Value → Run Value → Run Value
operation here operator.Disjunction is_null left right = left >>= if_false right
operation here operator.Conjunction is_null left right = left >>= if_true right
operation here operator.Elvis is_null left right = left >>= if_null right
operation here o is_null left right = left >>= λ x. right >>= λ y. applied here o is_null x y
