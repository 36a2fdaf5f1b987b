-- The programs of the first subset: what they print, and their code.
use Rattle.std.specs.Prelude.{ℤ, List, [], ◌∷◌, ◌++◌, map}
use Rattle.std.specs.List.{flat_map}
use Rattle.std.specs.Int.{w32, int_wrapping_add, int_wrapping_sub, int_wrapping_mul}
use Rattle.kt_base.specs.declared.stack_code.Plain.{Plain}
use Rattle.kt_base.specs.declared.stack_code.Plain.TheVariants as plain

pub data Operation : Type 0 where
  sum : Operation
  difference : Operation
  product : Operation

-- a number, or two expressions under an operation
pub data Expression : Type 0 where
  number : ℤ → Expression
  under : Operation → Expression → Expression → Expression

-- a program prints expressions, one after the other
abbrev pub Program : Type 0
Program = List Expression

-- the wrapping arithmetic of 32-bit integers
abbrev pub result_of : Operation → ℤ → ℤ → ℤ
result_of sum = int_wrapping_add w32
result_of difference = int_wrapping_sub w32
result_of product = int_wrapping_mul w32

abbrev pub value_of : Expression → ℤ
value_of (number n) = n
value_of (under o a b) = result_of o (value_of a) (value_of b)

-- the values that a program prints, in order
abbrev pub values_of : Program → List ℤ
values_of = map value_of

abbrev pub step_of : Operation → Plain
step_of sum = plain.Add
step_of difference = plain.Sub
step_of product = plain.Mul

-- the operands first, then the operation
abbrev pub expression_code : Expression → List Plain
expression_code (number n) = plain.Push n ∷ []
expression_code (under o a b) = expression_code a ++ (expression_code b ++ step_of o ∷ [])

-- the code that prints an expression
abbrev pub print_code : Expression → List Plain
print_code a = expression_code a ++ plain.Print ∷ []

abbrev pub code_of : Program → List Plain
code_of = flat_map print_code
