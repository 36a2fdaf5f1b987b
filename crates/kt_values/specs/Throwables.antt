-- The classes of throwables that every file has, and what the language itself throws.
use Rattle.std.specs.Prelude.{map, ℕ, ℤ, List, ◌++◌, Option, Some, None, codes}
use Rattle.kt_types_builtins.specs.declared.throwables.BuiltInThrowable.{BuiltInThrowable}
use Rattle.kt_types_builtins.specs.declared.throwables.BuiltInThrowable.TheVariants as throwable
use Rattle.kt_types_builtins.specs.Throwables.{throwable_name, throwable_row, throwables}
use Rattle.std.specs.Fmt.{signed_decimal}

-- the names of the throwables by their rows, which are the first rows of a file's classes
abbrev pub throwable_names : List (List ℕ)
throwable_names = map throwable_name throwables

-- the name of a throwable in class files
abbrev pub qualified : List ℕ → List ℕ
qualified name = codes "java/lang/" ++ name

-- what goes wrong at run time, so that the language throws
pub data Fault : Type 0 where
  -- `/` or `%` by zero
  zero_divisor : Fault
  -- an index outside of an array
  array_index : ℤ → Fault
  -- an index outside of a string, or a bound of `substring`
  text_index : ℤ → Fault
  -- the size of a new array is below zero
  negative_size : ℤ → Fault
  -- `as` to a type that the value isn't of
  failed_cast : Fault
  -- `!!` on null
  null_asserted : Fault
  -- a text of more than 16,777,216 units
  text_too_long : Fault
  -- `resume` on a continuation that has its outcome
  already_resumed : Fault

-- the class that is thrown
abbrev pub thrown_class : Fault → BuiltInThrowable
thrown_class zero_divisor = throwable.ArithmeticException
thrown_class (array_index i) = throwable.ArrayIndexOutOfBoundsException
thrown_class (text_index i) = throwable.StringIndexOutOfBoundsException
thrown_class (negative_size n) = throwable.NegativeArraySizeException
thrown_class failed_cast = throwable.ClassCastException
thrown_class null_asserted = throwable.NullPointerException
thrown_class text_too_long = throwable.IllegalArgumentException
thrown_class already_resumed = throwable.IllegalStateException

-- its row
abbrev pub fault_class : Fault → ℕ
fault_class fault = throwable_row (thrown_class fault)

-- its message
abbrev pub fault_message : Fault → Option (List ℕ)
fault_message zero_divisor = Some (codes "/ by zero")
fault_message (array_index i) = Some (signed_decimal i)
fault_message (text_index i) = Some (signed_decimal i)
fault_message (negative_size n) = Some (signed_decimal n)
fault_message failed_cast = None
fault_message null_asserted = None
fault_message text_too_long = Some (codes "text too long")
fault_message already_resumed = Some (codes "Already resumed")
