-- The built-in throwables: names, rows in the hierarchy of every program, and supertypes.
use Rattle.std.specs.Prelude.{ℕ, List, [], ◌∷◌, Option, Some, None, find, ◌==◌, codes}
use Rattle.std.specs.Cmp.Lexicographic.{pointwise}
use Rattle.kt_types_builtins.specs.declared.throwables.BuiltInThrowable.{BuiltInThrowable}
use Rattle.kt_types_builtins.specs.declared.throwables.BuiltInThrowable.TheVariants as throwable

abbrev pub throwable_name : BuiltInThrowable → List ℕ
throwable_name throwable.Throwable = codes "Throwable"
throwable_name throwable.Exception = codes "Exception"
throwable_name throwable.RuntimeException = codes "RuntimeException"
throwable_name throwable.IllegalStateException = codes "IllegalStateException"
throwable_name throwable.IllegalArgumentException = codes "IllegalArgumentException"
throwable_name throwable.ArithmeticException = codes "ArithmeticException"
throwable_name throwable.NullPointerException = codes "NullPointerException"
throwable_name throwable.ClassCastException = codes "ClassCastException"
throwable_name throwable.NegativeArraySizeException = codes "NegativeArraySizeException"
throwable_name throwable.IndexOutOfBoundsException = codes "IndexOutOfBoundsException"
throwable_name throwable.ArrayIndexOutOfBoundsException = codes "ArrayIndexOutOfBoundsException"
throwable_name throwable.StringIndexOutOfBoundsException = codes "StringIndexOutOfBoundsException"

abbrev pub throwable_row : BuiltInThrowable → ℕ
throwable_row throwable.Throwable = 0
throwable_row throwable.Exception = 1
throwable_row throwable.RuntimeException = 2
throwable_row throwable.IllegalStateException = 3
throwable_row throwable.IllegalArgumentException = 4
throwable_row throwable.ArithmeticException = 5
throwable_row throwable.NullPointerException = 6
throwable_row throwable.ClassCastException = 7
throwable_row throwable.NegativeArraySizeException = 8
throwable_row throwable.IndexOutOfBoundsException = 9
throwable_row throwable.ArrayIndexOutOfBoundsException = 10
throwable_row throwable.StringIndexOutOfBoundsException = 11

-- the declared supertype
abbrev pub throwable_super : BuiltInThrowable → Option BuiltInThrowable
throwable_super throwable.Throwable = None
throwable_super throwable.Exception = Some throwable.Throwable
throwable_super throwable.RuntimeException = Some throwable.Exception
throwable_super throwable.IllegalStateException = Some throwable.RuntimeException
throwable_super throwable.IllegalArgumentException = Some throwable.RuntimeException
throwable_super throwable.ArithmeticException = Some throwable.RuntimeException
throwable_super throwable.NullPointerException = Some throwable.RuntimeException
throwable_super throwable.ClassCastException = Some throwable.RuntimeException
throwable_super throwable.NegativeArraySizeException = Some throwable.RuntimeException
throwable_super throwable.IndexOutOfBoundsException = Some throwable.RuntimeException
throwable_super throwable.ArrayIndexOutOfBoundsException = Some throwable.IndexOutOfBoundsException
throwable_super throwable.StringIndexOutOfBoundsException = Some throwable.IndexOutOfBoundsException

-- in the order of their rows
unfoldable pub throwables : List BuiltInThrowable
throwables = throwable.Throwable ∷ throwable.Exception ∷ throwable.RuntimeException
    ∷ throwable.IllegalStateException ∷ throwable.IllegalArgumentException ∷ throwable.ArithmeticException
    ∷ throwable.NullPointerException ∷ throwable.ClassCastException ∷ throwable.NegativeArraySizeException
    ∷ throwable.IndexOutOfBoundsException ∷ throwable.ArrayIndexOutOfBoundsException
    ∷ throwable.StringIndexOutOfBoundsException ∷ []

-- the throwable that is written so
unfoldable pub throwable_of_name : List ℕ → Option BuiltInThrowable
throwable_of_name name = find (λ t. pointwise ◌==◌ (throwable_name t) name) throwables
