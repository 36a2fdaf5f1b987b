-- The names of throwables are ASCII.
use Rattle.std.specs.Prelude.{ℕ, zero, suc, Bool, true, false, List, [], ◌∷◌, ◌&&◌, ◌<◌, ◌≡◌, nat_lt, codes, refl}
use Rattle.std.specs.List.{list_all}
use Rattle.std.specs.Char.{is_ascii}
use Rattle.std.specs.Str.{IsAscii}
use Rattle.std.proofs.Common.{rules}
use Rattle.std.proofs.lemmas.Str.Ascii.{IsAscii-nil}
use Rattle.kt_types_builtins.specs.declared.throwables.BuiltInThrowable.{BuiltInThrowable}
use Rattle.kt_types_builtins.specs.declared.throwables.BuiltInThrowable.TheVariants as throwable
use Rattle.kt_types_builtins.specs.Throwables.{throwable_name}

first_of : (a b : Bool) → (a && b) ≡ true → a ≡ true
first_of true b e = refl
first_of false b e = absurd cc

second_of : (a b : Bool) → (a && b) ≡ true → b ≡ true
second_of true b e = e
second_of false b e = absurd cc

less : (b : ℕ) → nat_lt b 128 ≡ true → b < 128
less b e = search rules

from_test : (bs : List ℕ) → list_all is_ascii bs ≡ true → IsAscii bs
from_test [] e i = IsAscii-nil i
from_test (b ∷ bs) e zero = less b (first_of (is_ascii b) (list_all is_ascii bs) e)
from_test (b ∷ bs) e (suc i) = from_test bs (second_of (is_ascii b) (list_all is_ascii bs) e) i

pub name_ascii : (t : BuiltInThrowable) → IsAscii (throwable_name t)
name_ascii throwable.Throwable = from_test (codes "Throwable") refl
name_ascii throwable.Exception = from_test (codes "Exception") refl
name_ascii throwable.RuntimeException = from_test (codes "RuntimeException") refl
name_ascii throwable.IllegalStateException = from_test (codes "IllegalStateException") refl
name_ascii throwable.IllegalArgumentException = from_test (codes "IllegalArgumentException") refl
name_ascii throwable.ArithmeticException = from_test (codes "ArithmeticException") refl
name_ascii throwable.NullPointerException = from_test (codes "NullPointerException") refl
name_ascii throwable.ClassCastException = from_test (codes "ClassCastException") refl
name_ascii throwable.NegativeArraySizeException = from_test (codes "NegativeArraySizeException") refl
name_ascii throwable.IndexOutOfBoundsException = from_test (codes "IndexOutOfBoundsException") refl
name_ascii throwable.ArrayIndexOutOfBoundsException = from_test (codes "ArrayIndexOutOfBoundsException") refl
name_ascii throwable.StringIndexOutOfBoundsException = from_test (codes "StringIndexOutOfBoundsException") refl
