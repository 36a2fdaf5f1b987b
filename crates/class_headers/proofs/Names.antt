-- The names of the machine's classes are ASCII.
use Rattle.std.proofs.Common.{ℕ, suc, zero, Bool, true, false, ◌≡◌, ◌<◌, refl, List, [], ◌∷◌, arith}
use Rattle.std.specs.Prelude.{codes, nat_lt, ◌&&◌}
use Rattle.std.specs.List.{list_all}
use Rattle.std.specs.Str.{IsAscii}
use Rattle.jvm_runtime.specs.declared.classes.RuntimeClass.{RuntimeClass}
use Rattle.jvm_runtime.specs.declared.classes.RuntimeClass.TheVariants as runtime
use Rattle.jvm_runtime.specs.Classes.{class_name}

first_true : (b c : Bool) → (b && c) ≡ true → b ≡ true
first_true true c h = refl
first_true false c h = cc

second_true : (b c : Bool) → (b && c) ≡ true → c ≡ true
second_true true c h = h
second_true false c h = cc

small : (b : ℕ) → nat_lt b 128 ≡ true → b < 128
small b h = grind (arith, h)

each_small : (bs : List ℕ) → list_all (λ b. nat_lt b 128) bs ≡ true → IsAscii bs
each_small [] h i = omega arith
each_small (b ∷ bs) h zero = small b (first_true (nat_lt b 128) (list_all (λ c. nat_lt c 128) bs) h)
each_small (b ∷ bs) h (suc i) = each_small bs (second_true (nat_lt b 128) (list_all (λ c. nat_lt c 128) bs) h) i

pub own_name : (class : RuntimeClass) → IsAscii (class_name class)
own_name runtime.Object = each_small (class_name runtime.Object) refl
own_name runtime.String = each_small (class_name runtime.String) refl
own_name runtime.Integer = each_small (class_name runtime.Integer) refl
own_name runtime.Long = each_small (class_name runtime.Long) refl
own_name runtime.Boolean = each_small (class_name runtime.Boolean) refl
own_name runtime.Character = each_small (class_name runtime.Character) refl
own_name runtime.Throwable = each_small (class_name runtime.Throwable) refl
own_name runtime.Exception = each_small (class_name runtime.Exception) refl
own_name runtime.RuntimeException = each_small (class_name runtime.RuntimeException) refl
own_name runtime.IllegalStateException = each_small (class_name runtime.IllegalStateException) refl
own_name runtime.IllegalArgumentException = each_small (class_name runtime.IllegalArgumentException) refl
own_name runtime.ArithmeticException = each_small (class_name runtime.ArithmeticException) refl
own_name runtime.NullPointerException = each_small (class_name runtime.NullPointerException) refl
own_name runtime.ClassCastException = each_small (class_name runtime.ClassCastException) refl
own_name runtime.NegativeArraySizeException = each_small (class_name runtime.NegativeArraySizeException) refl
own_name runtime.IndexOutOfBoundsException = each_small (class_name runtime.IndexOutOfBoundsException) refl
own_name runtime.ArrayIndexOutOfBoundsException = each_small (class_name runtime.ArrayIndexOutOfBoundsException) refl
own_name runtime.StringIndexOutOfBoundsException = each_small (class_name runtime.StringIndexOutOfBoundsException) refl
own_name runtime.Unit = each_small (class_name runtime.Unit) refl
own_name runtime.Entry = each_small (class_name runtime.Entry) refl
own_name runtime.Out = each_small (class_name runtime.Out) refl
own_name runtime.Text = each_small (class_name runtime.Text) refl
own_name runtime.Turn = each_small (class_name runtime.Turn) refl
own_name runtime.Cell = each_small (class_name runtime.Cell) refl
own_name runtime.Cells = each_small (class_name runtime.Cells) refl
own_name runtime.ContinuationImpl = each_small (class_name runtime.ContinuationImpl) refl
own_name runtime.Function0 = each_small (class_name runtime.Function0) refl
own_name runtime.Function1 = each_small (class_name runtime.Function1) refl
own_name runtime.Function2 = each_small (class_name runtime.Function2) refl
own_name runtime.Function3 = each_small (class_name runtime.Function3) refl
own_name runtime.Function4 = each_small (class_name runtime.Function4) refl
own_name runtime.Function5 = each_small (class_name runtime.Function5) refl
own_name runtime.Function6 = each_small (class_name runtime.Function6) refl
own_name runtime.Function7 = each_small (class_name runtime.Function7) refl

pub int_array_name : IsAscii (codes "[I")
int_array_name = each_small (codes "[I") refl

pub object_array_name : IsAscii (codes "[Ljava/lang/Object;")
object_array_name = each_small (codes "[Ljava/lang/Object;") refl
