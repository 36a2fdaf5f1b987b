-- No two classes have the same name.
use Rattle.std.proofs.Common.{refl}
use Rattle.jvm_runtime.specs.declared.classes.RuntimeClass.TheVariants as runtime
use Rattle.jvm_runtime.specs.Classes.{runtime_classes, class_named}
use Rattle.jvm_runtime.specs.Laws.{OneName}

pub one_name : OneName
unfolding runtime_classes class_named
one_name runtime.Object = refl
one_name runtime.String = refl
one_name runtime.Integer = refl
one_name runtime.Long = refl
one_name runtime.Boolean = refl
one_name runtime.Character = refl
one_name runtime.Throwable = refl
one_name runtime.Exception = refl
one_name runtime.RuntimeException = refl
one_name runtime.IllegalStateException = refl
one_name runtime.IllegalArgumentException = refl
one_name runtime.ArithmeticException = refl
one_name runtime.NullPointerException = refl
one_name runtime.ClassCastException = refl
one_name runtime.NegativeArraySizeException = refl
one_name runtime.IndexOutOfBoundsException = refl
one_name runtime.ArrayIndexOutOfBoundsException = refl
one_name runtime.StringIndexOutOfBoundsException = refl
one_name runtime.Unit = refl
one_name runtime.Entry = refl
one_name runtime.Out = refl
one_name runtime.Text = refl
one_name runtime.Turn = refl
one_name runtime.Cell = refl
one_name runtime.Cells = refl
one_name runtime.ContinuationImpl = refl
one_name runtime.Function0 = refl
one_name runtime.Function1 = refl
one_name runtime.Function2 = refl
one_name runtime.Function3 = refl
one_name runtime.Function4 = refl
one_name runtime.Function5 = refl
one_name runtime.Function6 = refl
one_name runtime.Function7 = refl
