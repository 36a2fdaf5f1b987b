-- The names of methods without code.
use Rattle.std.proofs.Common.{refl}
use Rattle.jvm_runtime.specs.declared.classes.RuntimeClass.TheVariants as runtime
use Rattle.mach_natives.specs.Names.{NamedAlike}

pub named_alike : NamedAlike
named_alike runtime.Object = refl
named_alike runtime.String = refl
named_alike runtime.Integer = refl
named_alike runtime.Long = refl
named_alike runtime.Boolean = refl
named_alike runtime.Character = refl
named_alike runtime.Throwable = refl
named_alike runtime.Exception = refl
named_alike runtime.RuntimeException = refl
named_alike runtime.IllegalStateException = refl
named_alike runtime.IllegalArgumentException = refl
named_alike runtime.ArithmeticException = refl
named_alike runtime.NullPointerException = refl
named_alike runtime.ClassCastException = refl
named_alike runtime.NegativeArraySizeException = refl
named_alike runtime.IndexOutOfBoundsException = refl
named_alike runtime.ArrayIndexOutOfBoundsException = refl
named_alike runtime.StringIndexOutOfBoundsException = refl
named_alike runtime.Unit = refl
named_alike runtime.Entry = refl
named_alike runtime.Out = refl
named_alike runtime.Text = refl
named_alike runtime.Turn = refl
named_alike runtime.Cell = refl
named_alike runtime.Cells = refl
named_alike runtime.ContinuationImpl = refl
named_alike runtime.Function0 = refl
named_alike runtime.Function1 = refl
named_alike runtime.Function2 = refl
named_alike runtime.Function3 = refl
named_alike runtime.Function4 = refl
named_alike runtime.Function5 = refl
named_alike runtime.Function6 = refl
named_alike runtime.Function7 = refl
