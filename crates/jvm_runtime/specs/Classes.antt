-- The classes that the machine has without a class file: their names, flags, and the class above each.
use Rattle.std.specs.Prelude.{ℕ, Bool, true, false, List, [], ◌∷◌, Option, None, Some, codes, find}
use Rattle.jvm_class_types.specs.declared.flags.ClassFlags.{ClassFlags}
use Rattle.jvm_class_types.specs.declared.flags.ClassFlags.TheVariants as flags
use Rattle.jvm_pool.specs.Entries.{same_text}
use Rattle.jvm_runtime.specs.declared.classes.RuntimeClass.{RuntimeClass}
use Rattle.jvm_runtime.specs.declared.classes.RuntimeClass.TheVariants as runtime

abbrev pub class_name : RuntimeClass → List ℕ
class_name runtime.Object = codes "java/lang/Object"
class_name runtime.String = codes "java/lang/String"
class_name runtime.Integer = codes "java/lang/Integer"
class_name runtime.Long = codes "java/lang/Long"
class_name runtime.Boolean = codes "java/lang/Boolean"
class_name runtime.Character = codes "java/lang/Character"
class_name runtime.Throwable = codes "java/lang/Throwable"
class_name runtime.Exception = codes "java/lang/Exception"
class_name runtime.RuntimeException = codes "java/lang/RuntimeException"
class_name runtime.IllegalStateException = codes "java/lang/IllegalStateException"
class_name runtime.IllegalArgumentException = codes "java/lang/IllegalArgumentException"
class_name runtime.ArithmeticException = codes "java/lang/ArithmeticException"
class_name runtime.NullPointerException = codes "java/lang/NullPointerException"
class_name runtime.ClassCastException = codes "java/lang/ClassCastException"
class_name runtime.NegativeArraySizeException = codes "java/lang/NegativeArraySizeException"
class_name runtime.IndexOutOfBoundsException = codes "java/lang/IndexOutOfBoundsException"
class_name runtime.ArrayIndexOutOfBoundsException = codes "java/lang/ArrayIndexOutOfBoundsException"
class_name runtime.StringIndexOutOfBoundsException = codes "java/lang/StringIndexOutOfBoundsException"
class_name runtime.Unit = codes "kt/rt/Unit"
class_name runtime.Entry = codes "kt/rt/Entry"
class_name runtime.Out = codes "kt/rt/Out"
class_name runtime.Text = codes "kt/rt/Text"
class_name runtime.Turn = codes "kt/rt/Turn"
class_name runtime.Cell = codes "kt/rt/Cell"
class_name runtime.Cells = codes "kt/rt/Cells"
class_name runtime.ContinuationImpl = codes "kt/rt/ContinuationImpl"
class_name runtime.Function0 = codes "kt/rt/Function0"
class_name runtime.Function1 = codes "kt/rt/Function1"
class_name runtime.Function2 = codes "kt/rt/Function2"
class_name runtime.Function3 = codes "kt/rt/Function3"
class_name runtime.Function4 = codes "kt/rt/Function4"
class_name runtime.Function5 = codes "kt/rt/Function5"
class_name runtime.Function6 = codes "kt/rt/Function6"
class_name runtime.Function7 = codes "kt/rt/Function7"

-- each of them once
unfoldable pub runtime_classes : List RuntimeClass
runtime_classes = runtime.Object ∷ runtime.String ∷ runtime.Integer ∷ runtime.Long ∷ runtime.Boolean ∷
    runtime.Character ∷ runtime.Throwable ∷ runtime.Exception ∷ runtime.RuntimeException ∷
    runtime.IllegalStateException ∷ runtime.IllegalArgumentException ∷
    runtime.ArithmeticException ∷ runtime.NullPointerException ∷ runtime.ClassCastException ∷
    runtime.NegativeArraySizeException ∷ runtime.IndexOutOfBoundsException ∷
    runtime.ArrayIndexOutOfBoundsException ∷ runtime.StringIndexOutOfBoundsException ∷
    runtime.Unit ∷ runtime.Entry ∷ runtime.Out ∷ runtime.Text ∷ runtime.Turn ∷ runtime.Cell ∷
    runtime.Cells ∷ runtime.ContinuationImpl ∷ runtime.Function0 ∷ runtime.Function1 ∷
    runtime.Function2 ∷ runtime.Function3 ∷ runtime.Function4 ∷ runtime.Function5 ∷
    runtime.Function6 ∷ runtime.Function7 ∷ []

-- the class of a name
unfoldable pub class_named : List ℕ → Option RuntimeClass
class_named name = find (λ class. same_text (class_name class) name) runtime_classes

abbrev pub class_flags : RuntimeClass → ClassFlags
class_flags runtime.Object = flags.Open
class_flags runtime.Entry = flags.Open
class_flags runtime.Throwable = flags.Open
class_flags runtime.Exception = flags.Open
class_flags runtime.RuntimeException = flags.Open
class_flags runtime.IllegalStateException = flags.Open
class_flags runtime.IllegalArgumentException = flags.Open
class_flags runtime.ArithmeticException = flags.Open
class_flags runtime.NullPointerException = flags.Open
class_flags runtime.ClassCastException = flags.Open
class_flags runtime.NegativeArraySizeException = flags.Open
class_flags runtime.IndexOutOfBoundsException = flags.Open
class_flags runtime.ArrayIndexOutOfBoundsException = flags.Open
class_flags runtime.StringIndexOutOfBoundsException = flags.Open
class_flags runtime.ContinuationImpl = flags.Abstract
class_flags runtime.Function0 = flags.Interface
class_flags runtime.Function1 = flags.Interface
class_flags runtime.Function2 = flags.Interface
class_flags runtime.Function3 = flags.Interface
class_flags runtime.Function4 = flags.Interface
class_flags runtime.Function5 = flags.Interface
class_flags runtime.Function6 = flags.Interface
class_flags runtime.Function7 = flags.Interface
class_flags _ = flags.Final

-- `java/lang/Object`, the throwables, the class above enums and that above continuations may be extended, and the
-- interfaces implemented: all that isn't final
abbrev pub is_open : ClassFlags → Bool
is_open flags.Final = false
is_open _ = true

abbrev pub is_extensible : RuntimeClass → Bool
is_extensible class = is_open (class_flags class)

-- the class directly above
abbrev pub superclass : RuntimeClass → Option RuntimeClass
superclass runtime.Object = None
superclass runtime.Exception = Some runtime.Throwable
superclass runtime.RuntimeException = Some runtime.Exception
superclass runtime.IllegalStateException = Some runtime.RuntimeException
superclass runtime.IllegalArgumentException = Some runtime.RuntimeException
superclass runtime.ArithmeticException = Some runtime.RuntimeException
superclass runtime.NullPointerException = Some runtime.RuntimeException
superclass runtime.ClassCastException = Some runtime.RuntimeException
superclass runtime.NegativeArraySizeException = Some runtime.RuntimeException
superclass runtime.IndexOutOfBoundsException = Some runtime.RuntimeException
superclass runtime.ArrayIndexOutOfBoundsException = Some runtime.IndexOutOfBoundsException
superclass runtime.StringIndexOutOfBoundsException = Some runtime.IndexOutOfBoundsException
superclass _ = Some runtime.Object
