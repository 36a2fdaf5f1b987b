-- The fields and methods of the machine's own classes, with their descriptors.
use Rattle.std.specs.Prelude.{ℕ, zero, suc, List, [], ◌∷◌, ◌++◌, codes}
use Rattle.jvm_class_types.specs.declared.flags.FieldFlags.{FieldFlags}
use Rattle.jvm_class_types.specs.declared.flags.FieldFlags.TheVariants.{Variable, Final}
use Rattle.jvm_class_types.specs.declared.flags.MethodFlags.{MethodFlags}
use Rattle.jvm_class_types.specs.declared.flags.MethodFlags.TheVariants.{Instance, Static, Abstract}
use Rattle.jvm_class_types.specs.Seen.{Field}
use Rattle.jvm_runtime.specs.declared.classes.RuntimeClass.{RuntimeClass}
use Rattle.jvm_runtime.specs.declared.classes.RuntimeClass.TheVariants as runtime
use Rattle.jvm_runtime.specs.declared.members.RuntimeField as rust_field
use Rattle.jvm_runtime.specs.declared.members.RuntimeMethod as rust_method

-- a method, which has no code of ours
pub record Method : Type 0 where
  pub flags : MethodFlags
  pub name : List ℕ
  pub descriptor : List ℕ

abbrev pub field_seen : rust_field.RuntimeField → Field
field_seen f = record { flags = f.flags; name = f.name.now; descriptor = f.descriptor.now }

abbrev pub method_seen : rust_method.RuntimeMethod → Method
method_seen m = record { flags = m.flags; name = m.name.now; descriptor = m.descriptor.now }

abbrev pub field : FieldFlags → List ℕ → List ℕ → Field
field flags name descriptor = record { flags = flags; name = name; descriptor = descriptor }

abbrev pub method : MethodFlags → List ℕ → List ℕ → Method
method flags name descriptor = record { flags = flags; name = name; descriptor = descriptor }

abbrev pub equals : Method
equals = method Instance (codes "equals") (codes "(Ljava/lang/Object;)Z")

abbrev pub to_string : Method
to_string = method Instance (codes "toString") (codes "()Ljava/lang/String;")

abbrev pub of_throwable : List Method
of_throwable =
    method Instance (codes "<init>") (codes "()V")
    ∷ method Instance (codes "<init>") (codes "(Ljava/lang/String;)V")
    ∷ method Instance (codes "getMessage") (codes "()Ljava/lang/String;") ∷ []

-- the types of so many objects
abbrev pub objects : ℕ → List ℕ
objects zero = []
objects (suc n) = codes "Ljava/lang/Object;" ++ objects n

-- the method of functions of so many arguments
abbrev pub invoke : ℕ → Method
invoke n = method Abstract (codes "invoke") (codes "(" ++ objects n ++ codes ")Ljava/lang/Object;")

abbrev pub runtime_fields : RuntimeClass → List Field
runtime_fields runtime.Entry =
    field Final (codes "name") (codes "Ljava/lang/String;") ∷
    field Final (codes "ordinal") (codes "I") ∷ []
runtime_fields runtime.ContinuationImpl =
    field Variable (codes "label") (codes "I") ∷
    field Final (codes "completion") (codes "Lkt/rt/ContinuationImpl;") ∷
    field Variable (codes "value") (codes "Ljava/lang/Object;") ∷
    field Variable (codes "failure") (codes "Ljava/lang/Throwable;") ∷ []
runtime_fields _ = []

abbrev pub runtime_methods : RuntimeClass → List Method
runtime_methods runtime.Object =
    method Instance (codes "<init>") (codes "()V") ∷
    equals ∷
    to_string ∷ []
runtime_methods runtime.String =
    method Instance (codes "length") (codes "()I") ∷
    method Instance (codes "charAt") (codes "(I)C") ∷
    method Instance (codes "substring") (codes "(II)Ljava/lang/String;") ∷
    equals ∷
    to_string ∷ []
runtime_methods runtime.Integer =
    method Static (codes "valueOf") (codes "(I)Ljava/lang/Integer;") ∷
    method Instance (codes "intValue") (codes "()I") ∷
    equals ∷
    to_string ∷ []
runtime_methods runtime.Long =
    method Static (codes "valueOf") (codes "(J)Ljava/lang/Long;") ∷
    method Instance (codes "longValue") (codes "()J") ∷
    equals ∷
    to_string ∷ []
runtime_methods runtime.Boolean =
    method Static (codes "valueOf") (codes "(Z)Ljava/lang/Boolean;") ∷
    method Instance (codes "booleanValue") (codes "()Z") ∷
    equals ∷
    to_string ∷ []
runtime_methods runtime.Character =
    method Static (codes "valueOf") (codes "(C)Ljava/lang/Character;") ∷
    method Instance (codes "charValue") (codes "()C") ∷
    equals ∷
    to_string ∷ []
runtime_methods runtime.Throwable = of_throwable
runtime_methods runtime.Exception = of_throwable
runtime_methods runtime.RuntimeException = of_throwable
runtime_methods runtime.IllegalStateException = of_throwable
runtime_methods runtime.IllegalArgumentException = of_throwable
runtime_methods runtime.ArithmeticException = of_throwable
runtime_methods runtime.NullPointerException = of_throwable
runtime_methods runtime.ClassCastException = of_throwable
runtime_methods runtime.NegativeArraySizeException = of_throwable
runtime_methods runtime.IndexOutOfBoundsException = of_throwable
runtime_methods runtime.ArrayIndexOutOfBoundsException = of_throwable
runtime_methods runtime.StringIndexOutOfBoundsException = of_throwable
runtime_methods runtime.Unit =
    method Static (codes "get") (codes "()Lkt/rt/Unit;") ∷
    equals ∷
    to_string ∷ []
runtime_methods runtime.Entry =
    method Instance (codes "<init>") (codes "(Ljava/lang/String;I)V") ∷
    equals ∷
    to_string ∷ []
runtime_methods runtime.Out =
    method Static (codes "println") (codes "(Ljava/lang/String;)V") ∷ []
runtime_methods runtime.Text =
    method Static (codes "concat") (codes "(Ljava/lang/String;Ljava/lang/String;)Ljava/lang/String;") ∷
    method Static (codes "of") (codes "(I)Ljava/lang/String;") ∷
    method Static (codes "of") (codes "(J)Ljava/lang/String;") ∷
    method Static (codes "of") (codes "(Z)Ljava/lang/String;") ∷
    method Static (codes "of") (codes "(C)Ljava/lang/String;") ∷ []
runtime_methods runtime.Turn =
    method Static (codes "tick") (codes "()V") ∷ []
runtime_methods runtime.Cell = []
runtime_methods runtime.Cells =
    method Static (codes "make") (codes "()Lkt/rt/Cell;") ∷
    method Static (codes "launch") (codes "(Lkt/rt/Function1;)V") ∷
    method Static (codes "resume") (codes "(Lkt/rt/Cell;Ljava/lang/Object;)V") ∷
    method Static (codes "fail") (codes "(Lkt/rt/Cell;Ljava/lang/Throwable;)V") ∷
    method Static (codes "await") (codes "(Lkt/rt/Cell;Lkt/rt/ContinuationImpl;)Ljava/lang/Object;") ∷
    method Static (codes "suspended") (codes "()Ljava/lang/Object;") ∷ []
runtime_methods runtime.ContinuationImpl =
    method Instance (codes "<init>") (codes "(Lkt/rt/ContinuationImpl;)V") ∷
    method Abstract (codes "invokeSuspend") (codes "()Ljava/lang/Object;") ∷ []
runtime_methods runtime.Function0 = invoke 0 ∷ []
runtime_methods runtime.Function1 = invoke 1 ∷ []
runtime_methods runtime.Function2 = invoke 2 ∷ []
runtime_methods runtime.Function3 = invoke 3 ∷ []
runtime_methods runtime.Function4 = invoke 4 ∷ []
runtime_methods runtime.Function5 = invoke 5 ∷ []
runtime_methods runtime.Function6 = invoke 6 ∷ []
runtime_methods runtime.Function7 = invoke 7 ∷ []
