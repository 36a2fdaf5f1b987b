-- The methods without code of each of the machine's own classes, in the order in which the class lists its methods.
use Rattle.std.specs.Prelude.{ℕ, List, [], ◌∷◌, Option, slice_get}
use Rattle.jvm_runtime.specs.declared.classes.RuntimeClass.{RuntimeClass}
use Rattle.jvm_runtime.specs.declared.classes.RuntimeClass.TheVariants as runtime
use Rattle.mach_natives.specs.declared.natives.TextNative.TheVariants as text
use Rattle.mach_natives.specs.declared.natives.BoxNative.TheVariants as box
use Rattle.mach_natives.specs.declared.natives.ObjectNative.TheVariants as object
use Rattle.mach_natives.specs.declared.natives.AskingNative.TheVariants as asking
use Rattle.mach_natives.specs.declared.natives.SendingNative.TheVariants as sending
use Rattle.mach_natives.specs.declared.natives.Native.{Native}
use Rattle.mach_natives.specs.declared.natives.Native.TheVariants as native

-- those of a throwable
abbrev pub of_throwable : List Native
of_throwable =
    native.Object object.ThrowableInit ∷ native.Object object.ThrowableInitMessage
    ∷ native.Object object.ThrowableGetMessage ∷ []

abbrev pub natives : RuntimeClass → List Native
natives runtime.Object =
    native.Object object.ObjectInit
    ∷ native.Object object.ObjectEquals
    ∷ native.Object object.ObjectToString ∷ []
natives runtime.String =
    native.Text text.StringLength
    ∷ native.Text text.StringCharAt
    ∷ native.Text text.StringSubstring
    ∷ native.Text text.StringEquals
    ∷ native.Text text.StringToString ∷ []
natives runtime.Integer =
    native.Box box.IntegerValueOf
    ∷ native.Box box.IntegerValue
    ∷ native.Box box.IntegerEquals
    ∷ native.Box box.IntegerToString ∷ []
natives runtime.Long =
    native.Box box.LongValueOf
    ∷ native.Box box.LongValue
    ∷ native.Box box.LongEquals
    ∷ native.Box box.LongToString ∷ []
natives runtime.Boolean =
    native.Box box.BooleanValueOf
    ∷ native.Box box.BooleanValue
    ∷ native.Box box.BooleanEquals
    ∷ native.Box box.BooleanToString ∷ []
natives runtime.Character =
    native.Box box.CharacterValueOf
    ∷ native.Box box.CharacterValue
    ∷ native.Box box.CharacterEquals
    ∷ native.Box box.CharacterToString ∷ []
natives runtime.Throwable = of_throwable
natives runtime.Exception = of_throwable
natives runtime.RuntimeException = of_throwable
natives runtime.IllegalStateException = of_throwable
natives runtime.IllegalArgumentException = of_throwable
natives runtime.ArithmeticException = of_throwable
natives runtime.NullPointerException = of_throwable
natives runtime.ClassCastException = of_throwable
natives runtime.NegativeArraySizeException = of_throwable
natives runtime.IndexOutOfBoundsException = of_throwable
natives runtime.ArrayIndexOutOfBoundsException = of_throwable
natives runtime.StringIndexOutOfBoundsException = of_throwable
natives runtime.Unit =
    native.Object object.UnitGet
    ∷ native.Object object.UnitEquals
    ∷ native.Object object.UnitToString ∷ []
natives runtime.Entry =
    native.Object object.EntryInit
    ∷ native.Object object.EntryEquals
    ∷ native.Object object.EntryToString ∷ []
natives runtime.Out = native.Asking asking.OutPrintln ∷ []
natives runtime.Text =
    native.Text text.Concat
    ∷ native.Text text.OfInt
    ∷ native.Text text.OfLong
    ∷ native.Text text.OfBoolean
    ∷ native.Text text.OfCharacter ∷ []
natives runtime.Turn = native.Asking asking.Tick ∷ []
natives runtime.Cell = []
natives runtime.Cells =
    native.Asking asking.CellsMake
    ∷ native.Sending sending.CellsLaunch
    ∷ native.Sending sending.CellsResume
    ∷ native.Sending sending.CellsFail
    ∷ native.Asking asking.CellsAwait
    ∷ native.Asking asking.CellsSuspended ∷ []
natives runtime.ContinuationImpl = native.Object object.ContinuationInit ∷ []
natives runtime.Function0 = []
natives runtime.Function1 = []
natives runtime.Function2 = []
natives runtime.Function3 = []
natives runtime.Function4 = []
natives runtime.Function5 = []
natives runtime.Function6 = []
natives runtime.Function7 = []

-- the method at a place among those of a class; none where it is abstract, or isn't there
abbrev pub native_at : RuntimeClass → ℕ → Option Native
native_at class place = slice_get (natives class) place
