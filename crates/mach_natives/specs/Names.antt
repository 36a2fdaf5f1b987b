-- Laws of the tables of methods without code.
use Rattle.std.specs.Prelude.{◌≡◌, ℕ, List, codes, map, length, take}
use Rattle.jvm_runtime.specs.declared.classes.RuntimeClass.{RuntimeClass}
use Rattle.jvm_runtime.specs.Members.{runtime_methods}
use Rattle.mach_natives.specs.declared.natives.TextNative.{TextNative}
use Rattle.mach_natives.specs.declared.natives.TextNative.TheVariants as text
use Rattle.mach_natives.specs.declared.natives.BoxNative.{BoxNative}
use Rattle.mach_natives.specs.declared.natives.BoxNative.TheVariants as box
use Rattle.mach_natives.specs.declared.natives.ObjectNative.{ObjectNative}
use Rattle.mach_natives.specs.declared.natives.ObjectNative.TheVariants as object
use Rattle.mach_natives.specs.declared.natives.AskingNative.{AskingNative}
use Rattle.mach_natives.specs.declared.natives.AskingNative.TheVariants as asking
use Rattle.mach_natives.specs.declared.natives.SendingNative.{SendingNative}
use Rattle.mach_natives.specs.declared.natives.SendingNative.TheVariants as sending
use Rattle.mach_natives.specs.declared.natives.Native.{Native}
use Rattle.mach_natives.specs.declared.natives.Native.TheVariants as native
use Rattle.mach_natives.specs.Tables.{natives}

-- the name of a method without code

abbrev pub text_name : TextNative → List ℕ
text_name text.StringLength = codes "length"
text_name text.StringCharAt = codes "charAt"
text_name text.StringSubstring = codes "substring"
text_name text.StringEquals = codes "equals"
text_name text.StringToString = codes "toString"
text_name text.Concat = codes "concat"
text_name text.OfInt = codes "of"
text_name text.OfLong = codes "of"
text_name text.OfBoolean = codes "of"
text_name text.OfCharacter = codes "of"

abbrev pub box_name : BoxNative → List ℕ
box_name box.IntegerValueOf = codes "valueOf"
box_name box.IntegerValue = codes "intValue"
box_name box.IntegerEquals = codes "equals"
box_name box.IntegerToString = codes "toString"
box_name box.LongValueOf = codes "valueOf"
box_name box.LongValue = codes "longValue"
box_name box.LongEquals = codes "equals"
box_name box.LongToString = codes "toString"
box_name box.BooleanValueOf = codes "valueOf"
box_name box.BooleanValue = codes "booleanValue"
box_name box.BooleanEquals = codes "equals"
box_name box.BooleanToString = codes "toString"
box_name box.CharacterValueOf = codes "valueOf"
box_name box.CharacterValue = codes "charValue"
box_name box.CharacterEquals = codes "equals"
box_name box.CharacterToString = codes "toString"

abbrev pub object_name : ObjectNative → List ℕ
object_name object.ObjectInit = codes "<init>"
object_name object.ObjectEquals = codes "equals"
object_name object.ObjectToString = codes "toString"
object_name object.ThrowableInit = codes "<init>"
object_name object.ThrowableInitMessage = codes "<init>"
object_name object.ThrowableGetMessage = codes "getMessage"
object_name object.UnitGet = codes "get"
object_name object.UnitEquals = codes "equals"
object_name object.UnitToString = codes "toString"
object_name object.EntryInit = codes "<init>"
object_name object.EntryEquals = codes "equals"
object_name object.EntryToString = codes "toString"
object_name object.ContinuationInit = codes "<init>"

abbrev pub asking_name : AskingNative → List ℕ
asking_name asking.OutPrintln = codes "println"
asking_name asking.Tick = codes "tick"
asking_name asking.CellsMake = codes "make"
asking_name asking.CellsAwait = codes "await"
asking_name asking.CellsSuspended = codes "suspended"

abbrev pub sending_name : SendingNative → List ℕ
sending_name sending.CellsLaunch = codes "launch"
sending_name sending.CellsResume = codes "resume"
sending_name sending.CellsFail = codes "fail"

abbrev pub native_name : Native → List ℕ
native_name (native.Text n) = text_name n
native_name (native.Box n) = box_name n
native_name (native.Object n) = object_name n
native_name (native.Asking n) = asking_name n
native_name (native.Sending n) = sending_name n

-- the methods without code of a class are its first ones, in order; what stands behind them is abstract
abbrev pub NamedAlike : Type 0
NamedAlike =
    (class : RuntimeClass) → map native_name (natives class)
    ≡ take (length (natives class)) (map (λ m. m.name) (runtime_methods class))
