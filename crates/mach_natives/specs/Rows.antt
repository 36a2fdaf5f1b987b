-- What each method does that the machine has without code, one row a method.
use Rattle.std.specs.Prelude.{ℕ, List, Option, Some, None, slice_get, unwrap_or}
use Rattle.mach_value.specs.declared.values.Value.{Value}
use Rattle.mach_value.specs.declared.values.Value.TheVariants as v
use Rattle.mach_value.specs.declared.heaps.Heap.{Heap}
use Rattle.mach_rows.specs.Courses.{Course, ticks}
use Rattle.mach_rows.specs.Texts.{string_length, string_char_at, string_substring, string_equals, string_to_string}
use Rattle.mach_rows.specs.Texts.{text_concat, text_of_int, text_of_long, text_of_boolean, text_of_character}
use Rattle.mach_rows.specs.Boxes.{integer_value_of, integer_value, integer_equals, integer_to_string}
use Rattle.mach_rows.specs.Boxes.{long_value_of, long_value, long_equals, long_to_string}
use Rattle.mach_rows.specs.Boxes.{boolean_value_of, boolean_value, boolean_equals, boolean_to_string}
use Rattle.mach_rows.specs.Boxes.{character_value_of, character_value, character_equals, character_to_string}
use Rattle.mach_rows.specs.Objects.{object_init, no_method, throwable_init_message, throwable_get_message, unit_get}
use Rattle.mach_rows.specs.Objects.{unit_equals, unit_to_string, entry_init, entry_equals, entry_to_string, continuation_init}
use Rattle.mach_rows.specs.Asking.{Row, does, out_println, cells_make, cells_await, cells_suspended}
use Rattle.mach_rows.specs.Asking.{cells_launch, cells_resume, cells_fail}
use Rattle.mach_natives.specs.declared.natives.TextNative.{TextNative}
use Rattle.mach_natives.specs.declared.natives.TextNative.TheVariants as text
use Rattle.mach_natives.specs.declared.natives.BoxNative.{BoxNative}
use Rattle.mach_natives.specs.declared.natives.BoxNative.TheVariants as box
use Rattle.mach_natives.specs.declared.natives.ObjectNative.{ObjectNative}
use Rattle.mach_natives.specs.declared.natives.ObjectNative.TheVariants as object
use Rattle.mach_natives.specs.declared.natives.AskingNative.{AskingNative}
use Rattle.mach_natives.specs.declared.natives.AskingNative.TheVariants as asking
use Rattle.mach_natives.specs.declared.natives.SendingNative.{SendingNative}
use Rattle.mach_natives.specs.declared.natives.SendingNative.TheVariants as sending
use Rattle.mach_natives.specs.declared.natives.Native.{Native}
use Rattle.mach_natives.specs.declared.natives.Native.TheVariants as native

-- an argument by its place; one that isn't there counts as null
abbrev pub argument : List Value → ℕ → Value
argument xs at = unwrap_or (slice_get xs at) v.Null

abbrev pub text_row : TextNative → Heap → List Value → Course
text_row text.StringLength h xs = string_length h (argument xs 0)
text_row text.StringCharAt h xs = string_char_at h (argument xs 0) (argument xs 1)
text_row text.StringSubstring h xs = string_substring h (argument xs 0) (argument xs 1) (argument xs 2)
text_row text.StringEquals h xs = string_equals h (argument xs 0) (argument xs 1)
text_row text.StringToString h xs = string_to_string h (argument xs 0)
text_row text.Concat h xs = text_concat h (argument xs 0) (argument xs 1)
text_row text.OfInt h xs = text_of_int (argument xs 0)
text_row text.OfLong h xs = text_of_long (argument xs 0)
text_row text.OfBoolean h xs = text_of_boolean (argument xs 0)
text_row text.OfCharacter h xs = text_of_character (argument xs 0)

abbrev pub box_row : BoxNative → Heap → List Value → Course
box_row box.IntegerValueOf h xs = integer_value_of (argument xs 0)
box_row box.IntegerValue h xs = integer_value h (argument xs 0)
box_row box.IntegerEquals h xs = integer_equals h (argument xs 0) (argument xs 1)
box_row box.IntegerToString h xs = integer_to_string h (argument xs 0)
box_row box.LongValueOf h xs = long_value_of (argument xs 0)
box_row box.LongValue h xs = long_value h (argument xs 0)
box_row box.LongEquals h xs = long_equals h (argument xs 0) (argument xs 1)
box_row box.LongToString h xs = long_to_string h (argument xs 0)
box_row box.BooleanValueOf h xs = boolean_value_of (argument xs 0)
box_row box.BooleanValue h xs = boolean_value h (argument xs 0)
box_row box.BooleanEquals h xs = boolean_equals h (argument xs 0) (argument xs 1)
box_row box.BooleanToString h xs = boolean_to_string h (argument xs 0)
box_row box.CharacterValueOf h xs = character_value_of (argument xs 0)
box_row box.CharacterValue h xs = character_value h (argument xs 0)
box_row box.CharacterEquals h xs = character_equals h (argument xs 0) (argument xs 1)
box_row box.CharacterToString h xs = character_to_string h (argument xs 0)

abbrev pub object_row : ObjectNative → Heap → List Value → Course
object_row object.ObjectInit h xs = object_init h (argument xs 0)
object_row object.ObjectEquals h xs = no_method
object_row object.ObjectToString h xs = no_method
object_row object.ThrowableInit h xs = object_init h (argument xs 0)
object_row object.ThrowableInitMessage h xs = throwable_init_message h (argument xs 0) (argument xs 1)
object_row object.ThrowableGetMessage h xs = throwable_get_message h (argument xs 0)
object_row object.UnitGet h xs = unit_get
object_row object.UnitEquals h xs = unit_equals (argument xs 1)
object_row object.UnitToString h xs = unit_to_string
object_row object.EntryInit h xs = entry_init h (argument xs 0) (argument xs 1) (argument xs 2)
object_row object.EntryEquals h xs = entry_equals h (argument xs 0) (argument xs 1)
object_row object.EntryToString h xs = entry_to_string h (argument xs 0)
object_row object.ContinuationInit h xs = continuation_init h (argument xs 0) (argument xs 1)

abbrev pub asking_row : AskingNative → Heap → List Value → Course
asking_row asking.OutPrintln h xs = out_println h (argument xs 0)
asking_row asking.Tick h xs = ticks
asking_row asking.CellsMake h xs = cells_make h
asking_row asking.CellsAwait h xs = cells_await h (argument xs 0) (argument xs 1)
asking_row asking.CellsSuspended h xs = cells_suspended

abbrev pub sending_row : SendingNative → Heap → List Value → Row
sending_row sending.CellsLaunch h xs = cells_launch h (argument xs 0)
sending_row sending.CellsResume h xs = cells_resume h (argument xs 0) (argument xs 1)
sending_row sending.CellsFail h xs = cells_fail h (argument xs 0) (argument xs 1)

abbrev pub row : Native → Heap → List Value → Row
row (native.Text n) h xs = does (text_row n h xs)
row (native.Box n) h xs = does (box_row n h xs)
row (native.Object n) h xs = does (object_row n h xs)
row (native.Asking n) h xs = does (asking_row n h xs)
row (native.Sending n) h xs = sending_row n h xs
