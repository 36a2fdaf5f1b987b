-- The methods of `java/lang/Integer`, `Long`, `Boolean` and `Character`.
use Rattle.std.specs.Prelude.{pos, ◌==◌, [], ◌∷◌}
use Rattle.std.specs.Bool.{beq}
use Rattle.std.specs.Fmt.{signed_decimal}
use Rattle.std.specs.Ordering.{int_eq}
use Rattle.mach_value.specs.declared.values.Value.{Value}
use Rattle.mach_value.specs.declared.values.Value.TheVariants as v
use Rattle.mach_value.specs.declared.objects.Object.TheVariants as o
use Rattle.mach_value.specs.declared.heaps.Heap.{Heap}
use Rattle.mach_value.specs.Exports.{is_true, unit_of}
use Rattle.mach_rows.specs.Courses.{Course, gives, makes, held_in, int_in, long_in, truth_in, unit_in, given, on_int, on_long}
use Rattle.mach_rows.specs.Courses.{truth, makes_text, is_same}
use Rattle.mach_rows.specs.Texts.{truth_text}

abbrev pub integer_value_of : Value → Course
integer_value_of x = on_int x (λ i. makes (o.Int i))

abbrev pub integer_value : Heap → Value → Course
integer_value heap x = given (held_in int_in heap x) (λ i. gives (v.Int i))

abbrev pub integer_equals : Heap → Value → Value → Course
integer_equals heap x y = given (held_in int_in heap x) (λ i. truth (is_same int_eq i (held_in int_in heap y)))

abbrev pub integer_to_string : Heap → Value → Course
integer_to_string heap x = given (held_in int_in heap x) (λ i. makes_text (signed_decimal i))

abbrev pub long_value_of : Value → Course
long_value_of x = on_long x (λ i. makes (o.Long i))

abbrev pub long_value : Heap → Value → Course
long_value heap x = given (held_in long_in heap x) (λ i. gives (v.Long i))

abbrev pub long_equals : Heap → Value → Value → Course
long_equals heap x y = given (held_in long_in heap x) (λ i. truth (is_same int_eq i (held_in long_in heap y)))

abbrev pub long_to_string : Heap → Value → Course
long_to_string heap x = given (held_in long_in heap x) (λ i. makes_text (signed_decimal i))

abbrev pub boolean_value_of : Value → Course
boolean_value_of x = on_int x (λ i. makes (o.Bool (is_true i)))

abbrev pub boolean_value : Heap → Value → Course
boolean_value heap x = given (held_in truth_in heap x) (λ b. truth b)

abbrev pub boolean_equals : Heap → Value → Value → Course
boolean_equals heap x y = given (held_in truth_in heap x) (λ b. truth (is_same beq b (held_in truth_in heap y)))

abbrev pub boolean_to_string : Heap → Value → Course
boolean_to_string heap x = given (held_in truth_in heap x) (λ b. makes_text (truth_text b))

abbrev pub character_value_of : Value → Course
character_value_of x = on_int x (λ i. makes (o.Char (unit_of i)))

abbrev pub character_value : Heap → Value → Course
character_value heap x = given (held_in unit_in heap x) (λ c. gives (v.Int (pos c)))

abbrev pub character_equals : Heap → Value → Value → Course
character_equals heap x y = given (held_in unit_in heap x) (λ c. truth (is_same ◌==◌ c (held_in unit_in heap y)))

abbrev pub character_to_string : Heap → Value → Course
character_to_string heap x = given (held_in unit_in heap x) (λ c. makes_text (c ∷ []))
