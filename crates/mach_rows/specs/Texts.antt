-- The methods of `java/lang/String` and of `kt/rt/Text`.
use Rattle.std.specs.Prelude.{ℕ, ◌+◌, ◌-◌, nat_lt, ℤ, pos, negsuc, int_lt, Bool, true, false, ◌==◌, if◌then◌else◌}
use Rattle.std.specs.Prelude.{List, [], ◌∷◌, ◌++◌, length, take, drop, slice_get, codes, Option, Some, None, Result, Ok, Err}
use Rattle.std.specs.Fmt.{signed_decimal}
use Rattle.std.specs.Cmp.Lexicographic.{pointwise}
use Rattle.mach_value.specs.declared.values.Value.{Value}
use Rattle.mach_value.specs.declared.values.Value.TheVariants as v
use Rattle.mach_value.specs.declared.heaps.Heap.{Heap}
use Rattle.mach_value.specs.Exports.{is_true, unit_of}
use Rattle.mach_rows.specs.declared.throwing.Fault.TheVariants as fault
use Rattle.mach_rows.specs.Courses.{Course, gives, throws, held_in, text_in, given, on_int, on_long, truth, count}
use Rattle.mach_rows.specs.Courses.{makes_text, is_same}

abbrev pub same_text : List ℕ → List ℕ → Bool
same_text s t = pointwise ◌==◌ s t

abbrev pub on_text : Heap → Value → (List ℕ → Course) → Course
on_text heap x go = given (held_in text_in heap x) go

abbrev pub string_length : Heap → Value → Course
string_length heap x = on_text heap x (λ t. count (length t))

-- what stands at a place
abbrev pub at_index : List ℕ → ℤ → Option ℕ
at_index t (pos i) = slice_get t i
at_index t (negsuc i) = None

abbrev pub found_unit : ℤ → Option ℕ → Course
found_unit i None = throws (fault.TextIndex i)
found_unit i (Some c) = gives (v.Int (pos c))

abbrev pub string_char_at : Heap → Value → Value → Course
string_char_at heap x at = on_text heap x (λ t. on_int at (λ i. found_unit i (at_index t i)))

-- a bound of a part that is below 0 or above the length
abbrev pub is_outside : ℕ → ℤ → Bool
is_outside count (pos i) = nat_lt count i
is_outside count (negsuc i) = true

abbrev pub units_between : ℤ → ℤ → List ℕ → List ℕ
units_between (pos start) (pos end) t = take (end - start) (drop start t)
units_between (pos start) (negsuc end) t = []
units_between (negsuc start) end t = []

-- the part between two bounds, or the bound that is told: the first that is outside, else the start
abbrev pub part : List ℕ → ℤ → ℤ → Result (List ℕ) ℤ
part t start end =
    if is_outside (length t) start then Err start else
    (if is_outside (length t) end then Err end else
    (if int_lt end start then Err start else Ok (units_between start end t)))

abbrev pub part_course : Result (List ℕ) ℤ → Course
part_course (Ok units) = makes_text units
part_course (Err bound) = throws (fault.TextIndex bound)

abbrev pub string_substring : Heap → Value → Value → Value → Course
string_substring heap x start end = on_text heap x (λ t. on_int start (λ i. on_int end (λ j. part_course (part t i j))))

abbrev pub string_equals : Heap → Value → Value → Course
string_equals heap x y = on_text heap x (λ t. truth (is_same same_text t (held_in text_in heap y)))

abbrev pub string_to_string : Heap → Value → Course
string_to_string heap x = on_text heap x (λ t. gives x)

abbrev pub longest_text : ℕ
longest_text = 16777216

abbrev pub joined : List ℕ → List ℕ → Course
joined s t = if nat_lt longest_text (length s + length t) then throws fault.TextTooLong else makes_text (s ++ t)

abbrev pub text_concat : Heap → Value → Value → Course
text_concat heap x y = on_text heap x (λ s. on_text heap y (λ t. joined s t))

abbrev pub truth_text : Bool → List ℕ
truth_text true = codes "true"
truth_text false = codes "false"

abbrev pub text_of_int : Value → Course
text_of_int x = on_int x (λ i. makes_text (signed_decimal i))

abbrev pub text_of_long : Value → Course
text_of_long x = on_long x (λ i. makes_text (signed_decimal i))

abbrev pub text_of_boolean : Value → Course
text_of_boolean x = on_int x (λ i. makes_text (truth_text (is_true i)))

abbrev pub text_of_character : Value → Course
text_of_character x = on_int x (λ i. makes_text (unit_of i ∷ []))
