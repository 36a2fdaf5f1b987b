-- The methods of `java/lang/Object`, of throwables, `kt/rt/Unit`, `kt/rt/Entry` and `kt/rt/ContinuationImpl`.
use Rattle.std.specs.Prelude.{ℕ, ℤ, Bool, false, ◌&&◌, ◌==◌, List, codes, Option, Some, None, option_map, option_and_then}
use Rattle.std.specs.Ordering.{int_eq}
use Rattle.mach_value.specs.declared.values.Value.{Value}
use Rattle.mach_value.specs.declared.values.Value.TheVariants as v
use Rattle.mach_value.specs.declared.objects.Object.{Object}
use Rattle.mach_value.specs.declared.objects.Phase.TheVariants.{Ready}
use Rattle.mach_value.specs.declared.accessing.Change.{Change}
use Rattle.mach_value.specs.declared.accessing.Change.TheVariants as change
use Rattle.mach_value.specs.declared.heaps.Heap.{Heap}
use Rattle.mach_value.specs.Access.{instance_in, field_in, changed_at}
use Rattle.mach_rows.specs.declared.throwing.Fault.TheVariants as fault
use Rattle.mach_rows.specs.Courses.{Course, gives, leaves, throws, held_in, message_in, as_int, given}
use Rattle.mach_rows.specs.Courses.{truth, makes_text, is_same}
use Rattle.mach_rows.specs.Texts.{same_text}

abbrev pub as_reference : Value → Option ℕ
as_reference (v.Int i) = None
as_reference (v.Long i) = None
as_reference v.Null = None
as_reference (v.Ref a) = Some a

-- the heap with a change of one object
abbrev pub changed : Change → ℕ → Heap → Heap
changed change a heap = record heap { objects = changed_at change a heap.objects }

-- a constructor makes its object ready
abbrev pub ready : ℕ → Heap → Course
ready a heap = leaves (changed (change.Phase Ready) a heap)

abbrev pub on_reference : Value → (ℕ → Course) → Course
on_reference x go = given (as_reference x) go

abbrev pub object_init : Heap → Value → Course
object_init heap x = on_reference x (λ a. ready a heap)

-- `equals` and `toString`, which a class overrides to have them
abbrev pub no_method : Course
no_method = throws fault.NoMethod

abbrev pub throwable_init_message : Heap → Value → Value → Course
throwable_init_message heap x message = on_reference x (λ a. ready a (changed (change.Message message) a heap))

abbrev pub throwable_get_message : Heap → Value → Course
throwable_get_message heap x = given (held_in message_in heap x) (λ message. gives message)

abbrev pub unit_get : Course
unit_get = gives (v.Ref 0)

abbrev pub is_unit : Value → Bool
is_unit (v.Int i) = false
is_unit (v.Long i) = false
is_unit v.Null = false
is_unit (v.Ref a) = a == 0

abbrev pub unit_equals : Value → Course
unit_equals y = truth (is_unit y)

abbrev pub unit_to_string : Course
unit_to_string = makes_text (codes "kotlin.Unit")

-- the name of an entry of an enum is its first field, and the ordinal the second
abbrev pub entry_init : Heap → Value → Value → Value → Course
entry_init heap x name ordinal =
    on_reference x (λ a. ready a (changed (change.Field 1 ordinal) a (changed (change.Field 0 name) a heap)))

abbrev pub entry_to_string : Heap → Value → Course
entry_to_string heap x = given (held_in (λ object. field_in 0 object) heap x) (λ name. gives name)

-- the ordinal of an entry, with its class; none for what is none
abbrev pub ordinal_in : Object → Option ℤ
ordinal_in object = option_and_then as_int (field_in 1 object)

abbrev pub class_in : Object → Option (List ℕ)
class_in object = option_map (λ i. i.class) (instance_in object)

abbrev pub same_class : Option (List ℕ) → Option (List ℕ) → Bool
same_class None d = false
same_class (Some c) None = false
same_class (Some c) (Some d) = same_text c d

-- an entry equals one of its class with its ordinal
abbrev pub entry_equals : Heap → Value → Value → Course
entry_equals heap x y =
    given (held_in (λ object. ordinal_in object) heap x) (λ i.
    truth (same_class (held_in (λ object. class_in object) heap x) (held_in (λ object. class_in object) heap y)
    && is_same int_eq i (held_in (λ object. ordinal_in object) heap y)))

abbrev pub continuation_init : Heap → Value → Value → Course
continuation_init heap x completion = on_reference x (λ a. ready a (changed (change.Field 1 completion) a heap))
