-- Properties and elements (Kotlin specification, "Navigation operators", "Indexing expressions"). A bad index throws.
use Rattle.std.specs.Prelude.{ℕ, ◌+◌, ℤ, pos, negsuc, cond, List, length, Option, Some, None, option_map, slice_get}
use Rattle.kt_typed.specs.declared.operators.TypedProperty.{TypedProperty}
use Rattle.kt_typed.specs.declared.operators.TypedProperty.TheVariants as property
use Rattle.kt_typed.specs.Units.{UnitForm}
use Rattle.kt_values.specs.Values as v
use Rattle.kt_values.specs.Values.{Value, Object, instance, numbers, elements, as_int}
use Rattle.kt_values.specs.Numbers.{count_as_int}
use Rattle.kt_values.specs.Throwables.{Fault, array_index, text_index}
use Rattle.kt_values.specs.Runs.{Run, ◌>>=◌, give, or_unfit}
use Rattle.kt_values.specs.Heap.{object_of, read_slot, write_slot, raise}
use Rattle.kt_meaning.specs.Classes.{is_below, first_slot, entry_name}

-- the slot of a property, by the class that declares it and its place there, in an object of that class or of one
-- below
abbrev pub slot_in : UnitForm → ℕ → ℕ → Value → Option ℕ
slot_in u c place (v.reference (instance d) at) = cond (is_below u d c) (Some (first_slot u c + place)) None
slot_in u c place _ = None

-- the object of a reference
abbrev pub object_at : Value → Run Object
object_at x s = or_unfit (object_of s.heap x) s

-- how many slots it has
abbrev pub count_slots : Value → Run Value
count_slots x = object_at x >>= λ o. give (v.int (count_as_int (length o.slots)))

abbrev pub size_of : Value → Run Value
size_of (v.reference numbers place) = count_slots (v.reference numbers place)
size_of (v.reference elements place) = count_slots (v.reference elements place)
size_of _ = or_unfit None

abbrev pub entry_name_of : UnitForm → Value → Option Value
entry_name_of u (v.entry c ordinal) = option_map v.text (entry_name u c ordinal)
entry_name_of u _ = None

abbrev pub ordinal_of : Value → Option Value
ordinal_of (v.entry c ordinal) = Some (v.int (pos ordinal))
ordinal_of _ = None

abbrev pub length_of : Value → Option Value
length_of (v.text t) = Some (v.int (count_as_int (length t)))
length_of _ = None

abbrev pub code_of : Value → Option Value
code_of (v.character c) = Some (v.int (pos c))
code_of _ = None

abbrev pub read_property : UnitForm → TypedProperty → Value → Run Value
read_property u (property.Declared c place) x = or_unfit (slot_in u c place x) >>= read_slot x
read_property u property.EntryName x = or_unfit (entry_name_of u x)
read_property u property.Ordinal x = or_unfit (ordinal_of x)
read_property u property.Size x = size_of x
read_property u property.Length x = or_unfit (length_of x)
read_property u property.Code x = or_unfit (code_of x)

abbrev pub write_property : UnitForm → TypedProperty → Value → Value → Run (Unit {0})
write_property u (property.Declared c place) x new = or_unfit (slot_in u c place x) >>= λ slot. write_slot x slot new
write_property u _ x new = or_unfit None

-- what stands at an index
abbrev pub at_index : {A : Type 0} → List A → ℤ → Option A
at_index xs (pos n) = slice_get xs n
at_index xs (negsuc n) = None

-- an index that is there, as a number of a slot
abbrev pub index_in : {A : Type 0} → List A → ℤ → Option ℕ
index_in xs (pos n) = option_map (λ x. n) (slice_get xs n)
index_in xs (negsuc n) = None

abbrev pub or_raise : {A : Type 0} → Option A → Fault → Run A
or_raise (Some a) fault = give a
or_raise None fault = raise fault

-- what stands in the slot of an index, where there is one
abbrev pub slot_in_range : Value → ℤ → Run (Option Value)
slot_in_range x i = object_at x >>= λ o. give (at_index o.slots i)

abbrev pub slot_at : Value → ℤ → Run Value
slot_at x i = slot_in_range x i >>= λ found. or_raise found (array_index i)

abbrev pub unit_at : List ℕ → ℤ → Run Value
unit_at t i = or_raise (option_map v.character (at_index t i)) (text_index i)

-- an element of an array, or a unit of a string
abbrev pub element_at : Value → ℤ → Run Value
element_at (v.text t) i = unit_at t i
element_at (v.reference numbers place) i = slot_at (v.reference numbers place) i
element_at (v.reference elements place) i = slot_at (v.reference elements place) i
element_at _ i = or_unfit None

-- `x[y]`
abbrev pub element : Value → Value → Run Value
element x y = or_unfit (as_int y) >>= element_at x

-- the slot of an index, where there is one
abbrev pub index_in_range : Value → ℤ → Run (Option ℕ)
index_in_range x i = object_at x >>= λ o. give (index_in o.slots i)

abbrev pub put_at : Value → ℤ → Value → Run (Unit {0})
put_at x i new = do
  there ← index_in_range x i
  slot ← or_raise there (array_index i)
  write_slot x slot new

-- the element gets a value
abbrev pub put_element : Value → Value → Value → Run (Unit {0})
put_element (v.reference numbers place) y new = or_unfit (as_int y) >>= λ i. put_at (v.reference numbers place) i new
put_element (v.reference elements place) y new = or_unfit (as_int y) >>= λ i. put_at (v.reference elements place) i new
put_element _ y new = or_unfit None
