-- What code reads of objects and writes into them.
use Rattle.std.specs.Prelude.{ℕ, ℤ, ◌-◌, nat_lt, if◌then◌else◌, List, length, slice_get, slice_set, Option, Some, None, option_map, option_and_then}
use Rattle.mach_value.specs.declared.values.Value.{Value}
use Rattle.mach_value.specs.declared.values.Field.{Field}
use Rattle.mach_value.specs.declared.objects.Instance.{Instance}
use Rattle.mach_value.specs.declared.objects.Phase.{Phase}
use Rattle.mach_value.specs.declared.objects.Object.{Object}
use Rattle.mach_value.specs.declared.objects.Object.TheVariants as o
use Rattle.mach_value.specs.declared.accessing.Change.{Change}
use Rattle.mach_value.specs.declared.accessing.Change.TheVariants as change
use Rattle.mach_value.specs.Heaps.{object_at}

-- what an object of a class is, a throwable among them
abbrev pub instance_in : Object → Option Instance
instance_in (o.Throwable message i) = Some i
instance_in (o.Instance i) = Some i
instance_in _ = None

-- what a field holds
abbrev pub field_in : ℕ → Object → Option Value
field_in slot object = option_map (λ x. x.value) (option_and_then (λ i. slice_get i.fields slot) (instance_in object))

-- an element of an array of `int`, and of one of references
abbrev pub number_in : ℕ → Object → Option ℤ
number_in at (o.Numbers xs) = slice_get xs at
number_in at _ = None

abbrev pub element_in : ℕ → Object → Option Value
element_in at (o.Elements xs) = slice_get xs at
element_in at _ = None

-- how many elements an array has
abbrev pub size_in : Object → Option ℕ
size_in (o.Numbers xs) = Some (length xs)
size_in (o.Elements xs) = Some (length xs)
size_in _ = None

-- fields with another value in one of them
abbrev pub fields_with : Option Field → ℕ → Value → List Field → List Field
fields_with None slot y xs = xs
fields_with (Some x) slot y xs = slice_set xs slot (record x { value = y })

abbrev pub instance_with : ℕ → Value → Instance → Instance
instance_with slot y i = record i { fields = fields_with (slice_get i.fields slot) slot y i.fields }

-- an object with another value in a field, where it has that field
abbrev pub object_with : ℕ → Value → Object → Object
object_with slot y (o.Throwable message i) = o.Throwable message (instance_with slot y i)
object_with slot y (o.Instance i) = o.Instance (instance_with slot y i)
object_with slot y object = object

-- arrays with another element
abbrev pub with_number : ℕ → ℤ → Object → Object
with_number at y (o.Numbers xs) = o.Numbers (slice_set xs at y)
with_number at y object = object

abbrev pub with_element : ℕ → Value → Object → Object
with_element at y (o.Elements xs) = o.Elements (slice_set xs at y)
with_element at y object = object

-- a throwable with another message
abbrev pub with_message : Value → Object → Object
with_message y (o.Throwable message i) = o.Throwable y i
with_message y object = object

-- an object in another phase
abbrev pub in_phase : Phase → Object → Object
in_phase phase (o.Throwable message i) = o.Throwable message (record i { phase = phase })
in_phase phase (o.Instance i) = o.Instance (record i { phase = phase })
in_phase phase object = object

-- an object with a change
abbrev pub changed_by : Change → Object → Object
changed_by (change.Field slot y) object = object_with slot y object
changed_by (change.Number at y) object = with_number at y object
changed_by (change.Element at y) object = with_element at y object
changed_by (change.Message y) object = with_message y object
changed_by (change.Phase phase) object = in_phase phase object

-- the objects with a change of one of them, where it is there
abbrev pub replaced : Option Object → Change → ℕ → List Object → List Object
replaced None change a objects = objects
replaced (Some object) change a objects = slice_set objects (a - 2) (changed_by change object)

abbrev pub changed_at : Change → ℕ → List Object → List Object
changed_at change a objects = replaced (object_at objects a) change a objects

-- the objects with another one at an address
abbrev pub put_at : ℕ → Object → List Object → List Object
put_at a object objects = if nat_lt a 2 then objects else slice_set objects (a - 2) object
