-- Objects that came in a lump, as objects of their classes: each number in a field of reference kind goes into a new
-- box.
use Rattle.std.specs.Prelude.{ℕ, zero, suc, ◌+◌, Bool, ◌==◌, if◌then◌else◌, List, [], ◌∷◌, ◌++◌, drop}
use Rattle.std.specs.Prelude.{slice_get, find, unwrap_or, Option, Some, None, option_and_then}
use Rattle.std.specs.Cmp.Lexicographic.{pointwise}
use Rattle.mach_value.specs.declared.values.Value.{Value}
use Rattle.mach_value.specs.declared.values.Value.TheVariants as v
use Rattle.mach_value.specs.declared.values.FieldKind.{FieldKind}
use Rattle.mach_value.specs.declared.values.FieldKind.TheVariants as k
use Rattle.mach_value.specs.declared.values.Field.{Field}
use Rattle.mach_value.specs.declared.objects.Instance.{Instance}
use Rattle.mach_value.specs.declared.objects.Phase.TheVariants.{Ready}
use Rattle.mach_value.specs.declared.objects.Object.{Object}
use Rattle.mach_value.specs.declared.objects.Object.TheVariants as o
use Rattle.mach_value.specs.Access.{put_at}
use Rattle.mach_value.specs.Heaps.{address_behind, object_at}
use Rattle.mach_value.specs.Imported.{box_of, final_field, top_of}
use Rattle.mach_settling.specs.declared.shapes.Shape.{Shape}
use Rattle.mach_settling.specs.declared.objects.Found.{Found}

abbrev pub is_named : List ℕ → Shape → Bool
is_named name s = pointwise ◌==◌ s.class name

-- the first class of a name
abbrev pub shape_of : List Shape → List ℕ → Option Shape
shape_of shapes name = find (λ s. is_named name s) shapes

-- the kind that a class gives to what stands at a place
abbrev pub kind_at : List FieldKind → ℕ → Field → FieldKind
kind_at kinds at x = unwrap_or (slice_get kinds at) x.kind

-- objects, and the fields of one of them that are settled
pub record Settling : Type 0 where
  pub objects : List Object
  pub fields : List Field

-- the box that a field wants
abbrev pub wanted_box : FieldKind → Field → Option Object
wanted_box k.Int x = None
wanted_box k.Long x = None
wanted_box k.Bool x = None
wanted_box k.Char x = None
wanted_box k.Reference x = box_of x.kind x.value

abbrev pub objects_with : Option Object → List Object → List Object
objects_with None objects = objects
objects_with (Some box) objects = objects ++ box ∷ []

abbrev pub value_with : Option Object → Value → List Object → Value
value_with None x objects = x
value_with (Some box) x objects = v.Ref (address_behind objects)

abbrev pub settled_field : FieldKind → Field → Settling → Settling
settled_field kind x s = record {
  objects = objects_with (wanted_box kind x) s.objects;
  fields = s.fields ++ final_field kind (value_with (wanted_box kind x) x.value s.objects) ∷ [];
}

-- fields from a place on
unfoldable pub settled_fields : List FieldKind → ℕ → List Field → Settling → Settling
settled_fields kinds at [] s = s
settled_fields kinds at (x ∷ xs) s = settled_fields kinds (at + 1) xs (settled_field (kind_at kinds at x) x s)

abbrev pub settled_instance : Shape → List Field → Instance
settled_instance s fields = record { class = s.class; number = Some s.number; phase = Ready; fields = fields }

-- the message of a throwable is the first of what its lump holds
abbrev pub settled_object : Shape → List Field → Object
settled_object s fields =
    if s.is_throwable then o.Throwable (top_of fields).value (settled_instance s (drop 1 fields))
    else o.Instance (settled_instance s fields)

abbrev pub unsettled : Option ℕ → Instance → Option Instance
unsettled None i = Some i
unsettled (Some number) i = None

abbrev pub unsettled_in : Object → Option Instance
unsettled_in (o.Instance i) = unsettled i.number i
unsettled_in _ = None

-- the objects with one of them settled, where it came in a lump and its class is known
abbrev pub settled_as : Option Shape → ℕ → List Field → List Object → List Object
settled_as None a fields objects = objects
settled_as (Some s) a fields objects =
    let done = settled_fields s.kinds 0 fields (record { objects = objects; fields = [] }) in
    put_at a (settled_object s done.fields) done.objects

abbrev pub settled_one : List Shape → ℕ → Option Instance → List Object → List Object
settled_one shapes a None objects = objects
settled_one shapes a (Some i) objects = settled_as (shape_of shapes i.class) a i.fields objects

abbrev pub settled_at : List Shape → ℕ → List Object → List Object
settled_at shapes a objects = settled_one shapes a (option_and_then unsettled_in (object_at objects a)) objects

-- so many, from an address on
unfoldable pub settled : List Shape → ℕ → ℕ → List Object → List Object
settled shapes zero a objects = objects
settled shapes (suc n) a objects = settled shapes n (a + 1) (settled_at shapes a objects)

-- what the code finds of an object that is to be settled
abbrev pub settled_found : Option Found → ℕ → List Object → List Object
settled_found None a objects = objects
settled_found (Some found) a objects = settled_as (Some found.shape.now) a found.fields objects
