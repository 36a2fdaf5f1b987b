-- What comes into a heap: the objects of a lump. They are made from behind, fields before the object that holds them.
use Rattle.std.specs.Prelude.{ℕ, ◌+◌, ◌<◌, ◌^◌, ℤ, pos, Bool, true, false, List, [], ◌∷◌, ◌++◌, length, take, drop}
use Rattle.std.specs.Prelude.{Option, None, Some}
use Rattle.kt_base.specs.declared.lumps.Node.{Node}
use Rattle.kt_base.specs.declared.lumps.Node.TheVariants as n
use Rattle.mach_value.specs.declared.values.Value.{Value}
use Rattle.mach_value.specs.declared.values.Value.TheVariants as v
use Rattle.mach_value.specs.declared.values.FieldKind.{FieldKind}
use Rattle.mach_value.specs.declared.values.FieldKind.TheVariants as k
use Rattle.mach_value.specs.declared.values.Field.{Field}
use Rattle.mach_value.specs.declared.objects.Object.{Object}
use Rattle.mach_value.specs.declared.objects.Object.TheVariants as o
use Rattle.mach_value.specs.declared.objects.Phase.TheVariants.{Ready}
use Rattle.mach_value.specs.declared.heaps.Heap.{Heap}
use Rattle.mach_value.specs.declared.importing.Built.{Built}
use Rattle.mach_value.specs.Exports.{held, is_true, unit_of}
use Rattle.mach_value.specs.Heaps.{address_behind}

-- a field of an object that comes in a lump
abbrev pub final_field : FieldKind → Value → Field
final_field kind x = record { value = x; kind = kind; is_final = true }

abbrev pub with_field : Field → Built → Built
with_field x b = record b { fields = x ∷ b.fields }

-- one more object, which the next field refers to; `first` is the address of the first one
abbrev pub with_object : ℕ → Object → Built → Built
with_object first object b =
    record { objects = b.objects ++ object ∷ []; fields = held (v.Ref (first + length b.objects)) ∷ b.fields }

-- a truth value as a number
abbrev pub truth : Bool → Value
truth true = v.Int (pos 1)
truth false = v.Int (pos 0)

-- an object with its fields, whose class isn't looked for yet
abbrev pub received : List ℕ → List Field → Object
received class fields = o.Instance (record { class = class; number = None; phase = Ready; fields = fields })

-- what a node makes of what the nodes behind it are. A number stays one in a field
abbrev pub built_on : ℕ → Node → Built → Built
built_on first (n.Int i) b = with_field (final_field k.Int (v.Int i)) b
built_on first (n.Long i) b = with_field (final_field k.Long (v.Long i)) b
built_on first (n.Bool t) b = with_field (final_field k.Bool (truth t)) b
built_on first (n.Char c) b = with_field (final_field k.Char (v.Int (pos c))) b
built_on first n.Null b = with_field (held v.Null) b
built_on first n.UnitNode b = with_field (held (v.Ref 0)) b
built_on first (n.Text t) b = with_object first (o.Text t) b
built_on first (n.Cell c) b = with_object first (o.Cell c) b
built_on first (n.Object class count) b =
    with_object first (received class (take count b.fields)) (record b { fields = drop count b.fields })

-- the objects of these nodes, and the fields that no object holds, the first first
unfoldable pub built : ℕ → List Node → Built
built first [] = record { objects = []; fields = [] }
built first (node ∷ nodes) = built_on first node (built first nodes)

-- the box of an `int` in a field of this kind
abbrev pub int_box : FieldKind → ℤ → Option Object
int_box k.Int i = Some (o.Int i)
int_box k.Long i = None
int_box k.Bool i = Some (o.Bool (is_true i))
int_box k.Char i = Some (o.Char (unit_of i))
int_box k.Reference i = None

-- the box of a number
abbrev pub box_of : FieldKind → Value → Option Object
box_of kind (v.Int i) = int_box kind i
box_of kind (v.Long i) = Some (o.Long i)
box_of kind v.Null = None
box_of kind (v.Ref a) = None

-- the first field; a lump has just one
abbrev pub top_of : List Field → Field
top_of [] = held v.Null
top_of (x ∷ xs) = x

-- with the box of a number that is a whole lump
abbrev pub with_box : Option Object → List Object → List Object
with_box None objects = objects
with_box (Some box) objects = objects ++ box ∷ []

abbrev pub top_value : ℕ → Option Object → Value → List Object → Value
top_value first None x objects = x
top_value first (Some box) x objects = v.Ref (first + length objects)

abbrev pub box_of_top : Built → Option Object
box_of_top b = box_of (top_of b.fields).kind (top_of b.fields).value

-- the objects that are made for a lump in a heap, but for a box
abbrev pub made_for : Heap → List Node → Built
made_for heap lump = built (address_behind heap.objects) lump

-- the heap with the objects of a lump
abbrev pub imported : Heap → List Node → Heap
imported heap lump =
    let b = made_for heap lump in record heap { objects = heap.objects ++ with_box (box_of_top b) b.objects }

-- the value that a lump has there
abbrev pub imported_value : Heap → List Node → Value
imported_value heap lump =
    let b = made_for heap lump in
    top_value (address_behind heap.objects) (box_of_top b) (top_of b.fields).value b.objects

-- a character is a UTF-16 unit
abbrev pub IsUnit : Node → Type 0
IsUnit (n.Char c) = c < 2 ^ 16
IsUnit _ = Unit {0}

abbrev pub AreUnits : List Node → Type 0
AreUnits [] = Unit {0}
AreUnits (node ∷ nodes) = IsUnit node × AreUnits nodes
