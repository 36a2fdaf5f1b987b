-- What leaves a heap: the lump of a value.
use Rattle.std.specs.Prelude.{◌≡◌, ℕ, ◌^◌, ◌%◌, ℤ, pos, Bool, true}
use Rattle.std.specs.Prelude.{not, ◌==◌, if◌then◌else◌, List, [], ◌∷◌, ◌++◌, length, codes}
use Rattle.std.specs.Prelude.{Option, None, Some, option_and_then}
use Rattle.std.specs.Ordering.{int_eq}
use Rattle.std.specs.Int.{w32, cast_unsigned}
use Rattle.kt_base.specs.declared.lumps.Node.{Node}
use Rattle.kt_base.specs.declared.lumps.Node.TheVariants as n
use Rattle.mach_value.specs.declared.values.Value.{Value}
use Rattle.mach_value.specs.declared.values.Value.TheVariants as v
use Rattle.mach_value.specs.declared.values.FieldKind.{FieldKind}
use Rattle.mach_value.specs.declared.values.FieldKind.TheVariants as k
use Rattle.mach_value.specs.declared.values.Field.{Field}
use Rattle.mach_value.specs.declared.objects.Object.{Object}
use Rattle.mach_value.specs.declared.objects.Object.TheVariants as o
use Rattle.mach_value.specs.Heaps.{object_at}

-- a number counts as true where it isn't 0
abbrev pub is_true : ℤ → Bool
is_true i = not (int_eq i (pos 0))

-- of a number that is a character the low 16 bits count
abbrev pub unit_of : ℤ → ℕ
unit_of i = cast_unsigned w32 i % 2 ^ 16

-- what a number is in a field of this kind
abbrev pub number_node : FieldKind → ℤ → Node
number_node k.Int i = n.Int i
number_node k.Long i = n.Int i
number_node k.Bool i = n.Bool (is_true i)
number_node k.Char i = n.Char (unit_of i)
number_node k.Reference i = n.Int i

-- a reference that is never assigned anew
abbrev pub held : Value → Field
held x = record { value = x; kind = k.Reference; is_final = true }

-- the node of what may leave, and the fields whose lumps follow it
pub record Opened : Type 0 where
  pub node : Node
  pub fields : List Field

abbrev pub leaf : Node → Option Opened
leaf node = Some (record { node = node; fields = [] })

-- an object with its class and its fields
abbrev pub object_node : List ℕ → List Field → Option Opened
object_node class fields = Some (record { node = n.Object class (length fields); fields = fields })

-- of an object; an array doesn't leave. The message of a throwable is its first field
abbrev pub opened_object : Object → Option Opened
opened_object (o.Text t) = leaf (n.Text t)
opened_object (o.Int i) = leaf (n.Int i)
opened_object (o.Long i) = leaf (n.Long i)
opened_object (o.Bool b) = leaf (n.Bool b)
opened_object (o.Char c) = leaf (n.Char c)
opened_object (o.Cell c) = leaf (n.Cell c)
opened_object (o.Numbers xs) = None
opened_object (o.Elements xs) = None
opened_object (o.Throwable message i) = object_node i.class (held message ∷ i.fields)
opened_object (o.Instance i) = object_node i.class i.fields

-- of the object at an address
abbrev pub opened_at : List Object → ℕ → Option Opened
opened_at objects a =
    if a == 0 then leaf n.UnitNode else
    (if a == 1 then object_node (codes "java/lang/Object") [] else
    option_and_then opened_object (object_at objects a))

abbrev pub opened_value : List Object → FieldKind → Value → Option Opened
opened_value objects kind (v.Int i) = leaf (number_node kind i)
opened_value objects kind (v.Long i) = leaf (n.Long i)
opened_value objects kind v.Null = leaf n.Null
opened_value objects kind (v.Ref a) = opened_at objects a

-- of what a field holds, which leaves if the field is final
abbrev pub opened : List Object → Field → Option Opened
opened objects x = if x.is_final then opened_value objects x.kind x.value else None

-- it may leave as this node, before what its fields are
abbrev pub Opens : Option Opened → Node → (List Field → Type 0) → Type 0
Opens None node behind = ⊥
Opens (Some opened) node behind = (opened.node ≡ node) × behind opened.fields

-- the nodes are the lumps of these fields, one after another: a node, then the lumps of what it holds
abbrev pub AreLumps : List Object → List Node → List Field → Type 0
AreLumps objects [] [] = Unit {0}
AreLumps objects [] (x ∷ xs) = ⊥
AreLumps objects (node ∷ nodes) [] = ⊥
AreLumps objects (node ∷ nodes) (x ∷ xs) =
    Opens (opened objects x) node (λ inside. AreLumps objects nodes (inside ++ xs))

-- the lump of a value. One that leads back to itself has none, since a list of nodes has an end
abbrev pub IsLump : List Object → Value → List Node → Type 0
IsLump objects x nodes = AreLumps objects nodes (held x ∷ [])

-- nothing may leave as this value
abbrev pub HasNoLump : List Object → Value → Type 0
HasNoLump objects x = (nodes : List Node) → IsLump objects x nodes → ⊥
