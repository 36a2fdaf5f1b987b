-- A node says how many fields follow it.
use Rattle.std.proofs.Common.{◌≡◌, ℕ, Bool, true, false, ◌==◌, if◌then◌else◌, List, [], length, Option, None, Some, refl, subst, option_and_then}
use Rattle.std.specs.Prelude.{codes}
use Rattle.kt_base.specs.declared.lumps.Node.TheVariants as n
use Rattle.kt_base.specs.Lump.{field_count}
use Rattle.mach_value.specs.declared.values.Value.{Value}
use Rattle.mach_value.specs.declared.values.Value.TheVariants as v
use Rattle.mach_value.specs.declared.values.FieldKind.{FieldKind}
use Rattle.mach_value.specs.declared.values.FieldKind.TheVariants as k
use Rattle.mach_value.specs.declared.values.Field.{Field}
use Rattle.mach_value.specs.declared.objects.Object.{Object}
use Rattle.mach_value.specs.declared.objects.Object.TheVariants as o
use Rattle.mach_value.specs.Heaps.{object_at}
use Rattle.mach_value.specs.Exports.{Opened, opened, opened_value, opened_at, opened_object}

abbrev Counts : Option Opened → Type 0
Counts None = Unit {0}
Counts (Some o) = field_count o.node ≡ length o.fields

object_counts : (object : Object) → Counts (opened_object object)
object_counts (o.Text t) = refl
object_counts (o.Int i) = refl
object_counts (o.Long i) = refl
object_counts (o.Bool b) = refl
object_counts (o.Char c) = refl
object_counts (o.Cell c) = refl
object_counts (o.Numbers xs) = tt
object_counts (o.Elements xs) = tt
object_counts (o.Throwable message i) = refl
object_counts (o.Instance i) = refl

at_counts : (objects : List Object) (a : ℕ) → Counts (opened_at objects a)
at_counts objects a = of (a == 0) (a == 1) (object_at objects a)
  where
    of : (s t : Bool) (found : Option Object)
        → Counts (if s then Some (record { node = n.UnitNode; fields = [] }) else (if t then Some (record { node = n.Object (codes "java/lang/Object") 0; fields = [] }) else option_and_then opened_object found))
    of true t found = refl
    of false true found = refl
    of false false None = tt
    of false false (Some object) = object_counts object

number_counts : (objects : List Object) (kind : FieldKind) (x : Value) → Counts (opened_value objects kind x)
number_counts objects k.Int (v.Int i) = refl
number_counts objects k.Long (v.Int i) = refl
number_counts objects k.Bool (v.Int i) = refl
number_counts objects k.Char (v.Int i) = refl
number_counts objects k.Reference (v.Int i) = refl
number_counts objects kind (v.Long i) = refl
number_counts objects kind v.Null = refl
number_counts objects kind (v.Ref a) = at_counts objects a

field_counts : (objects : List Object) (x : Field) → Counts (opened objects x)
field_counts objects x = of x.is_final
  where
    of : (t : Bool) → Counts (if t then opened_value objects x.kind x.value else None)
    of true = number_counts objects x.kind x.value
    of false = tt

pub counts : (objects : List Object) (x : Field) (o : Opened) → opened objects x ≡ Some o → field_count o.node ≡ length o.fields
counts objects x o e = subst Counts e (field_counts objects x)
