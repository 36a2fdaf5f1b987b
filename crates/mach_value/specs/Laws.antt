-- Laws of lumps.
use Rattle.std.specs.Prelude.{◌≡◌, List}
use Rattle.kt_base.specs.declared.lumps.Node.{Node}
use Rattle.kt_base.specs.Lump.{IsPrefixForm}
use Rattle.mach_value.specs.declared.values.Value.{Value}
use Rattle.mach_value.specs.declared.objects.Object.{Object}
use Rattle.mach_value.specs.declared.heaps.Heap.{Heap}
use Rattle.mach_value.specs.Exports.{IsLump}
use Rattle.mach_value.specs.Imported.{AreUnits, imported, imported_value}

-- a value has one lump at most
abbrev pub OneLump : Type 0
OneLump =
    (objects : List Object) (x : Value) (nodes more : List Node) → IsLump objects x nodes → IsLump objects x more → nodes ≡ more

-- what leaves is a node, then the lumps of its fields
abbrev pub LumpsArePrefixForms : Type 0
LumpsArePrefixForms =
    (objects : List Object) (x : Value) (nodes : List Node) → IsLump objects x nodes → IsPrefixForm nodes

-- what is imported leaves again as the lump that came
abbrev pub ArrivesAsItLeft : Type 0
ArrivesAsItLeft =
    (heap : Heap) (lump : List Node) → IsPrefixForm lump → AreUnits lump
    → IsLump (imported heap lump).objects (imported_value heap lump) lump
