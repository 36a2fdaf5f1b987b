-- How far an export is. No public clause names this.
use Rattle.std.specs.Prelude.{◌≡◌, ℕ, zero, suc, ◌+◌, ◌<◌, Bool, true, false, ◌==◌, if◌then◌else◌}
use Rattle.std.specs.Prelude.{List, [], ◌∷◌, ◌++◌, length, Option, None, Some, Result, Ok, Err}
use Rattle.kt_base.specs.declared.lumps.Node.{Node}
use Rattle.mach_value.specs.declared.values.Value.TheVariants as v
use Rattle.mach_value.specs.declared.values.Field.{Field}
use Rattle.mach_value.specs.declared.objects.Object.{Object}
use Rattle.mach_value.specs.declared.path.Path.{Path}
use Rattle.mach_value.specs.declared.exporting.Pending.{Pending}
use Rattle.mach_value.specs.declared.exporting.Pending.TheVariants.{Enter, Leave}
use Rattle.mach_value.specs.declared.exporting.Progress.{Progress}
use Rattle.mach_value.specs.declared.exports.ExportErr.{ExportErr}
use Rattle.mach_value.specs.declared.exports.ExportErr.TheVariants as error
use Rattle.mach_value.specs.Exports.{Opened, opened, AreLumps, IsLump}
use Rattle.mach_value.specs.Paths.{is_on}

-- the fields that are still to be entered
abbrev pub left : List Pending → List Field
left [] = []
left (Enter x ∷ ps) = x ∷ left ps
left (Leave a ∷ ps) = left ps

-- the object is still to be left, so the export is inside of it
abbrev pub on_path : List Pending → ℕ → Bool
on_path [] a = false
on_path (Enter x ∷ ps) a = on_path ps a
on_path (Leave b ∷ ps) a = if b == a then true else on_path ps a

-- each object is left once
abbrev pub Once : List Pending → Type 0
Once [] = Unit {0}
Once (Enter x ∷ ps) = Once ps
Once (Leave a ∷ ps) = (on_path ps a ≡ false) × Once ps

-- the lumps of these fields are the end of this list, and not all of it
pub record EndsWith (objects : List Object) (all : List Node) (fields : List Field) : Type 0 where
  pub front : List Node
  pub rest : List Node
  pub splits : all ≡ front ++ rest
  pub some : 0 < length front
  pub lumps : AreLumps objects rest fields

-- what stands before the end of an object belongs to it; `above` stands before all that is pending
abbrev pub AllInside : List Object → List Pending → List Field → Type 0
AllInside objects [] above = Unit {0}
AllInside objects (Enter x ∷ ps) above = AllInside objects ps (above ++ x ∷ [])
AllInside objects (Leave a ∷ ps) above =
    ((all : List Node) → IsLump objects (v.Ref a) all → EndsWith objects all above) × AllInside objects ps above

-- some nodes of the lump of `x` are written, and the lumps of the fields that are left are the others
pub record Stands (objects : List Object) (x : Field) (written : List Node) (pending : List Pending) (path : Path)
    : Type 0 where
  pub whole : (rest : List Node) → AreLumps objects rest (left pending) → AreLumps objects (written ++ rest) (x ∷ [])
  pub part : (all : List Node) → AreLumps objects all (x ∷ [])
      → (rest : List Node) × (all ≡ written ++ rest) × AreLumps objects rest (left pending)
  pub on : (a : ℕ) → is_on path a ≡ on_path pending a
  pub once : Once pending
  pub inside : AllInside objects pending []

-- how many of the first `n` addresses the export isn't inside of
abbrev pub free : ℕ → List Pending → ℕ
free zero ps = 0
free (suc n) ps = (if on_path ps n then 0 else 1) + free n ps

abbrev pub sum_of : (Field → ℕ) → List Field → ℕ
sum_of size [] = 0
sum_of size (x ∷ xs) = size x + sum_of size xs

abbrev pub inside_of : Option Opened → List Field
inside_of None = []
inside_of (Some o) = o.fields

-- how many turns a field may take at most, inside of all but `room` objects
unfoldable pub size : List Object → ℕ → Field → ℕ
size objects zero x = 1
size objects (suc room) x = 2 + sum_of (size objects room) (inside_of (opened objects x))

-- how many turns all that is pending may take
unfoldable pub weight : List Object → List Pending → ℕ
weight objects [] = 0
weight objects (Enter x ∷ ps) = size objects (free (2 + length objects) ps) x + weight objects ps
weight objects (Leave a ∷ ps) = 1 + weight objects ps

-- one turn
unfoldable pub Advances : List Object → Result (Unit {0}) ExportErr → Pending → Progress → Progress → Type 0
Advances objects (Ok done) next old new =
    (x : Field) → Stands objects x old.nodes.items (next ∷ old.pending) old.path
    → Stands objects x new.nodes.items new.pending new.path
    × (weight objects new.pending < weight objects (next ∷ old.pending))
Advances objects (Err error.NotShareable) next old new =
    (x : Field) → Stands objects x old.nodes.items (next ∷ old.pending) old.path
    → (all : List Node) → AreLumps objects all (x ∷ []) → ⊥
Advances objects (Err error.NoMemory) next old new = Unit {0}
