-- The law of deciding.
use Rattle.std.specs.Prelude.{Bool, true, ◌≡◌, ◌⊎◌}
use Rattle.kt_base.specs.declared.refusals.Pos.{Pos}
use Rattle.kt_types_order.specs.Graph.{ClassesEnd}
use Rattle.kt_types.specs.Null.{IsWithoutNull}
use Rattle.kt_types_tree.specs.Hierarchy.{HierarchyForm}
use Rattle.kt_types_tree.specs.Types.{TypeForm}
use Rattle.kt_check_rules.specs.Kinds.{present_type}
use Rattle.kt_typed.specs.Units.{UnitForm}
use Rattle.kt_check_rules.specs.Units.{File, IsUnit, has_main}
use Rattle.kt_check_rules.specs.Place.{IsRefused}
use Rattle.kt_check_deciding.specs.Files.{Verdict, fine, refused_at, undecided, checked_file}

-- a verdict is what the rules say
abbrev pub IsSaid : File → Verdict UnitForm → Type 0
IsSaid f (fine u) = IsUnit f u × (has_main f ≡ true)
IsSaid f (refused_at p) = IsRefused f p
IsSaid f undecided = Unit {0}

-- Of each file the rules say what comes of it: a typed unit, or the place of its refusal. That is so whether all forms that
-- have a rule count, or those alone that the code types.
abbrev pub Decided : Type 0
Decided = (all : Bool) (f : File) → ClassesEnd f.headers.hierarchy → IsSaid f (checked_file all f)

-- a file has a typed unit and `main`, or a place at which it is refused
abbrev pub IsTypedOrRefused : File → Type 0
IsTypedOrRefused f = ((u : UnitForm) × (IsUnit f u × (has_main f ≡ true))) ⊎ ((p : Pos) × IsRefused f p)

-- Each file is typed or refused. By the laws of the rules it isn't both, and there is one unit, or one place.
abbrev pub OneOfTwo : Type 0
OneOfTwo = (f : File) → ClassesEnd f.headers.hierarchy → IsTypedOrRefused f

-- what `!= null` gives of a type is the type without null
abbrev pub PresentIsWithoutNull : Type 0
PresentIsWithoutNull =
    (h : HierarchyForm) → ClassesEnd h → (t : TypeForm) → IsWithoutNull h t (present_type h t)
