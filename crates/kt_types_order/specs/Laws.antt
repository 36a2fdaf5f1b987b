-- Laws of subtyping.
use Rattle.std.specs.Prelude.{Bool, true, false, ◌≡◌}
use Rattle.kt_types_tree.specs.declared.types.TypeConstructor.{TypeConstructor}
use Rattle.kt_types_tree.specs.Types.{TypeForm, ShapeForm, TypeForms, typed, any, of}
use Rattle.kt_types_tree.specs.Hierarchy.{HierarchyForm}
use Rattle.kt_types_order.specs.Below.{IsBelow}
use Rattle.kt_types_order.specs.Climbing.{IsNoClass}

abbrev pub IsPreorder : Type 0
IsPreorder =
    (h : HierarchyForm) →
    ((a : TypeForm) → IsBelow h a a) × ((a b c : TypeForm) → IsBelow h a b → IsBelow h b c → IsBelow h a c)

-- a type with `?` is below none without
abbrev pub NullStays : Type 0
NullStays = (h : HierarchyForm) (s t : ShapeForm) → IsBelow h (typed true s) (typed false t) → ⊥

-- above a type with arguments that is no class stands, but for `Any`, itself alone: its arguments are invariant
abbrev pub ArgumentsStay : Type 0
ArgumentsStay =
    (h : HierarchyForm) (n m : Bool) (c d : TypeConstructor) (ts us : TypeForms) →
    IsNoClass c →
    IsBelow h (typed n (of c ts)) (typed m (of d us)) →
    (c ≡ d) × (ts ≡ us)

-- only `Any` is above `Any`
abbrev pub AnyIsGreatest : Type 0
AnyIsGreatest = (h : HierarchyForm) (n m : Bool) (t : ShapeForm) → IsBelow h (typed n any) (typed m t) → t ≡ any
