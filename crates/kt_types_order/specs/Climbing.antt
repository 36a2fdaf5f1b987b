-- Subtyping as a walk from the lower type upwards, without a rule of transitivity.
use Rattle.std.specs.Prelude.{ℕ, Bool, true, false, ◌||◌, Some, ◌≡◌, slice_get}
use Rattle.kt_types_tree.specs.declared.types.TypeConstructor.{TypeConstructor}
use Rattle.kt_types_tree.specs.declared.types.TypeConstructor.TheVariants.{Class}
use Rattle.kt_types_tree.specs.Types.{TypeForm, ShapeForm, TypeForms, typed, nothing, any, parameter, of, substituted_all}
use Rattle.kt_types_tree.specs.Hierarchy.{SuperForm, HierarchyForm, HasSuper}
use Rattle.kt_types_order.specs.Below.{CannotBeNull}

-- null is allowed above where it is allowed below
abbrev pub Allows : Bool → Bool → Type 0
Allows true false = ⊥
Allows _ _ = Unit {0}

pub data IsUnder (h : HierarchyForm) : Bool → ShapeForm → Bool → ShapeForm → Type 0 where
  u_nothing : {n m : Bool} {t : ShapeForm} → Allows n m → IsUnder h n nothing m t
  u_same : {n m : Bool} {s : ShapeForm} → Allows n m → IsUnder h n s m s
  u_any : {n m : Bool} {s : ShapeForm} → Allows n m → CannotBeNull s → IsUnder h n s m any
  u_any_nullable : {n : Bool} {s : ShapeForm} → IsUnder h n s true any
  u_declared :
      {n m : Bool} {c : ℕ} {s : SuperForm} {all : TypeForms} {t : ShapeForm} →
      HasSuper h c s →
      IsUnder h n (of (Class s.class) (substituted_all all s.arguments)) m t →
      IsUnder h n (of (Class c) all) m t
  u_bounded :
      {n m k : Bool} {row place : ℕ} {s t : ShapeForm} →
      slice_get h.bounds row ≡ Some (typed k s) →
      IsUnder h (n || k) s m t →
      IsUnder h n (parameter row place) m t

abbrev pub Under : HierarchyForm → TypeForm → TypeForm → Type 0
Under h (typed n s) (typed m t) = IsUnder h n s m t

-- a class with arguments is, or has above it, the other with its arguments
pub data Climbs (h : HierarchyForm) : ℕ → TypeForms → ℕ → TypeForms → Type 0 where
  here : {c : ℕ} {all : TypeForms} → Climbs h c all c all
  up :
      {c d : ℕ} {s : SuperForm} {all wanted : TypeForms} →
      HasSuper h c s →
      Climbs h s.class (substituted_all all s.arguments) d wanted →
      Climbs h c all d wanted

abbrev pub IsNoClass : TypeConstructor → Type 0
IsNoClass head = (c : ℕ) → head ≡ Class c → ⊥
