-- Subtyping (Kotlin specification, "Subtyping"): the least reflexive and transitive relation with these rules.
use Rattle.std.specs.Prelude.{ℕ, Bool, true, false, Some, ◌≡◌, ◌⊎◌, slice_get}
use Rattle.kt_types_tree.specs.declared.types.TypeConstructor.TheVariants.{Class}
use Rattle.kt_types_tree.specs.Types.{TypeForm, ShapeForm, TypeForms, typed, nothing, any, parameter, of, substituted_all}
use Rattle.kt_types_tree.specs.Hierarchy.{SuperForm, HierarchyForm, HasSuper}

-- without `?` it can't be null; of a type parameter its bound tells
abbrev pub CannotBeNull : ShapeForm → Type 0
CannotBeNull (parameter row place) = ⊥
CannotBeNull _ = Unit {0}

pub data IsBelow (h : HierarchyForm) : TypeForm → TypeForm → Type 0 where
  same : {a : TypeForm} → IsBelow h a a
  through : {a b c : TypeForm} → IsBelow h a b → IsBelow h b c → IsBelow h a c
  -- `Nothing` is below every type, `Nothing?` below every nullable one
  nothing_below : {b : TypeForm} → IsBelow h (typed false nothing) b
  null_below : {s : ShapeForm} → IsBelow h (typed true nothing) (typed true s)
  -- a type is below its nullable form, and nullable forms keep the order
  nullable : {s : ShapeForm} → IsBelow h (typed false s) (typed true s)
  both_nullable :
      {n m : Bool} {s t : ShapeForm} → IsBelow h (typed n s) (typed m t) → IsBelow h (typed true s) (typed true t)
  -- what can't be null is below `Any`, and everything below `Any?`
  below_any : {s : ShapeForm} → CannotBeNull s → IsBelow h (typed false s) (typed false any)
  below_any_nullable : {a : TypeForm} → IsBelow h a (typed true any)
  -- a class with arguments is below its declared supertypes, in which the arguments stand for the type parameters
  declared :
      {c : ℕ} {s : SuperForm} {arguments : TypeForms} →
      HasSuper h c s →
      IsBelow h
      (typed false (of (Class c) arguments))
      (typed false (of (Class s.class) (substituted_all arguments s.arguments)))
  -- a type parameter is below its bound
  bounded :
      {row place : ℕ} {b : TypeForm} → slice_get h.bounds row ≡ Some b → IsBelow h (typed false (parameter row place)) b

-- the one of two types that is above the other
abbrev pub IsJoin : HierarchyForm → TypeForm → TypeForm → TypeForm → Type 0
IsJoin h a b t = (IsBelow h a b × (t ≡ b)) ⊎ (IsBelow h b a × (t ≡ a))
