-- What is above each kind of type.
use Rattle.std.proofs.Common.{ℕ, Bool, false, ◌≡◌, refl, subst}
use Rattle.std.specs.Prelude.{IsTrue, ◌↔◌}
use Rattle.kt_types_tree.specs.declared.types.TypeConstructor.{TypeConstructor}
use Rattle.kt_types_tree.specs.declared.types.TypeConstructor.TheVariants.{Class}
use Rattle.kt_types_tree.specs.Types.{ShapeForm, TypeForms, nothing, any, parameter, of, substituted_all}
use Rattle.kt_types_tree.specs.Hierarchy.{HierarchyForm}
use Rattle.kt_types_order.specs.Climbing.{IsNoClass, IsUnder, Allows, Climbs, here, up, u_nothing, u_same, u_declared}
use Rattle.kt_types_order.proofs.Rules.{grows, above_any}

module _ (h : HierarchyForm) where
  pub of_not_nothing : (n m : Bool) (a : TypeConstructor) (all : TypeForms) → IsUnder h n (of a all) m nothing → ⊥
  of_not_nothing n m _ all (u_declared {s = s} p q) = of_not_nothing n m (Class s.class) (substituted_all all s.arguments) q

  pub of_not_parameter : (n m : Bool) (a : TypeConstructor) (all : TypeForms) (row place : ℕ) → IsUnder h n (of a all) m (parameter row place) → ⊥
  of_not_parameter n m _ all row place (u_declared {s = s} p q) = of_not_parameter n m (Class s.class) (substituted_all all s.arguments) row place q

  of_is : (n m : Bool) (a b : TypeConstructor) (all others : TypeForms) → IsNoClass a → IsUnder h n (of a all) m (of b others) → (a ≡ b) × (all ≡ others)
  of_is n m a _ all _ p (u_same q) = (refl, refl)
  of_is n m _ b all others p (u_declared {c = c} q r) = absurd (p c refl)

  class_climbs : (n m : Bool) (c : ℕ) (b : TypeConstructor) (all others : TypeForms) → IsUnder h n (of (Class c) all) m (of b others) → (d : ℕ) × ((b ≡ Class d) × Climbs h c all d others)
  class_climbs n m c _ all _ (u_same q) = (c, (refl, here))
  class_climbs n m c b all others (u_declared {s = s} p q) = let r = class_climbs n m s.class b (substituted_all all s.arguments) others q in (r.0, (r.1.0, up p r.1.1))

  climbs_under : (n m : Bool) (c d : ℕ) (all others : TypeForms) → Allows n m → Climbs h c all d others → IsUnder h n (of (Class c) all) m (of (Class d) others)
  climbs_under n m c _ all _ a here = u_same a
  climbs_under n m c d all others a (up {s = s} p q) = u_declared p (climbs_under n m s.class d (substituted_all all s.arguments) others a q)

  -- between types with arguments null is apart
  with_flags : (n m k l : Bool) (a b : TypeConstructor) (all others : TypeForms) → Allows k l → IsUnder h n (of a all) m (of b others) → IsUnder h k (of a all) l (of b others)
  with_flags n m k l a _ all _ p (u_same q) = u_same p
  with_flags n m k l _ b all others p (u_declared {s = s} q r) = u_declared q (with_flags n m k l (Class s.class) b (substituted_all all s.arguments) others p r)

  pub same_under : (r : Bool) (a b : TypeConstructor) (all others : TypeForms) → IsNoClass a → a ≡ b → IsTrue r ↔ (all ≡ others) → IsTrue r ↔ IsUnder h false (of a all) false (of b others)
  same_under r a b all others p e f = ((λ t. rw (e, f.0 t) (u_same tt)), (λ u. f.1 (of_is false false a b all others p u).1))

  pub class_under : (r : Bool) (a b : TypeConstructor) (c d : ℕ) (all others : TypeForms) → a ≡ Class c → b ≡ Class d → IsTrue r ↔ Climbs h c all d others → IsTrue r ↔ IsUnder h false (of a all) false (of b others)
  class_under r a b c d all others e g f = rw (e, g) ((λ t. climbs_under false false c d all others tt (f.0 t)), (λ u. let w = class_climbs false false c (Class d) all others u in f.1 (let q : d ≡ w.0 = cc in rw q w.1.1)))

  pub not_under_none : (a b : TypeConstructor) (c : ℕ) (all others : TypeForms) → a ≡ Class c → IsNoClass b → IsUnder h false (of a all) false (of b others) → ⊥
  not_under_none a b c all others e p u = let v = subst (λ a. IsUnder h false (of a all) false (of b others)) e u in let w = class_climbs false false c b all others v in p w.0 w.1.0

  pub other_constructor : (a b : TypeConstructor) (all others : TypeForms) → IsNoClass a → (a ≡ b → ⊥) → IsUnder h false (of a all) false (of b others) → ⊥
  other_constructor a b all others p q u = q (of_is false false a b all others p u).0

  pub with_null : (r n m : Bool) (a b : TypeConstructor) (all others : TypeForms) → Allows n m → IsTrue r ↔ IsUnder h false (of a all) false (of b others) → IsTrue r ↔ IsUnder h n (of a all) m (of b others)
  with_null r n m a b all others p f = ((λ t. with_flags false false n m a b all others p (f.0 t)), (λ u. f.1 (with_flags n m false false a b all others tt u)))

  pub nothing_under : (r n m : Bool) (t : ShapeForm) → IsTrue r ↔ Allows n m → IsTrue r ↔ IsUnder h n nothing m t
  nothing_under r n m t f = ((λ t. u_nothing (f.0 t)), (λ u. f.1 (grows h n nothing m t u)))

  pub any_under : (r n m : Bool) → IsTrue r ↔ Allows n m → IsTrue r ↔ IsUnder h n any m any
  any_under r n m f = ((λ t. u_same (f.0 t)), (λ u. f.1 (grows h n any m any u)))

  pub any_not_under : (n m : Bool) (t : ShapeForm) → (t ≡ any → ⊥) → IsUnder h n any m t → ⊥
  any_not_under n m t other u = other (above_any h n m t u)
