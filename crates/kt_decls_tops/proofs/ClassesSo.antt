-- A class and an interface obey their rules where the tests say so.
use Rattle.std.specs.Prelude.{ℕ, Bool, true, false, List, ◌&&◌, ◌≡◌, ◌↔◌, IsTrue, refl, not, Result, Ok, Err, IfOk}
use Rattle.std.proofs.Common.{sym, ◌∙◌, subst}
use Rattle.kt_base.specs.declared.errors.NoMemory.{NoMemory}
use Rattle.kt_tree.specs.Declarations.{DeclarationTree, class, interface, ClassTree, InterfaceTree}
use Rattle.kt_typed.specs.declared.headers.DeclaredTypeParameter.{DeclaredTypeParameter}
use Rattle.kt_decls_rules.specs.ClassRules.{IsFineClass, IsFineInterface}
use Rattle.kt_decls_tops.specs.Parts.{HasFineOwn, HasFineSupers, HasInterfacesAbove, IsFineFromAbove}

clash : (b : Bool) → b ≡ true → b ≡ false → ⊥
clash true d e = absurd cc
clash false d e = absurd cc

module _ (ds : List DeclarationTree) (row : ℕ) (scope : List DeclaredTypeParameter) where
  module _ (c : ClassTree) (supers : Bool) (above : IsTrue supers ↔ HasFineSupers ds row scope c) where
    pub no_supers : supers ≡ false → IsTrue false ↔ IsFineClass ds row scope c
    no_supers off = (
      (λ t. absurd (clash false t refl)),
      (λ f. absurd (clash supers (above.1 (record { supertypes = f.supertypes; one_superclass = f.one_superclass; no_cycle = f.no_cycle })) off)),
    )

    module _ (own : Bool) (itself : IsTrue own ↔ HasFineOwn ds row scope c) where
      pub not_own : own ≡ false → IsTrue false ↔ IsFineClass ds row scope c
      not_own off = (
        (λ t. absurd (clash false t refl)),
        (λ f. absurd (clash own (itself.1 (record { own_bodies = f.own_bodies; is_data = f.is_data; new_properties = f.new_properties })) off)),
      )

      pub class_told : supers ≡ true → own ≡ true → (d : DeclarationTree) → d ≡ class c → (needs is_data : Bool) → needs ≡ not c.modifiers.is_abstract → is_data ≡ c.modifiers.is_data → (r : Result Bool NoMemory) → IfOk r (λ b. IsTrue b ↔ IsFineFromAbove ds row needs is_data d) → IfOk r (λ b. IsTrue b ↔ IsFineClass ds row scope c)
      class_told s o d same needs is_data need marks (Err z) told = tt
      class_told s o d same needs is_data need marks (Ok b) told =
          let there : IsTrue b ↔ IsFineFromAbove ds row (not c.modifiers.is_abstract) c.modifiers.is_data (class c) =
          subst (λ (e : DeclarationTree). IsTrue b ↔ IsFineFromAbove ds row (not c.modifiers.is_abstract) c.modifiers.is_data e) same
          (subst (λ (p : Bool). IsTrue b ↔ IsFineFromAbove ds row (not c.modifiers.is_abstract) p d) marks
          (subst (λ (n : Bool). IsTrue b ↔ IsFineFromAbove ds row n is_data d) need told)) in
          let up = above.0 s in
          let inside = itself.0 o in (
            (λ t. record {
              supertypes = up.supertypes;
              one_superclass = up.one_superclass;
              no_cycle = up.no_cycle;
              own_bodies = inside.own_bodies;
              is_data = inside.is_data;
              new_properties = inside.new_properties;
              from_above = there.0 t;
            }),
            (λ f. there.1 f.from_above),
          )

  module _ (i : InterfaceTree) (supers : Bool) (above : IsTrue supers ↔ HasInterfacesAbove ds row scope i) where
    pub no_interfaces : supers ≡ false → IsTrue false ↔ IsFineInterface ds row scope i
    no_interfaces off = (
      (λ t. absurd (clash false t refl)),
      (λ f. absurd (clash supers (above.1 (record { supertypes = f.supertypes; no_cycle = f.no_cycle })) off)),
    )

    pub interface_told : supers ≡ true → (d : DeclarationTree) → d ≡ interface i → (r : Result Bool NoMemory) → IfOk r (λ b. IsTrue b ↔ IsFineFromAbove ds row false false d) → IfOk r (λ b. IsTrue b ↔ IsFineInterface ds row scope i)
    interface_told s d same (Err z) told = tt
    interface_told s d same (Ok b) told =
        let there : IsTrue b ↔ IsFineFromAbove ds row false false (interface i) =
        subst (λ (e : DeclarationTree). IsTrue b ↔ IsFineFromAbove ds row false false e) same told in
        let up = above.0 s in
        ((λ t. record { supertypes = up.supertypes; no_cycle = up.no_cycle; from_above = there.0 t }), (λ f. there.1 f.from_above))
