-- The parts of the rules of classes and interfaces are told by tests.
use Rattle.std.specs.Prelude.{ℕ, Bool, true, false, List, [], ◌∷◌, ◌&&◌, ◌≡◌, ◌↔◌, IsTrue, length, refl, nat_le}
use Rattle.std.specs.List.{filter, list_all, list_any}
use Rattle.std.proofs.Common.{ap, sym, ◌∙◌, subst}
use Rattle.kt_tree.specs.Declarations.{DeclarationTree, class, ClassTree, InterfaceTree}
use Rattle.kt_typed.specs.declared.headers.DeclaredTypeParameter.{DeclaredTypeParameter}
use Rattle.kt_types_order.specs.Graph.{Reaches, class_graph}
use Rattle.kt_decls_rules.specs.Names.{is_name}
use Rattle.kt_decls_rules.specs.Tables.{hierarchy_of}
use Rattle.kt_decls_rules.specs.Members.{constructor_properties, functions_of, inherited_properties, is_some_body}
use Rattle.kt_decls_rules.specs.Rules.{IsGrounded}
use Rattle.kt_decls_rules.specs.ClassRules.{IsFineData, is_called, may_extend, may_extend_interface}
use Rattle.kt_decls_tops.specs.Parts.{HasFineOwn, HasFineSupers, HasInterfacesAbove}

first_of : (a b : Bool) → (a && b) ≡ true → a ≡ true
first_of true b e = refl
first_of false b e = absurd cc

second_of : (a b : Bool) → (a && b) ≡ true → b ≡ true
second_of true b e = e
second_of false b e = absurd cc

both_of : (a b : Bool) → a ≡ true → b ≡ true → (a && b) ≡ true
both_of true b d e = e
both_of false b d e = absurd cc

module _ (ds : List DeclarationTree) (row : ℕ) (scope : List DeclaredTypeParameter) where
  pub supers_told : (c : ClassTree) (fine one ends first all : Bool) → first ≡ (fine && one) → all ≡ (first && ends) → fine ≡ list_all (may_extend ds scope) c.supertypes → one ≡ nat_le (length (filter is_called c.supertypes)) 1 → (IsTrue ends ↔ (Reaches (class_graph (hierarchy_of ds)) row row → ⊥)) → IsTrue all ↔ HasFineSupers ds row scope c
  supers_told c fine one ends first all a b f o e = (
    λ t.
        let two : (fine && one) ≡ true = sym a ∙ first_of first ends (sym b ∙ t) in
        record { supertypes = sym f ∙ first_of fine one two; one_superclass = sym o ∙ second_of fine one two; no_cycle = e.0 (second_of first ends (sym b ∙ t)) },
    λ h. b ∙ both_of first ends (a ∙ both_of fine one (f ∙ h.supertypes) (o ∙ h.one_superclass)) (e.1 h.no_cycle),
  )

  pub interfaces_told : (i : InterfaceTree) (fine ends all : Bool) → all ≡ (fine && ends) → fine ≡ list_all (may_extend_interface ds scope) i.supertypes → (IsTrue ends ↔ (Reaches (class_graph (hierarchy_of ds)) row row → ⊥)) → IsTrue all ↔ HasInterfacesAbove ds row scope i
  interfaces_told i fine ends all b f e = (
    λ t. record { supertypes = sym f ∙ first_of fine ends (sym b ∙ t); no_cycle = e.0 (second_of fine ends (sym b ∙ t)) },
    λ h. b ∙ both_of fine ends (f ∙ h.supertypes) (e.1 h.no_cycle),
  )

  pub own_told : (c : ClassTree) (bodies goes fresh first all : Bool) → first ≡ (bodies && goes) → all ≡ (first && fresh) → (IsTrue bodies ↔ (c.modifiers.is_abstract ≡ false → list_all (λ f. is_some_body f.body) (functions_of (class c)) ≡ true)) → (IsTrue goes ↔ (c.modifiers.is_data ≡ true → IsFineData ds scope c)) → (IsTrue fresh ↔ (IsGrounded (hierarchy_of ds) row → list_any (λ x. list_any (is_name x) (inherited_properties ds row)) (constructor_properties c.parameters) ≡ false)) → IsTrue all ↔ HasFineOwn ds row scope c
  own_told c bodies goes fresh first all a k b d n = (
    λ t.
        let two : (bodies && goes) ≡ true = sym a ∙ first_of first fresh (sym k ∙ t) in
        record { own_bodies = b.0 (first_of bodies goes two); is_data = d.0 (second_of bodies goes two); new_properties = n.0 (second_of first fresh (sym k ∙ t)) },
    λ h. k ∙ both_of first fresh (a ∙ both_of bodies goes (b.1 h.own_bodies) (d.1 h.is_data)) (n.1 h.new_properties),
  )
