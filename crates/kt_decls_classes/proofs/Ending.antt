-- Rows that don't lead back to themselves.
use Rattle.std.proofs.Common.{ℕ, ◌≡◌, Bool, true, false, List, ap, subst, ◌∙◌, refl}
use Rattle.std.specs.Prelude.{IsTrue, ◌↔◌, not}
use Rattle.kt_tree.specs.Declarations.{DeclarationTree}
use Rattle.kt_types_order.specs.Graph.{Graph, Reaches, class_graph, bound_graph}
use Rattle.kt_decls_rules.specs.Rules.{Ends}
use Rattle.kt_decls_rules.specs.Tables.{hierarchy_of}
use Rattle.kt_decls_facts.specs.declared.facts.FileFacts.{FileFacts}
use Rattle.kt_decls_facts.specs.Facts.{Knows}
use Rattle.kt_decls_bounds.proofs.Deciding.{always}

isn't_back : {R : Type 0} (b : Bool) → (IsTrue b ↔ R) → IsTrue (not b) ↔ (R → ⊥)
isn't_back true h = ((λ t. absurd (let e : false ≡ true = t in cc)), (λ f. absurd (f (h.0 refl))))
isn't_back false h = ((λ _ r. let e : false ≡ true = h.1 r in cc), (λ _. refl))

module _ (ds : List DeclarationTree) (f : FileFacts) (known : Knows ds f) where
  all_end : IsTrue f.links.ends → Ends (hierarchy_of ds)
  all_end t = subst Ends known.tree (known.leads.ending.0 t)

  pub class_ends : (row : ℕ) → IsTrue f.links.ends → IsTrue true ↔ (Reaches (class_graph (hierarchy_of ds)) row row → ⊥)
  class_ends row t = always ((all_end t).0 row)

  pub bound_ends : (row : ℕ) → IsTrue f.links.ends → IsTrue true ↔ (Reaches (bound_graph (hierarchy_of ds)) row row → ⊥)
  bound_ends row t = always ((all_end t).1 row)

  pub class_back : (row : ℕ) (back : Bool) (links : Graph) → links ≡ f.links.classes → (IsTrue back ↔ Reaches links row row) → IsTrue (not back) ↔ (Reaches (class_graph (hierarchy_of ds)) row row → ⊥)
  class_back row back links same told =
      isn't_back back (subst (λ (g : Graph). IsTrue back ↔ Reaches g row row) (same ∙ (known.leads.to_classes ∙ ap class_graph known.tree)) told)

  pub bound_back : (row : ℕ) (back : Bool) (links : Graph) → links ≡ f.links.bounds → (IsTrue back ↔ Reaches links row row) → IsTrue (not back) ↔ (Reaches (bound_graph (hierarchy_of ds)) row row → ⊥)
  bound_back row back links same told =
      isn't_back back (subst (λ (g : Graph). IsTrue back ↔ Reaches g row row) (same ∙ (known.leads.to_bounds ∙ ap bound_graph known.tree)) told)
