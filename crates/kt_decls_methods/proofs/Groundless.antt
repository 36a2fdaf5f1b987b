-- A row without a class leads nowhere.
use Rattle.std.specs.Prelude.{ℕ, zero, suc, Bool, true, List, [], ◌∷◌, ◌<◌, ◌≤◌, ◌≡◌, ◌⊎◌, Option, Some, None, IsTrue, ◌↔◌, length, slice_get, refl}
use Rattle.std.proofs.Common.{arith, inl, inr, ap, subst, sym, ◌∙◌}
use Rattle.std.proofs.lemmas.List.{length-map}
use Rattle.kt_types_order.specs.Graph.{Graph, Leads, Reaches, at_once, further, class_graph, row_or_none, super_rows}
use Rattle.kt_types_tree.specs.Hierarchy.{HierarchyForm, header_form}
use Rattle.kt_tree.specs.Declarations.{DeclarationTree}
use Rattle.kt_decls_facts.specs.declared.facts.FileFacts.{FileFacts}
use Rattle.kt_decls_facts.specs.Facts.{Knows}
use Rattle.kt_decls_rules.specs.Rules.{IsGrounded}
use Rattle.kt_decls_rules.specs.Tables.{hierarchy_of}
use Rattle.kt_decls_bounds.proofs.Deciding.{always}

past : (g : Graph) (row : ℕ) → length g ≤ row → row_or_none (slice_get g row) ≡ []
past [] row le = refl
past (l ∷ g) zero le = absurd (omega arith)
past (l ∷ g) (suc row) le = past g row (omega arith)

none_there : (i d : ℕ) → slice_get [] i ≡ Some d → ⊥
none_there zero d e = absurd cc
none_there (suc i) d e = absurd cc

no_lead : (g : Graph) (row d : ℕ) → length g ≤ row → Leads g row d → ⊥
no_lead g row d le (i, e) = none_there i d (subst (λ (l : List ℕ). slice_get l i ≡ Some d) (past g row le) e)

no_way : (g : Graph) (row d : ℕ) → length g ≤ row → Reaches g row d → ⊥
no_way g row d le (at_once l) = no_lead g row d le l
no_way g row d le (further {d = m} l r) = no_lead g row m le l

pub grounded_past : (h : HierarchyForm) (row : ℕ) → length h.classes ≤ row → IsTrue true ↔ IsGrounded h row
grounded_past h row le = always (λ d way back. leads d way back)
  where
    long : length (class_graph h) ≤ row
    long = subst (λ (n : ℕ). n ≤ row) (sym (length-map h.classes super_rows)) le

    leads : (d : ℕ) → (row ≡ d) ⊎ Reaches (class_graph h) row d → Reaches (class_graph h) d d → ⊥
    leads d (inl e) back = no_way (class_graph h) row row long (subst (λ (c : ℕ). Reaches (class_graph h) c c) (sym e) back)
    leads d (inr r) back = no_way (class_graph h) row d long r

pub past_told : (ds : List DeclarationTree) (f : FileFacts) → Knows ds f → (row classes : ℕ) → classes ≡ length f.hierarchy.classes → classes ≤ row → IsTrue true ↔ IsGrounded (hierarchy_of ds) row
past_told ds f known row classes e le =
    grounded_past (hierarchy_of ds) row
    (subst (λ (n : ℕ). n ≤ row) (e ∙ (sym (length-map f.hierarchy.classes header_form) ∙ ap (λ (h : HierarchyForm). length h.classes) known.tree)) le)
