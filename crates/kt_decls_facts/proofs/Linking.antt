-- To which rows classes and bounds lead, and what follows.
use Rattle.std.proofs.Common.{ℕ, ◌≡◌, ◌<◌, Bool, List, length, sym, subst}
use Rattle.std.specs.Prelude.{IsTrue, ◌↔◌}
use Rattle.std.proofs.lemmas.List.{length-map}
use Rattle.kt_types.specs.Kinds.{flag}
use Rattle.kt_types_order.specs.Graph.{Graph, HasNoCycle, class_graph, bound_graph, super_rows}
use Rattle.kt_types_tree.specs.Hierarchy.{HierarchyForm}
use Rattle.kt_decls_grounded.specs.Grounded.{IsGroundedIn}
use Rattle.kt_decls_rules.specs.Rules.{Ends, IsGrounded}

pub ends_told : (ends : Bool) (h : HierarchyForm) (classes bounds : Graph) → classes ≡ class_graph h → bounds ≡ bound_graph h → (IsTrue ends ↔ (HasNoCycle classes × HasNoCycle bounds)) → IsTrue ends ↔ Ends h
ends_told ends h classes bounds e f told =
    subst (λ (g : Graph). IsTrue ends ↔ (HasNoCycle (class_graph h) × HasNoCycle g)) f
    (subst (λ (g : Graph). IsTrue ends ↔ (HasNoCycle g × HasNoCycle bounds)) e told)

pub ground_told : (h : HierarchyForm) (classes : Graph) (grounded : List Bool) → classes ≡ class_graph h → ((row : ℕ) → row < length classes → IsTrue (flag grounded row) ↔ IsGroundedIn classes row) → (row : ℕ) → row < length h.classes → IsTrue (flag grounded row) ↔ IsGrounded h row
ground_told h classes grounded e told row lt =
    let all = subst (λ (g : Graph). (row : ℕ) → row < length g → IsTrue (flag grounded row) ↔ IsGroundedIn g row) e told in
    all row (subst (λ (m : ℕ). row < m) (sym (length-map h.classes super_rows)) lt)
