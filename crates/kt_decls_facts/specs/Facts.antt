-- What is known of the types of a file.
use Rattle.std.specs.Prelude.{ℕ, List, ◌≡◌, ◌<◌, ◌↔◌, IsTrue, length}
use Rattle.kt_tree.specs.Declarations.{DeclarationTree}
use Rattle.kt_types.specs.Kinds.{flag}
use Rattle.kt_types_order.specs.Graph.{class_graph, bound_graph}
use Rattle.kt_types_tree.specs.Hierarchy.{HierarchyForm, hierarchy_form}
use Rattle.kt_decls_types.specs.Scopes.{class_named}
use Rattle.kt_decls_rules.specs.Rules.{Ends, IsGrounded}
use Rattle.kt_decls_rules.specs.Tables as rules
use Rattle.kt_decls_facts.specs.declared.facts.FileFacts.{FileFacts}
use Rattle.kt_decls_facts.specs.declared.facts.RowLinks.{RowLinks}

-- to which rows the classes and the bounds of a hierarchy lead, and what follows
pub record AreLinks (h : HierarchyForm) (l : RowLinks) : Type 0 where
  pub to_classes : l.classes ≡ class_graph h
  pub to_bounds : l.bounds ≡ bound_graph h
  pub ending : IsTrue l.ends ↔ Ends h
  pub ground : (row : ℕ) → row < length h.classes → IsTrue (flag l.grounded.items row) ↔ IsGrounded h row

-- the facts are those of a file
pub record Knows (ds : List DeclarationTree) (f : FileFacts) : Type 0 where
  pub names : (x : List ℕ) → class_named f.classes x ≡ rules.class_named ds x
  pub tree : hierarchy_form f.hierarchy ≡ rules.hierarchy_of ds
  pub leads : AreLinks (hierarchy_form f.hierarchy) f.links
