-- A written type has a meaning by the facts where it has one by the file.
use Rattle.std.proofs.Common.{◌≡◌, Bool, false, List, Option, Some, None, sym, subst, ◌∙◌}
use Rattle.std.specs.Prelude.{IsTrue, ◌↔◌, Result, IfOk}
use Rattle.kt_base.specs.declared.errors.NoMemory.{NoMemory}
use Rattle.kt_tree.specs.Types.{TypeTree}
use Rattle.kt_tree.specs.Declarations.{DeclarationTree}
use Rattle.kt_types_tree.specs.Types.{TypeForm}
use Rattle.kt_types_tree.specs.Hierarchy.{HierarchyForm, hierarchy_form}
use Rattle.kt_typed.specs.declared.headers.DeclaredTypeParameter.{DeclaredTypeParameter}
use Rattle.kt_decls_types.specs.References.{resolved}
use Rattle.kt_decls_types.specs.Scopes.{class_named}
use Rattle.kt_decls_rules.specs.Rules.{HasMeaning, IsWithinBounds}
use Rattle.kt_decls_rules.specs.Tables.{hierarchy_of, meant}
use Rattle.kt_decls_bounds.proofs.Deciding.{never}
use Rattle.kt_decls_hierarchy.proofs.Known.{meant_known}
use Rattle.kt_decls_facts.specs.declared.facts.FileFacts.{FileFacts}
use Rattle.kt_decls_facts.specs.Facts.{Knows}

module _ (ds : List DeclarationTree) (f : FileFacts) (known : Knows ds f) (scope : List DeclaredTypeParameter) (t : TypeTree) (o : Option TypeForm) (found : o ≡ resolved (class_named f.classes) scope t) where
  by_file : o ≡ meant ds scope t
  by_file = found ∙ meant_known (class_named f.classes) ds known.names scope t

  pub none_meant : o ≡ None → IsTrue false ↔ HasMeaning (hierarchy_of ds) (meant ds scope t)
  none_meant e = subst (λ (m : Option TypeForm). IsTrue false ↔ HasMeaning (hierarchy_of ds) m) (sym e ∙ by_file) (never (λ x. x))

  pub some_meant : (u : TypeForm) (r : Result Bool NoMemory) → o ≡ Some u → IfOk r (λ yes. IsTrue yes ↔ IsWithinBounds (hierarchy_form f.hierarchy) u) → IfOk r (λ yes. IsTrue yes ↔ HasMeaning (hierarchy_of ds) (meant ds scope t))
  some_meant u r e told =
      subst (λ (m : Option TypeForm). IfOk r (λ yes. IsTrue yes ↔ HasMeaning (hierarchy_of ds) m)) (sym e ∙ by_file)
      (subst (λ (h : HierarchyForm). IfOk r (λ yes. IsTrue yes ↔ IsWithinBounds h u)) known.tree told)
