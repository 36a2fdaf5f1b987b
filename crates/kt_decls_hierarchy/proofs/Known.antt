-- What is written means the same by the map of names as by the file.
use Rattle.std.specs.Prelude.{ℕ, List, ◌≡◌}
use Rattle.std.proofs.Common.{sym, ◌∙◌}
use Rattle.kt_tree.specs.Types.{TypeTree}
use Rattle.kt_tree.specs.Declarations.{DeclarationTree}
use Rattle.kt_typed.specs.declared.headers.DeclaredTypeParameter.{DeclaredTypeParameter}
use Rattle.kt_decls_types.specs.References.{resolved}
use Rattle.kt_decls_rules.specs.Tables.{class_named, meant, super_meant}
use Rattle.kt_decls_hierarchy.specs.Drafts.{Classes, super_of_type, super_in}
use Rattle.kt_decls_hierarchy.proofs.Completed.{same_super}

module _ (classes : Classes) (ds : List DeclarationTree) (known : (x : List ℕ) → classes x ≡ class_named ds x) (scope : List DeclaredTypeParameter) (t : TypeTree) where
  pub meant_known : resolved classes scope t ≡ meant ds scope t
  meant_known = λ i. resolved (λ x. known x i) scope t

  pub super_known : super_in classes scope t ≡ super_meant (meant ds scope t)
  super_known = (λ i. super_of_type (resolved (λ x. known x i) scope t)) ∙ sym (same_super (meant ds scope t))
