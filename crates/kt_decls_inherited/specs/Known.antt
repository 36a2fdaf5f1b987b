-- The types of a function by a map of names.
use Rattle.std.specs.Prelude.{ℕ, List, [], ◌∷◌, Option, Some, None, map}
use Rattle.kt_tree.specs.Types.{TypeTree}
use Rattle.kt_tree.specs.Declarations.{FunctionTree}
use Rattle.kt_types_tree.specs.Types.{TypeForm}
use Rattle.kt_typed.specs.declared.headers.DeclaredTypeParameter.{DeclaredTypeParameter}
use Rattle.kt_decls_types.specs.References.{resolved, then_on}
use Rattle.kt_decls_hierarchy.specs.Drafts.{Classes}
use Rattle.kt_decls_rules.specs.Members.{Signature, unit_type}

abbrev pub all_meant : Classes → List DeclaredTypeParameter → List TypeTree → Option (List TypeForm)
all_meant classes scope [] = Some []
all_meant classes scope (t ∷ ts) =
    then_on (resolved classes scope t) (λ u. then_on (all_meant classes scope ts) (λ us. Some (u ∷ us)))

abbrev pub result_meant : Classes → List DeclaredTypeParameter → Option TypeTree → Option TypeForm
result_meant classes scope None = Some unit_type
result_meant classes scope (Some t) = resolved classes scope t

abbrev pub both : Option (List TypeForm) → Option TypeForm → Option Signature
both ts t = then_on ts (λ us. then_on t (λ u. Some (record { parameters = us; result = u })))

abbrev pub signature_of : Classes → List DeclaredTypeParameter → FunctionTree → Option Signature
signature_of classes scope f =
    both (all_meant classes scope (map (λ p. p.annotation) f.parameters)) (result_meant classes scope f.result)
