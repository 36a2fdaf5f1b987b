-- The header of a function beside what its code has told.
use Rattle.std.specs.Prelude.{Bool, List, ◌≡◌, not, map}
use Rattle.std.proofs.Common.{ap, ◌∙◌}
use Rattle.kt_tree.specs.Declarations.{FunctionTree}
use Rattle.kt_typed.specs.declared.headers.DeclaredTypeParameter.{DeclaredTypeParameter}
use Rattle.kt_decls_rules.specs.Names.{Taken, taken_by_function, are_distinct}
use Rattle.kt_decls_table.specs.Classes.{Classes}
use Rattle.kt_decls_table.specs.Functions.{is_fine_name, header_if, header_beside}

pub told_by_tests :
    (classes : Classes) (taken : Taken → Bool) (scope : List DeclaredTypeParameter) (f : FunctionTree) (is_free apart fine : Bool) →
    is_free ≡ not (taken (taken_by_function f)) →
    apart ≡ are_distinct (map (λ p. p.name) f.parameters) →
    fine ≡ is_fine_name f.name is_free apart f.modifiers →
    header_if classes scope f fine ≡ header_beside classes taken scope f
told_by_tests classes taken scope f is_free apart fine free distinct is =
    ap (header_if classes scope f) is ∙ (λ i. header_if classes scope f (is_fine_name f.name (free i) (distinct i) f.modifiers))
