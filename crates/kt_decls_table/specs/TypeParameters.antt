-- The type parameters of a declaration, and their bounds (Kotlin specification, "Type parameters").
use Rattle.std.specs.Prelude.{ℕ, true, List, [], ◌∷◌, ◌≡◌, Option, Some, None, map}
use Rattle.kt_tree.specs.Types.{TypeTree}
use Rattle.kt_tree.specs.Declarations.{TypeParameterTree}
use Rattle.kt_types_tree.specs.Types.{TypeForm, typed, nothing, any, parameter, of}
use Rattle.kt_types_order.specs.Graph.{Graph, HasNoCycle}
use Rattle.kt_typed.specs.declared.headers.DeclaredTypeParameter.{DeclaredTypeParameter}
use Rattle.kt_decls_types.specs.References.{resolved}
use Rattle.kt_decls_rules.specs.Names.{are_distinct}
use Rattle.kt_decls_rules.specs.Tables.{numbered}
use Rattle.kt_decls_table.specs.Classes.{Classes}
use Rattle.kt_decls_table.specs.Meanings.{all_meant}

-- a bound is `Any?` where none is written
abbrev pub bound_meant : Classes → List DeclaredTypeParameter → Option TypeTree → Option TypeForm
bound_meant classes scope None = Some (typed true any)
bound_meant classes scope (Some t) = resolved classes scope t

abbrev pub bound_of : Classes → List DeclaredTypeParameter → TypeParameterTree → Option TypeForm
bound_of classes scope p = bound_meant classes scope p.bound

abbrev pub bounds_meant : Classes → List DeclaredTypeParameter → List TypeParameterTree → Option (List TypeForm)
bounds_meant classes scope ps = all_meant (bound_of classes scope) ps

-- the place of the type parameter that is a bound, with `?` or without
abbrev pub bound_places : TypeForm → List ℕ
bound_places (typed n nothing) = []
bound_places (typed n any) = []
bound_places (typed n (parameter row place)) = place ∷ []
bound_places (typed n (of c ts)) = []

abbrev pub places_of : List TypeForm → Graph
places_of bounds = map bound_places bounds

-- Names that differ, and bounds none of which leads back to itself.
pub record IsFineList (written : List TypeParameterTree) (bounds : List TypeForm) : Type 0 where
  pub distinct : are_distinct (map (λ p. p.name) written) ≡ true
  pub end : HasNoCycle (places_of bounds)

-- The type parameters that are written, numbered from a row, and their bounds.
pub record AreTypeParameters (classes : Classes) (row : ℕ) (written : List TypeParameterTree)
    (declared : List DeclaredTypeParameter) (bounds : List TypeForm) : Type 0 where
  pub numbers : declared ≡ numbered row written
  pub meant : bounds_meant classes (numbered row written) written ≡ Some bounds
  pub fine : IsFineList written bounds
