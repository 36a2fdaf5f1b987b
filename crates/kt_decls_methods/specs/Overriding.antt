-- Overriding, by what is seen of the functions from above.
use Rattle.std.specs.Prelude.{ℕ, Bool, true, false, List, [], ◌∷◌, ◌&&◌, ◌==◌, ◌≡◌, Option, Some, None}
use Rattle.kt_tree.specs.declared.declarations.FunctionModifiers.{FunctionModifiers}
use Rattle.kt_tree.specs.Declarations.{DeclarationTree, FunctionTree}
use Rattle.kt_types_tree.specs.Hierarchy.{HierarchyForm}
use Rattle.kt_typed.specs.declared.headers.DeclaredTypeParameter.{DeclaredTypeParameter}
use Rattle.kt_decls_rules.specs.Tables.{hierarchy_of}
use Rattle.kt_decls_rules.specs.Members.{Member, Signature, first_descriptor, signature_of}
use Rattle.kt_decls_rules.specs.ClassRules.{HaveDescriptor, HaveSameParameters, HasResultBelow, OverridesAll, above, is_any_there}
use Rattle.kt_decls_inherited.specs.Sights.{SightForm}

-- a function overrides one that is seen from above
pub record OverridesSight (h : HierarchyForm) (is_suspend : Bool) (g : Option Signature) (m : SightForm) : Type 0 where
  pub may : m.is_open ≡ true
  pub same_parameters : HaveSameParameters g m.signature
  pub result_below : HasResultBelow h g m.signature
  pub same_suspend : is_suspend ≡ m.is_suspend

abbrev pub OverridesSights : HierarchyForm → Bool → Option Signature → List SightForm → Type 0
OverridesSights h s g [] = Unit {0}
OverridesSights h s g (m ∷ ms) = OverridesSight h s g m × OverridesSights h s g ms

abbrev pub is_any_sight : List SightForm → Bool
is_any_sight [] = false
is_any_sight (m ∷ ms) = true

-- `override` stands where there is something to override, and all of it is overridden
abbrev pub DoesOverride : HierarchyForm → FunctionModifiers → Option Signature → List SightForm → Type 0
DoesOverride h m g ms = (m.is_override ≡ is_any_sight ms) × OverridesSights h m.is_suspend g ms

-- The rules of overriding for a function of a class, with those that stand above it.
abbrev pub OverridesWell : List DeclarationTree → ℕ → List DeclaredTypeParameter → FunctionTree → Type 0
OverridesWell ds row scope f =
    (f.modifiers.is_override ≡ is_any_there (above ds row f))
    × (OverridesAll (hierarchy_of ds) f.modifiers.is_suspend (signature_of ds scope f) (above ds row f)
    × HaveDescriptor (first_descriptor (above ds row f) None) (above ds row f))
