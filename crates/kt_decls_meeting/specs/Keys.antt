-- Something is so of the name and the number of parameters of each function that is declared above a class.
use Rattle.std.specs.Prelude.{ℕ, zero, suc, List, [], ◌∷◌, Option, Some, None, length}
use Rattle.kt_tree.specs.Declarations.{DeclarationTree, FunctionTree}
use Rattle.kt_types_tree.specs.Hierarchy.{SuperForm, HierarchyForm, supers_of}
use Rattle.kt_decls_rules.specs.Members.{functions_of}
use Rattle.kt_decls_inherited.specs.Rows.{declaration_in}

module _ (Fine : List ℕ → ℕ → Type 0) where
  abbrev pub AreKeys : List FunctionTree → Type 0
  AreKeys [] = Unit {0}
  AreKeys (f ∷ fs) = Fine f.name (length f.parameters) × AreKeys fs

  -- of a throwable no function is declared
  abbrev pub AreKeysOf : Option DeclarationTree → Type 0
  AreKeysOf None = Unit {0}
  AreKeysOf (Some d) = AreKeys (functions_of d)

  module _ (h : HierarchyForm) (ds : List DeclarationTree) (places : List ℕ) where
    abbrev pub AreKeysBy : (ℕ → Type 0) → List SuperForm → Type 0
    AreKeysBy Above [] = Unit {0}
    AreKeysBy Above (s ∷ ss) =
        (AreKeysOf (declaration_in ds places s.class) × Above s.class) × AreKeysBy Above ss

    -- within so many steps
    unfoldable pub AreKeysUp : ℕ → ℕ → Type 0
    AreKeysUp zero row = Unit {0}
    AreKeysUp (suc steps) row = AreKeysBy (AreKeysUp steps) (supers_of h row)
