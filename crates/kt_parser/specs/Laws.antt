-- Laws of sources, of their trees and of their refusals.
use Rattle.std.specs.Prelude.{◌≡◌, ℕ, List, ◌⊎◌}
use Rattle.kt_base.specs.declared.refusals.Refusal.{Refusal}
use Rattle.kt_tree.specs.Declarations.{DeclarationTree}
use Rattle.kt_parser.specs.Refusals.{IsTreeOf, HasTree, IsRefused}

-- a source has one tree at most
abbrev pub OneSourceTree : Type 0
OneSourceTree = (source : List ℕ) (a b : List DeclarationTree) → IsTreeOf source a → IsTreeOf source b → a ≡ b

-- a source is refused in one way at most
abbrev pub OneSourceRefusal : Type 0
OneSourceRefusal = (source : List ℕ) (r s : Refusal) → IsRefused source r → IsRefused source s → r ≡ s

-- a source that has a tree isn't refused
abbrev pub TreeExcludesRefusal : Type 0
TreeExcludesRefusal = (source : List ℕ) (file : List DeclarationTree) (r : Refusal) → IsTreeOf source file
    → IsRefused source r → ⊥

-- a source has a tree or is refused: with the laws above, it has one tree or one refusal, and not both
abbrev pub TreeOrRefusal : Type 0
TreeOrRefusal = (source : List ℕ) → HasTree source ⊎ ((r : Refusal) × IsRefused source r)
