-- The first of several headers that isn't well formed.
use Rattle.std.specs.Prelude.{ℕ, List, ◌<◌, ◌≡◌, Option, Some, None, slice_get}
use Rattle.kt_base.specs.declared.refusals.Pos.{Pos}
use Rattle.kt_tree.specs.Declarations.{DeclarationTree}
use Rattle.kt_decls_rules.specs.Headers.{Header, place, IsFine, AreAllFine}

pub record IsFirstFault (ds : List DeclarationTree) (hs : List Header) (p : Pos) : Type 0 where
  pub number : ℕ
  pub header : Header
  pub stands : slice_get hs number ≡ Some header
  pub fails : IsFine ds header → ⊥
  pub before : (n : ℕ) (h : Header) → n < number → slice_get hs n ≡ Some h → IsFine ds h
  pub at : place header ≡ p

-- none: all are well formed; else the place of the first that isn't
abbrev pub AreJudged : List DeclarationTree → List Header → Option Pos → Type 0
AreJudged ds hs None = AreAllFine ds hs
AreJudged ds hs (Some p) = IsFirstFault ds hs p
