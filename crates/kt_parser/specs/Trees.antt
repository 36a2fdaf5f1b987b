-- Where a list of tokens is refused.
use Rattle.std.specs.Prelude.{◌≡◌, ℕ, ◌-◌, min, List, length, Some}
use Rattle.std.specs.List.{slice_get}
use Rattle.kt_base.specs.declared.refusals.Kind.TheVariants as stage
use Rattle.kt_base.specs.declared.refusals.Pos.{Pos}
use Rattle.kt_base.specs.declared.refusals.Refusal.{Refusal}
use Rattle.kt_tree.specs.declared.tokens.Token.{Token}
use Rattle.kt_grammar.specs.Declarations.{IsFileRefusedAt}

-- the token at this index is at this place; behind the last one there is the place of the last
abbrev pub IsPlaceAt : List Token → ℕ → Pos → Type 0
IsPlaceAt ts at place = (token : Token) × (slice_get ts (min at (length ts - 1)) ≡ Some token) × (place ≡ token.pos)

-- The tokens are no file, and this is the first of them that extends no prefix of a file's tokens.
pub record IsSyntaxRefused (ts : List Token) (r : Refusal) : Type 0 where
  pub kind : r.kind ≡ stage.Syntax
  pub at : ℕ
  pub refused : IsFileRefusedAt ts at
  pub place : IsPlaceAt ts at r.pos
