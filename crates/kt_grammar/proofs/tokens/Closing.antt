-- What may follow a phrase that was completed: a token that neither begins nor continues an expression, a statement or a body.
use Rattle.std.proofs.Common.{◌≡◌, Bool, true, false, not, List, [], ◌∷◌, refl, sym, ap, ◌∙◌, inl, inr, ◌⊎◌, ◌||◌}
use Rattle.kt_tree.specs.declared.tokens.Token.{Token}
use Rattle.kt_tree.specs.declared.tokens.TokenKind.{TokenKind}
use Rattle.kt_tree.specs.declared.tokens.TokenKind.TheVariants as kind
use Rattle.kt_tree.specs.declared.tokens.Sign.{Sign}
use Rattle.kt_tree.specs.declared.tokens.Sign.TheVariants as sign
use Rattle.kt_tree.specs.Tokens.{same_sign, kind_is_sign, is_sign}
use Rattle.kt_tree.specs.Types.{TypeTree}
use Rattle.kt_grammar_parsers.specs.Parsers.{first}
use Rattle.kt_grammar.specs.Terminals.{either, is_end, kind_is_end}
use Rattle.kt_grammar.proofs.tokens.Apart.{same_sign_is}
use Rattle.kt_grammar_parsers.proofs.Steps.{truth}
use Rattle.kt_grammar.proofs.types.TypesRead.{TypeEnds}

-- the end, `)`, `]`, `}`, `,` or `..`
abbrev pub is_closing : Token → Bool
is_closing = either is_end (either (is_sign sign.CloseParenthesis) (either (is_sign sign.CloseBracket) (either (is_sign sign.CloseBrace) (either (is_sign sign.Comma) (is_sign sign.Range)))))

abbrev pub goes_on : Token → Bool
goes_on t = not (is_closing t)

-- what may follow an expression, a statement, a body or a part of one that was completed
abbrev pub Closed : {A : Type 0} → A → List Token → Type 0
Closed a tail = first goes_on tail ≡ false

-- ---- what holds of each closing token

pub kind_sign : (s : Sign) (k : TokenKind) → kind_is_sign s k ≡ true → k ≡ kind.Sign s
kind_sign s (kind.Sign found) h = ap kind.Sign (same_sign_is found s h)
kind_sign s _ h = absurd cc

pub kind_end : (k : TokenKind) → kind_is_end k ≡ true → k ≡ kind.End
kind_end kind.End h = refl
kind_end _ h = absurd cc

one_of : (a b : Token → Bool) (t : Token) → either a b t ≡ true → (a t ≡ true) ⊎ (b t ≡ true)
one_of a b t h = elim (truth (a t)) [ inl y ↦ inl y | inr n ↦ inr (ap (λ (z : Bool). z || b t) (sym n) ∙ h) ]

-- what depends on a token's kind alone is x at each closing token, where it is x at these six
module _ {X : Type 0} (of : TokenKind → X) (x : X) (at-end : of kind.End ≡ x) (at-parenthesis : of (kind.Sign sign.CloseParenthesis) ≡ x) (at-bracket : of (kind.Sign sign.CloseBracket) ≡ x) (at-brace : of (kind.Sign sign.CloseBrace) ≡ x)
    (at-comma : of (kind.Sign sign.Comma) ≡ x) (at-range : of (kind.Sign sign.Range) ≡ x) where
  by_sign : (s : Sign) (others : Token → Bool) → of (kind.Sign s) ≡ x → ((t : Token) → others t ≡ true → of t.kind ≡ x) → (t : Token) → either (is_sign s) others t ≡ true → of t.kind ≡ x
  by_sign s others e more t h = elim (one_of (is_sign s) others t h) [ inl y ↦ ap of (kind_sign s t.kind y) ∙ e | inr n ↦ more t n ]

  by_end : (others : Token → Bool) → ((t : Token) → others t ≡ true → of t.kind ≡ x) → (t : Token) → either is_end others t ≡ true → of t.kind ≡ x
  by_end others more t h = elim (one_of is_end others t h) [ inl y ↦ ap of (kind_end t.kind y) ∙ at-end | inr n ↦ more t n ]

  pub each_closing : (t : Token) → is_closing t ≡ true → of t.kind ≡ x
  each_closing = by_end (either (is_sign sign.CloseParenthesis) (either (is_sign sign.CloseBracket) (either (is_sign sign.CloseBrace) (either (is_sign sign.Comma) (is_sign sign.Range)))))
      (by_sign sign.CloseParenthesis (either (is_sign sign.CloseBracket) (either (is_sign sign.CloseBrace) (either (is_sign sign.Comma) (is_sign sign.Range)))) at-parenthesis
      (by_sign sign.CloseBracket (either (is_sign sign.CloseBrace) (either (is_sign sign.Comma) (is_sign sign.Range))) at-bracket
      (by_sign sign.CloseBrace (either (is_sign sign.Comma) (is_sign sign.Range)) at-brace
      (by_sign sign.Comma (is_sign sign.Range) at-comma (λ t h. ap of (kind_sign sign.Range t.kind h) ∙ at-range)))))

pub not_goes_on : (t : Token) → goes_on t ≡ false → is_closing t ≡ true
not_goes_on t h = elim (truth (is_closing t)) [ inl y ↦ y | inr n ↦ absurd (let e : true ≡ false = ap not (sym n) ∙ h in cc) ]

-- a test of a token's kind that none of the six passes
pub closed_no : (test : TokenKind → Bool) → test kind.End ≡ false → test (kind.Sign sign.CloseParenthesis) ≡ false → test (kind.Sign sign.CloseBracket) ≡ false → test (kind.Sign sign.CloseBrace) ≡ false → test (kind.Sign sign.Comma) ≡ false → test (kind.Sign sign.Range) ≡ false
    → (tail : List Token) → first goes_on tail ≡ false → first (λ (t : Token). test t.kind) tail ≡ false
closed_no test e0 e1 e2 e3 e4 e5 [] h = refl
closed_no test e0 e1 e2 e3 e4 e5 (t ∷ tail) h = each_closing test false e0 e1 e2 e3 e4 e5 t (not_goes_on t h)

-- a type ends where an expression does
pub closed_ends_type : (t : TypeTree) (tail : List Token) → Closed t tail → TypeEnds t tail
unfolding same_sign
closed_ends_type t tail h = record {
  no_question = closed_no (kind_is_sign sign.Question) refl refl refl refl refl refl tail h;
  no_less = closed_no (kind_is_sign sign.Less) refl refl refl refl refl refl tail h;
  no_arrow = closed_no (kind_is_sign sign.Arrow) refl refl refl refl refl refl tail h;
}
