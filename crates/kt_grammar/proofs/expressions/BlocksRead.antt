-- Blocks are read exactly, over any statements.
use Rattle.std.proofs.Common.{◌≡◌, Bool, true, false, List, ◌∷◌, refl}
use Rattle.kt_tree.specs.declared.tokens.Token.{Token}
use Rattle.kt_tree.specs.declared.tokens.TokenKind.{TokenKind}
use Rattle.kt_tree.specs.declared.tokens.TokenKind.TheVariants as kind
use Rattle.kt_tree.specs.declared.tokens.Sign.TheVariants as sign
use Rattle.kt_tree.specs.Tokens.{same_sign, is_sign}
use Rattle.kt_tree.specs.Bodies as e
use Rattle.kt_tree.specs.Bodies.{StatementTree, statements_of}
use Rattle.kt_grammar_parsers.specs.Parsers.{Parser}
use Rattle.kt_grammar.specs.Terminals.{is_separator}
use Rattle.kt_grammar.specs.Words.{Items}
use Rattle.kt_grammar.specs.Readers.{separated}
use Rattle.kt_grammar.specs.Expressions.{IsBlockRest, IsBlock}
use Rattle.kt_grammar.specs.ExpressionParser.{block_rest, block_of}
use Rattle.kt_grammar.proofs.types.TypesRead.{a_sign}
use Rattle.kt_grammar.proofs.parts.Sequences.{Part, Anything, then, made}
use Rattle.kt_grammar.proofs.tokens.Meanings.{closes_halts}
use Rattle.kt_grammar.proofs.tokens.Distinct.{no_sign}
use Rattle.kt_grammar.proofs.tokens.Begins.{kind_begins_statement}
use Rattle.kt_grammar.proofs.parts.Below.{IsExpressionRead}
use Rattle.kt_grammar.proofs.parts.Left.{items_part}
use Rattle.kt_grammar.proofs.tokens.Witnesses.{sign_is, sign_then, at_sign, closes_at, brace_ends}

pub semicolon_separates : is_separator (a_sign sign.Semicolon) ≡ true
unfolding same_sign
semicolon_separates = refl

pub brace_no_separator : (t : Token) → is_sign sign.CloseBrace t ≡ true → is_separator t ≡ false
unfolding same_sign
brace_no_separator t h = at_sign sign.CloseBrace (λ (k : TokenKind). is_separator (record { kind = k; pos = t.pos })) false refl t h

module _ {A : Type 0} {left : Bool} {item : Parser Token A} {Item : A → List Token → List Token → Type 0} {test : TokenKind → Bool} (R : IsExpressionRead left item Item test) (no_close : test (kind.Sign sign.CloseBrace) ≡ false) where
  pub in_braces_part : {F : List Token → Type 0} → ((tail : List Token) → F (a_sign sign.CloseBrace ∷ tail)) → Part (separated (is_sign sign.CloseBrace) item) (Items (is_sign sign.CloseBrace) Item) F (λ _. Anything)
  in_braces_part asked = items_part is_separator (is_sign sign.CloseBrace) (a_sign sign.Semicolon) (a_sign sign.CloseBrace) semicolon_separates (sign_is sign.CloseBrace) brace_no_separator (no_sign test sign.CloseBrace no_close) (closes_at sign.CloseBrace brace_ends) closes_halts left R asked

module _ {left : Bool} {statement : Parser Token StatementTree} {Statement : StatementTree → List Token → List Token → Type 0} (R : IsExpressionRead left statement Statement kind_begins_statement) where
  pub before_block_rest_part : {F : List Token → Type 0} → ((tail : List Token) → F (a_sign sign.CloseBrace ∷ tail)) → Part (block_rest statement) (IsBlockRest Statement) F (λ _. Anything)
  before_block_rest_part asked = then (in_braces_part R refl asked) (λ b. made (e.block (statements_of b.0) b.1.pos) (λ tail h. tt))

  pub block_rest_part : Part (block_rest statement) (IsBlockRest Statement) Anything (λ _. Anything)
  block_rest_part = then (in_braces_part R refl (λ tail. tt)) (λ b. made (e.block (statements_of b.0) b.1.pos) (λ tail h. tt))

  pub block_part : Part (block_of statement) (IsBlock Statement) Anything (λ _. Anything)
  block_part = sign_then sign.OpenBrace (λ tail. tt) (λ _. block_rest_part)
