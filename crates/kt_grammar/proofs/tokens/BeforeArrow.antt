-- Items with commas that `->` follows.
use Rattle.std.proofs.Common.{◌≡◌, Bool, true, false, List, [], ◌∷◌, refl}
use Rattle.kt_tree.specs.declared.tokens.Token.{Token}
use Rattle.kt_tree.specs.declared.tokens.TokenKind.{TokenKind}
use Rattle.kt_tree.specs.declared.tokens.TokenKind.TheVariants as kind
use Rattle.kt_tree.specs.declared.tokens.Sign.TheVariants as sign
use Rattle.kt_tree.specs.Tokens.{same_sign, kind_is_sign, is_sign, is_new_line}
use Rattle.kt_grammar_parsers.specs.Parsers.{Parser, first, pure}
use Rattle.kt_grammar.specs.Words.{Directly, Several}
use Rattle.kt_grammar.specs.Readers.{several_items}
use Rattle.kt_grammar.proofs.types.TypesRead.{a_sign}
use Rattle.kt_grammar.proofs.parts.Sequences.{Part, Anything, Closes}
use Rattle.kt_grammar.proofs.tokens.Begins.{first_no}
use Rattle.kt_grammar.proofs.parts.Below.{goes_past, Halts, IsExpressionRead}
use Rattle.kt_grammar.proofs.parts.Productions.{from_read}
use Rattle.kt_grammar.proofs.tokens.Witnesses.{sign_is, at_sign, begins_no_line}
use Rattle.kt_grammar.proofs.parts.SeveralUntil.{several_part}

-- `->` follows
abbrev pub ArrowNext : List Token → Type 0
ArrowNext tail = first (is_sign sign.Arrow) tail ≡ true

pub arrow_next : (tail : List Token) → ArrowNext (a_sign sign.Arrow ∷ tail)
arrow_next tail = sign_is sign.Arrow

pub arrow_halts : (tail : List Token) → ArrowNext tail → Halts tail
unfolding same_sign
arrow_halts [] h = refl
arrow_halts (t ∷ tail) h = at_sign sign.Arrow (λ (k : TokenKind). goes_past (record { kind = k; pos = t.pos })) false refl t h

arrow_no_comma : (t : Token) → is_sign sign.Arrow t ≡ true → is_sign sign.Comma t ≡ false
unfolding same_sign
arrow_no_comma t h = at_sign sign.Arrow (kind_is_sign sign.Comma) false refl t h

comma_closes : (tail : List Token) → Closes (a_sign sign.Comma ∷ tail)
unfolding same_sign
comma_closes tail = refl

-- item (',' n item)*, where a level is left for items
pub several_before_arrow : {A : Type 0} {left : Bool} {item : Parser Token A} {Item : A → List Token → List Token → Type 0} {test : TokenKind → Bool} → IsExpressionRead left item Item test → left ≡ true → test kind.NewLine ≡ false → Part (several_items (pure tt) item) (Several Directly Item) Anything (λ _. ArrowNext)
several_before_arrow {test = test} R h no_line = let s = R.phrase h in
    several_part (is_sign sign.Comma) is_new_line (a_sign sign.Comma) (sign_is sign.Comma) (from_read R h) comma_closes ArrowNext (record { whole = s.whole; tokens = s.tokens; phrase = λ tail a. s.phrase tail (arrow_halts tail a) }) (begins_no_line test no_line R.begins)
    (λ tail a. first_no (is_sign sign.Arrow) (is_sign sign.Comma) tail arrow_no_comma a)
