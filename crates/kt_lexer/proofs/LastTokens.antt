-- The end of a text comes last among its tokens, and nowhere else.
use Rattle.std.proofs.Common.{◌≡◌, ℕ, Bool, true, false, not, ◌&&◌, List, [], ◌∷◌, refl}
use Rattle.kt_base.specs.declared.refusals.Pos.{Pos}
use Rattle.kt_tree.specs.declared.tokens.Token.{Token}
use Rattle.kt_tree.specs.declared.tokens.TokenKind.{TokenKind}
use Rattle.kt_tree.specs.Tokens.{is_end, kind_is_end, ends_alone}
use Rattle.kt_lexer.specs.declared.brackets.Open.{Open}
use Rattle.kt_lexer.specs.Lexemes.{
  IsOrdinary,
  identifier,
  keyword,
  number,
  long_number,
  character,
  escaped_character,
  mark,
  open_quote,
  line_feed_alone,
  both_line_ends,
  IsInString,
  run,
  escape,
  name_part,
  this_part,
  open_template,
  dollar_alone,
  close_quote,
}
use Rattle.kt_lexer.specs.Texts.{
  AreTokens,
  at_end,
  token,
  dropped,
  skipped,
  IsLexeme,
  ordinary,
  between_tokens,
  inside,
  of_kind,
}

ordinary_is_no_end : (u rest : List ℕ) (k : TokenKind) → IsOrdinary u rest k → kind_is_end k ≡ false
ordinary_is_no_end u rest k (identifier h) = refl
ordinary_is_no_end u rest k (keyword w h) = refl
ordinary_is_no_end u rest k (number h) = refl
ordinary_is_no_end u rest k (long_number h) = refl
ordinary_is_no_end u rest k (character h) = refl
ordinary_is_no_end u rest k (escaped_character h) = refl
ordinary_is_no_end u rest k (mark s h) = refl
ordinary_is_no_end u rest k open_quote = refl
ordinary_is_no_end u rest k line_feed_alone = refl
ordinary_is_no_end u rest k both_line_ends = refl

string_is_no_end : (u rest : List ℕ) (k : TokenKind) → IsInString u rest k → kind_is_end k ≡ false
string_is_no_end u rest k (run h) = refl
string_is_no_end u rest k (escape h) = refl
string_is_no_end u rest k (name_part h) = refl
string_is_no_end u rest k (this_part h) = refl
string_is_no_end u rest k open_template = refl
string_is_no_end u rest k dollar_alone = refl
string_is_no_end u rest k close_quote = refl

no_end : (within : Bool) (u rest : List ℕ) (k : TokenKind) → IsLexeme within u rest (of_kind k) → kind_is_end k ≡ false
no_end within u rest k (ordinary h) = ordinary_is_no_end u rest k h
no_end within u rest k (inside h) = string_is_no_end u rest k h

one_before : (t : Token) (ts : List Token) → is_end t ≡ false → ends_alone ts ≡ true → ends_alone (t ∷ ts) ≡ true
one_before t [] e h = absurd cc
one_before t (u ∷ ts) e h = rw e h

pub end_is_last : (opens : List Open) (at : Pos) (text : List ℕ) (ts : List Token) → AreTokens opens at text ts → ends_alone ts ≡ true
end_is_last opens at text ts (at_end h) = refl
end_is_last opens at text ts (token {u = u} {rest = rest} {k = k} {ts = us} longest counted more) = one_before (record { kind = k; pos = at }) us (no_end _ u rest k longest.lexeme) (end_is_last _ _ rest us more)
end_is_last opens at text ts (dropped {rest = rest} longest uncounted more) = end_is_last opens _ rest ts more
end_is_last opens at text ts (skipped {rest = rest} longest more) = end_is_last opens _ rest ts more
