-- A source has tokens, or it is refused.
use Rattle.std.proofs.Common.{◌≡◌, ℕ, ◌<◌, ◌≤◌, Bool, true, false, List, length, ◌⊎◌, inl, inr, refl, arith}
use Rattle.std.proofs.Math.Dec.{ltb}
use Rattle.std.proofs.lemmas.Bool.{ltb-true, lt-ltb}
use Rattle.std.proofs.lemmas.Str.{IsUtf8-from_is_utf8, is_utf8-from_IsUtf8}
use Rattle.std.specs.Str.{IsUtf8, is_utf8, chars}
use Rattle.kt_base.specs.declared.refusals.Pos.{Pos}
use Rattle.kt_base.specs.declared.refusals.Refusal.{Refusal}
use Rattle.kt_tree.specs.declared.tokens.Token.{Token}
use Rattle.kt_lexer.specs.Texts.{AreTokensOf, IsLexRefusedAt, place_behind, text_start}
use Rattle.kt_lexer.specs.Sources.{AreTokensOfSource, IsSourceRefused, too_long, no_token, no_text}
use Rattle.kt_lexer.specs.Sources.{IsBrokenOff, within, at_its_end, lex_refusal, valid_front, SourceTokensOrRefused}
use Rattle.kt_lexer.proofs.Whole.{tokens_or_refused}

less_or_not : (m n : ℕ) (b : Bool) → ltb m n ≡ b → (m < n) ⊎ (n ≤ m)
less_or_not m n true e = inl (ltb-true m n e)
less_or_not m n false e = inr (omega (arith, not_less))
  where
    not_less : m < n → ⊥
    not_less less = let clash = lt-ltb m n less in absurd cc

utf8_or_not : (bytes : List ℕ) (b : Bool) → is_utf8 bytes ≡ b → IsUtf8 bytes ⊎ (IsUtf8 bytes → ⊥)
utf8_or_not bytes true e = inl (IsUtf8-from_is_utf8 bytes e)
utf8_or_not bytes false e = inr (λ utf8. let clash = is_utf8-from_IsUtf8 bytes utf8 in absurd cc)

-- a text with tokens, or with a place at which it has none
abbrev Decided : List ℕ → Type 0
Decided text = ((ts : List Token) × AreTokensOf text ts) ⊎ ((at : Pos) × IsLexRefusedAt text at)

broken_off : (text : List ℕ) → Decided text → (r : Refusal) × IsBrokenOff text r
broken_off text (inl x) = (lex_refusal (place_behind text_start text), at_its_end x.1)
broken_off text (inr y) = (lex_refusal y.0, within y.1)

-- a source with tokens, or with a refusal
abbrev SourceDecided : List ℕ → Type 0
SourceDecided bytes = ((ts : List Token) × AreTokensOfSource bytes ts) ⊎ ((r : Refusal) × IsSourceRefused bytes r)

of_text : (bytes : List ℕ) → length bytes ≤ 1048576 → IsUtf8 bytes → Decided (chars bytes) → SourceDecided bytes
of_text bytes short utf8 (inl x) = inl (x.0, record { short = short; utf8 = utf8; tokens = x.1 })
of_text bytes short utf8 (inr y) = inr (lex_refusal y.0, no_token short utf8 y.1)

of_bytes : (bytes : List ℕ) → length bytes ≤ 1048576 → IsUtf8 bytes ⊎ (IsUtf8 bytes → ⊥) → SourceDecided bytes
of_bytes bytes short (inl utf8) = of_text bytes short utf8 (tokens_or_refused (chars bytes))
of_bytes bytes short (inr none) =
    let broken = broken_off (chars (valid_front bytes)) (tokens_or_refused (chars (valid_front bytes))) in
    inr (broken.0, no_text short none broken.1)

of_length : (bytes : List ℕ) → (1048576 < length bytes) ⊎ (length bytes ≤ 1048576) → SourceDecided bytes
of_length bytes (inl long) = inr (_, too_long long)
of_length bytes (inr short) = of_bytes bytes short (utf8_or_not bytes (is_utf8 bytes) refl)

pub source_tokens_or_refused : SourceTokensOrRefused
source_tokens_or_refused bytes =
    of_length bytes (less_or_not 1048576 (length bytes) (ltb 1048576 (length bytes)) refl)
