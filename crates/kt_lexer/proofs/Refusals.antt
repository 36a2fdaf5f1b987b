-- Refusals of a source.
use Rattle.std.proofs.Common.{◌≡◌, ℕ, ◌<◌, ◌≤◌, List, Result, Err, length, sym, ap, subst, ◌∙◌, arith}
use Rattle.std.specs.Str.{IsUtf8, chars}
use Rattle.kt_base.specs.declared.refusals.Pos.{Pos}
use Rattle.kt_base.specs.declared.refusals.Refusal.{Refusal}
use Rattle.kt_base.specs.declared.refusals.Kind.TheVariants as stage
use Rattle.kt_base.specs.declared.refusals.FrontErr.{FrontErr}
use Rattle.kt_base.specs.declared.refusals.FrontErr.TheVariants as front_err
use Rattle.kt_tree.specs.declared.tokens.Token.{Token}
use Rattle.kt_lexer.specs.Texts.{AreTokensOf, IsLexRefusedAt, place_behind, text_start}
use Rattle.kt_lexer.specs.Sources.{
  valid_front,
  lex_refusal,
  IsBrokenOff,
  within,
  at_its_end,
  IsSourceRefused,
  too_long,
  no_token,
  no_text,
}

refusal_is : (r : Refusal) → r.kind ≡ stage.Lex → lex_refusal r.pos ≡ r
refusal_is r is = λ i. record { kind = sym is i; pos = r.pos }

-- a refusal by the lexer within the text
pub broken_within : (text : List ℕ) (r : Refusal) → (r.kind ≡ stage.Lex) × IsLexRefusedAt text r.pos → IsBrokenOff text r
broken_within text r refused = subst (IsBrokenOff text) (refusal_is r refused.0) (within refused.1)

pub broken_at_end : (text : List ℕ) (ts : List Token) (place : Pos) (r : Refusal) → AreTokensOf text ts → place ≡ place_behind text_start text → front_err.Refused (lex_refusal place) ≡ front_err.Refused r → IsBrokenOff text r
broken_at_end text ts place r are place_is is =
    let same : lex_refusal place ≡ r = cc in
    subst (IsBrokenOff text) (ap lex_refusal (sym place_is) ∙ same) (at_its_end are)

pub source_too_long : {A : Type 0} (bytes : List ℕ) (r : Refusal) → 1048576 < length bytes → ◌≡◌ {A = Result A FrontErr} (Err (front_err.Refused (record { kind = stage.Size; pos = text_start }))) (Err (front_err.Refused r)) → IsSourceRefused bytes r
source_too_long bytes r long is =
    let same : record { kind = stage.Size; pos = text_start } ≡ r = cc in
    subst (IsSourceRefused bytes) same (too_long long)

pub source_no_token : (bytes text : List ℕ) (r : Refusal) → length bytes ≤ 1048576 → (text ≡ bytes) × IsUtf8 bytes → (r.kind ≡ stage.Lex) × IsLexRefusedAt (chars text) r.pos → IsSourceRefused bytes r
source_no_token bytes text r short is refused =
    subst (IsSourceRefused bytes) (refusal_is r refused.0) (no_token short is.1 (subst (λ t. IsLexRefusedAt (chars t) r.pos) is.0 refused.1))

pub broken_is : {A : Type 0} (e : FrontErr) (r : Refusal) → ◌≡◌ {A = Result A FrontErr} (Err e) (Err (front_err.Refused r)) → e ≡ front_err.Refused r
broken_is e r is = cc

-- where the source is no text, it is refused as its front is
pub source_broken : (bytes : List ℕ) (r : Refusal) → length bytes ≤ 1048576 → (IsUtf8 bytes → ⊥) → IsSourceRefused bytes r → IsBrokenOff (chars (valid_front bytes)) r
source_broken bytes r short not_utf8 (too_long long) = absurd (omega (arith, short, long))
source_broken bytes r short not_utf8 (no_token short' utf8 refused) = absurd (not_utf8 utf8)
source_broken bytes r short not_utf8 (no_text short' not_utf8' broken) = broken
