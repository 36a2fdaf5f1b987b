-- A text in UTF-16 and then in UTF-8 is the text in UTF-8.
use Rattle.std.proofs.Common.{◌≡◌, ℕ, ◌+◌, ◌-◌, ◌/◌, ◌%◌, ◌<◌, ◌≤◌, ◌⊎◌, true, List, [], ◌∷◌, ◌++◌, Some, refl, ap, ◌∙◌}
use Rattle.std.proofs.Common.{⊎_elim, Bool, false, ◌&&◌, arith}
use Rattle.std.proofs.Math.Utf8.{scalar, scalars, encode, encodes, scalar_cases}
use Rattle.std.proofs.lemmas.Bool.Decides.{nat_tests}
use Rattle.std.proofs.lemmas.Bool.{cases_lt}
use Rattle.std.proofs.lemmas.Str.{utf16_chars_lone, utf16_chars_pair, encodes-chars, scalars-chars}
use borrow.Author.Tests.{lt-ltb, le-ltb}
use Rattle.std.specs.Char.Escape.{encode_utf16}
use Rattle.std.specs.Char.Utf16.{utf16_chars, lone_unit_char, surrogate_pair_char}
use Rattle.std.specs.Str.{chars}
use Rattle.std.specs.List.{flat_map}
use Rattle.kt_base.proofs.Utf16.{utf8_of_nothing}
use Rattle.kt_base.specs.Text.{utf16_of, utf8_of, utf8_char, RoundTrip}

lone : (c : ℕ) → (c < 55296) ⊎ ((57344 ≤ c) × (c < 1114112)) → lone_unit_char c ≡ Some c
lone c s = grind (arith, nat_tests)

one_unit : (c : ℕ) → c < 65536 → encode_utf16 c ≡ c ∷ []
one_unit c h = rw (lt-ltb c 65536 h) refl

two_units : (c : ℕ) → 65536 ≤ c → encode_utf16 c ≡ (55296 + (c - 65536) / 1024) ∷ (56320 + (c - 65536) % 1024) ∷ []
two_units c h = rw (le-ltb c 65536 h) refl

first_below : (c : ℕ) (rest : List ℕ) → (c < 55296) ⊎ ((57344 ≤ c) × (c < 1114112)) → c < 65536
    → utf16_chars (encode_utf16 c ++ rest) ≡ Some c ∷ utf16_chars rest
first_below c rest s h =
    ap (λ units. utf16_chars (units ++ rest)) (one_unit c h)
    ∙ utf16_chars_lone c rest (λ pair. omega arith)
    ∙ ap (λ o. o ∷ utf16_chars rest) (lone c s)

first_above : (c : ℕ) (rest : List ℕ) → 65536 ≤ c → c < 1114112
    → utf16_chars (encode_utf16 c ++ rest) ≡ Some c ∷ utf16_chars rest
first_above c rest h most =
    let high = 55296 + (c - 65536) / 1024 in
    let low = 56320 + (c - 65536) % 1024 in
    let same : surrogate_pair_char high low ≡ c = omega arith in
    ap (λ units. utf16_chars (units ++ rest)) (two_units c h)
    ∙ utf16_chars_pair high low rest (omega arith, omega arith, omega arith, omega arith)
    ∙ ap (λ d. Some d ∷ utf16_chars rest) same

first : (c : ℕ) (rest : List ℕ) → scalar c ≡ true → utf16_chars (encode_utf16 c ++ rest) ≡ Some c ∷ utf16_chars rest
first c rest s =
    let cases = scalar_cases c s in
    ⊎_elim (λ h. first_below c rest cases h) (λ h. first_above c rest h (omega arith)) (cases_lt c 65536)

both : (a b : Bool) → (a && b) ≡ true → (a ≡ true) × (b ≡ true)
both true b h = (refl, h)
both false b h = cc

utf8_of_characters : (cs : List ℕ) → scalars cs ≡ true → utf8_of (utf16_of cs) ≡ encodes cs
utf8_of_characters [] s = utf8_of_nothing
utf8_of_characters (c ∷ cs) s =
    let parts = both _ _ s in
    ap (flat_map utf8_char) (first c (utf16_of cs) parts.0) ∙ ap (λ bytes. encode c ++ bytes)
    (utf8_of_characters cs parts.1)

pub round_trip : RoundTrip
round_trip bytes utf8 = utf8_of_characters (chars bytes) (scalars-chars bytes utf8) ∙ encodes-chars bytes utf8
