-- What the first units of a text spell.
use Rattle.std.proofs.Common.{◌≡◌, ℕ, ◌<◌, true, false, List, [], ◌∷◌, length, get_or, drop, refl, arith}
use Rattle.std.specs.Prelude.{Some}
use Rattle.std.specs.Char.Utf16.{utf16_chars, lone_unit_char, surrogate_pair_char}
use Rattle.kt_base.specs.Text.{starts_with_pair, utf8_of}

pub utf16_chars_first_pair : (units : List ℕ) → starts_with_pair units ≡ true
    → utf16_chars units ≡ Some (surrogate_pair_char (get_or units 0 0) (get_or units 1 0)) ∷ utf16_chars (drop 2 units)
unfolding utf16_chars
utf16_chars_first_pair [] h = cc
utf16_chars_first_pair (u ∷ []) h = cc
utf16_chars_first_pair (u ∷ v ∷ us) h = rw h refl

pub utf16_chars_first_lone : (units : List ℕ) → 0 < length units → starts_with_pair units ≡ false
    → utf16_chars units ≡ lone_unit_char (get_or units 0 0) ∷ utf16_chars (drop 1 units)
unfolding utf16_chars
utf16_chars_first_lone [] h p = absurd (omega arith)
utf16_chars_first_lone (u ∷ []) h p = refl
utf16_chars_first_lone (u ∷ v ∷ us) h p = rw p refl

pub utf8_of_nothing : utf8_of [] ≡ []
unfolding utf16_chars
utf8_of_nothing = refl
