-- Texts as lists of UTF-16 code units.
use Rattle.std.specs.Prelude.{◌≡◌, ℕ, Bool, false, ◌&&◌, List, [], ◌∷◌, Option, None, Some, encode_utf8}
use Rattle.std.specs.Char.Escape.{encode_utf16}
use Rattle.std.specs.Char.Utf16.{utf16_chars, is_high_surrogate, is_low_surrogate}
use Rattle.std.specs.List.{flat_map}
use Rattle.std.specs.Str.{chars, IsUtf8}

-- the code units of characters (Unicode §3.9, D91)
abbrev pub utf16_of : List ℕ → List ℕ
utf16_of chars = flat_map encode_utf16 chars

-- a character in UTF-8 (Unicode §3.9, D92), and `?` for a surrogate that has no partner
abbrev pub utf8_char : Option ℕ → List ℕ
utf8_char (Some c) = encode_utf8 c
utf8_char None = 63 ∷ []

-- a text in UTF-8
abbrev pub utf8_of : List ℕ → List ℕ
utf8_of units = flat_map utf8_char (utf16_chars units)

-- the first two units are the surrogates of one character
abbrev pub starts_with_pair : List ℕ → Bool
starts_with_pair (high ∷ low ∷ units) = is_high_surrogate high && is_low_surrogate low
starts_with_pair _ = false

-- what the code units of a valid text are in UTF-8: the text
abbrev pub RoundTrip : Type 0
RoundTrip = (bytes : List ℕ) → IsUtf8 bytes → utf8_of (utf16_of (chars bytes)) ≡ bytes
