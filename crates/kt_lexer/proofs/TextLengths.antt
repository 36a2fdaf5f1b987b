-- A text has at most as many characters as bytes.
use Rattle.std.proofs.Common.{ℕ, ◌≤◌, List, length, ap, arith}
use Rattle.std.specs.Str.{IsUtf8, chars}
use Rattle.std.proofs.lemmas.Str.{length-le-encodes, encodes-chars}

pub chars_fit : (bytes : List ℕ) → IsUtf8 bytes → length (chars bytes) ≤ length bytes
chars_fit bytes utf8 = omega (arith, length-le-encodes (chars bytes), ap length (encodes-chars bytes utf8))
