-- Arithmetic of `Int` and `Long` (Kotlin specification, "Built-in integer types"; JLS SE 8 §15.17 to §15.22): two's
-- complement numbers of 32 and of 64 bits, whose results wrap.
use Rattle.std.specs.Prelude.{ℕ, zero, suc, ◌/◌, ◌%◌, ◌^◌, ℤ, pos, negsuc, Option, Some, None, int_rem}
use Rattle.std.specs.Int.{Width, w32, w64, cast_signed, cast_unsigned, int_wrapping_div, int_shl, int_shr}
use mir.Val.{bits}

-- the quotient, rounded towards zero; the least number divided by -1 is itself. Nothing is divided by zero
abbrev pub quotient : Width → ℤ → ℤ → Option ℤ
quotient w x (pos zero) = None
quotient w x (pos (suc n)) = Some (int_wrapping_div w x (pos (suc n)))
quotient w x (negsuc n) = Some (int_wrapping_div w x (negsuc n))

-- what is left of a division, with the sign of the dividend
abbrev pub remainder : Width → ℤ → ℤ → Option ℤ
remainder w x (pos zero) = None
remainder w x (pos (suc n)) = Some (int_rem x (pos (suc n)))
remainder w x (negsuc n) = Some (int_rem x (negsuc n))

-- how far a shift goes: the low five bits of the count on `Int`, the low six on `Long`
abbrev pub distance : Width → ℤ → ℕ
distance w count = cast_unsigned w32 count % bits w

-- to the left
abbrev pub shifted_left : Width → ℤ → ℤ → ℤ
shifted_left w x count = int_shl w x (distance w count)

-- to the right, keeping the sign
abbrev pub shifted_right : Width → ℤ → ℤ → ℤ
shifted_right w x count = int_shr x (distance w count)

-- to the right, with zeros
abbrev pub shifted_right_unsigned : Width → ℤ → ℤ → ℤ
shifted_right_unsigned w x count = cast_signed w (cast_unsigned w x / 2 ^ distance w count)

-- `toInt()` of a `Long`: its low 32 bits
abbrev pub to_int : ℤ → ℤ
to_int x = cast_signed w32 (cast_unsigned w64 x % 2 ^ 32)

-- `toChar()` of an `Int`: its low 16 bits
abbrev pub to_character : ℤ → ℕ
to_character x = cast_unsigned w32 x % 2 ^ 16

-- a number of units or elements as an `Int`: its low 32 bits
abbrev pub count_as_int : ℕ → ℤ
count_as_int n = cast_signed w32 (n % 2 ^ 32)
