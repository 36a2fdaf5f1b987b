-- A value that a number stands for.
use Rattle.std.specs.Prelude.{◌≡◌, ℕ, ◌*◌, ◌^◌, ◌<◌, [], ◌∷◌, Option, None, Some, Result, Ok, Err}
use Rattle.std.specs.Int.{Width, byte_len, to_be_bytes}
use Rattle.jvm_pieces.specs.Pieces.{Bytes}
use Rattle.jvm_class_formats.specs.Formats.{Spot, here, Format, ◌>>=◌, any, number_at}

abbrev pub coded_as : {A : Type 0} → ℕ → Spot → Option A → Result (A × Spot) ℕ
coded_as at rest None = Err at
coded_as at rest (Some a) = Ok (a, rest)

-- the value whose number stands there: `code` gives the number, and `of_code` the value
abbrev pub coded : {A : Type 0} → Width → (A → ℕ) → (ℕ → Option A) → Format A
coded w code of_code = record {
  allows = λ a. (code a < 2 ^ (8 * byte_len w)) × (of_code (code a) ≡ Some a);
  spell = λ a. Bytes (to_be_bytes w (code a)) ∷ [];
  read = λ s. number_at w any s >>= λ n. coded_as (here s) n.1 (of_code n.0);
}
