-- The counter after a mention, and the place behind it.
use Rattle.std.specs.Prelude.{◌≡◌, ℕ, ◌+◌, Bool, true, false, Option, None, Some, Result, Ok, Err}
use Rattle.jvm_pool.specs.Mentions.{place}
use Rattle.jvm_class_formats.specs.Formats.{Spot, spot}

-- what an entry with an index and a size does at a counter, whatever comes behind it
abbrev pub IsPlaced : Option ℕ → ℕ → ℕ → Option (Bool × ℕ) → Type 0
IsPlaced index size counter None = (r : Option ℕ) → place index counter r ≡ None
IsPlaced index size counter (Some (false, c)) = (c ≡ counter) × ((r : Option ℕ) → place index counter r ≡ Some counter)
IsPlaced index size counter (Some (true, c)) = (c ≡ counter + size) × ((r : Option ℕ) → place index counter r ≡ r)

-- the place behind a mention that moves the counter so
abbrev pub counted_spot : Spot → ℕ → Option ℕ → Result Spot ℕ
counted_spot rest at None = Err at
counted_spot rest at (Some c) = Ok (spot rest.total c rest.bytes)
