-- Counts as far as a number of 64 bits counts.
use Rattle.std.specs.Prelude.{◌≡◌, ℕ, min}
use Rattle.kt_sizes.specs.declared.sizes.Sizes.{Sizes}
use Rattle.kt_sizes.specs.Counting.{◌&◌}

abbrev pub cap : ℕ → ℕ
cap n = min n 18446744073709551615

unfoldable pub capped : Sizes → Sizes
capped s =
    record {
      nodes = cap s.nodes;
      heavy = cap s.heavy;
      captured = cap s.captured;
      points = cap s.points;
      kept = cap s.kept;
      depth = cap s.depth;
    }

-- what is counted so far, beside a rest, makes up the whole
pub record Partly (done rest whole : Sizes) : Type 0 where
  pub so_far : Sizes
  pub is : done ≡ capped so_far
  pub makes : so_far & rest ≡ whole
