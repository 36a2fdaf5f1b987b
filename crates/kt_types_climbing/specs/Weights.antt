-- How much stands above a row of a graph that has no cycle: each way up counts.
use Rattle.std.specs.Prelude.{ℕ, zero, suc, List, [], ◌∷◌, length, ◌+◌, slice_get}
use Rattle.kt_types_order.specs.Graph.{Graph, row_or_none}

abbrev pub sum_of : (ℕ → ℕ) → List ℕ → ℕ
sum_of f [] = 0
sum_of f (c ∷ cs) = f c + sum_of f cs

-- two for each row on each way of fewer than so many steps
unfoldable pub paths : Graph → ℕ → ℕ → ℕ
paths g zero c = 0
paths g (suc k) c = 2 + sum_of (paths g k) (row_or_none (slice_get g c))

abbrev pub weight : Graph → ℕ → ℕ
weight g c = paths g (suc (length g)) c
