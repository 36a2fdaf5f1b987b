-- What an answer leaves in a heap.
use Rattle.std.specs.Prelude.{ℕ, [], ◌∷◌, ◌++◌}
use Rattle.mach_value.specs.declared.objects.Object.TheVariants as o
use Rattle.mach_value.specs.declared.heaps.Heap.{Heap}

-- with the cell of a number that was drawn, which may be awaited
abbrev pub with_cell : ℕ → Heap → Heap
with_cell n heap = record heap { objects = heap.objects ++ o.Cell n ∷ []; awaitable = heap.awaitable ++ n ∷ [] }
