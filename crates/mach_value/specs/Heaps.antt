-- The heap, and its addresses.
use Rattle.std.specs.Prelude.{ℕ, ◌+◌, ◌-◌, nat_lt, if◌then◌else◌, List, [], length, slice_get, Option, None}
use Rattle.mach_value.specs.declared.objects.Object.{Object}
use Rattle.mach_value.specs.declared.heaps.Heap.{Heap}

-- the object at an address; the first two addresses are those of `Unit` and of what stands for a suspended call
abbrev pub object_at : List Object → ℕ → Option Object
object_at objects a = if nat_lt a 2 then None else slice_get objects (a - 2)

-- the address of the object that is made next
abbrev pub address_behind : List Object → ℕ
address_behind objects = 2 + length objects

abbrev pub empty_heap : Heap
empty_heap = record { objects = []; note = None; awaitable = [] }
