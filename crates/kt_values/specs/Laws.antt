-- Laws of the heap, and worked rows of numbers.
use Rattle.std.specs.Prelude.{◌≡◌, ◌-◌, ◌^◌, ℤ, pos, negsuc, List, [], ◌∷◌, ◌++◌, length, None, Some}
use Rattle.std.specs.Int.{w32, w64}
use Rattle.kt_values.specs.Values as v
use Rattle.kt_values.specs.Values.{Value, Shape, Object}
use Rattle.kt_values.specs.Numbers.{quotient, remainder, shifted_left, shifted_right, shifted_right_unsigned, to_int, to_character}
use Rattle.kt_values.specs.Runs.{Store, ◌>>=◌, ◌>>◌, give}
use Rattle.kt_values.specs.Heap.{make, object_of, read_slot, write_slot}

abbrev pub object : Shape → List Value → Object
object shape slots = record { shape = shape; slots = slots }

-- an object that is made is found by its reference, behind the others, which stay as they were
abbrev pub MadeIsFound : Type 0
MadeIsFound =
    (heap : List Object) (shape : Shape) (slots : List Value) →
    object_of (heap ++ object shape slots ∷ []) (v.reference shape (length heap)) ≡ Some (object shape slots)

-- what is written into a slot of a new object is read there
abbrev pub WrittenIsRead : Type 0
WrittenIsRead =
    (shape : Shape) (first new : Value) (s : Store) →
    (make shape (first ∷ []) >>= λ x. write_slot x 0 new >> read_slot x 0) s
    ≡ (make shape (new ∷ []) >>= λ x. give new) s

-- the least `Int`
abbrev pub least : ℤ
least = negsuc (2 ^ 31 - 1)

-- division and remainder as JLS SE 8 §15.17.2 and §15.17.3 have them
abbrev pub DivisionRows : Type 0
DivisionRows =
    (quotient w32 (negsuc 6) (pos 2) ≡ Some (negsuc 2))
    × (remainder w32 (negsuc 6) (pos 2) ≡ Some (negsuc 0))
    × (remainder w32 (pos 7) (negsuc 1) ≡ Some (pos 1))
    × (quotient w32 least (negsuc 0) ≡ Some least)
    × (remainder w32 least (negsuc 0) ≡ Some (pos 0))
    × (quotient w32 (pos 1) (pos 0) ≡ None)

-- shifts and conversions as JLS SE 8 §15.19 and §5.1.3 have them
abbrev pub ShiftRows : Type 0
ShiftRows =
    (shifted_left w32 (pos 1) (pos 33) ≡ pos 2)
    × (shifted_left w64 (pos 1) (pos 65) ≡ pos 2)
    × (shifted_left w32 (pos 1) (pos 31) ≡ least)
    × (shifted_left w32 (pos 1) (negsuc 0) ≡ least)
    × (shifted_right w32 (negsuc 6) (pos 1) ≡ negsuc 3)
    × (shifted_right_unsigned w32 (negsuc 0) (pos 28) ≡ pos 15)
    × (shifted_right_unsigned w64 (negsuc 0) (pos 60) ≡ pos 15)
    × (to_int (pos (2 ^ 32 - 1)) ≡ negsuc 0)
    × (to_character (negsuc 0) ≡ 65535)
