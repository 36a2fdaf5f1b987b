-- Whether a string has several parts.
use Rattle.std.proofs.Common.{◌≡◌, ◌<◌, ◌≤◌, true, false, List, [], ◌∷◌, length, map, refl, arith}
use Rattle.kt_typed.specs.declared.bodies.TypedPart.{TypedPart}
use Rattle.kt_typed.specs.Bodies.{part_form, parts_of}
use Rattle.kt_sizes.specs.Counting.{has_several}

pub not_several : (ps : List TypedPart) → length ps < 2 → false ≡ has_several (parts_of (map part_form ps))
not_several [] h = refl
not_several (p ∷ []) h = refl
not_several (p ∷ q ∷ ps) h = absurd (omega arith)

pub is_several : (ps : List TypedPart) → 2 ≤ length ps → true ≡ has_several (parts_of (map part_form ps))
is_several [] h = absurd (omega arith)
is_several (p ∷ []) h = absurd (omega arith)
is_several (p ∷ q ∷ ps) h = refl
