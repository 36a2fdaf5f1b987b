-- The level that the parts of a string make.
use Rattle.std.proofs.Common.{◌≡◌, ◌<◌, ◌≤◌, List, [], ◌∷◌, length, map, refl, arith}
use Rattle.kt_tree.specs.declared.bodies.StringPart.{StringPart}
use Rattle.kt_tree.specs.Bodies.{part_tree, parts_of}
use Rattle.kt_tree.specs.declared.bodies.TextPart.{TextPart}
use Rattle.kt_tree.specs.Levels.{part_level, several}

pub no_part_level : (ps : List StringPart) → length ps < 2 → 0 ≡ part_level (parts_of (map part_tree ps))
no_part_level [] h = refl
no_part_level (p ∷ []) h = refl
no_part_level (p ∷ q ∷ ps) h = absurd (omega arith)

pub a_part_level : (ps : List StringPart) → 2 ≤ length ps → 1 ≡ part_level (parts_of (map part_tree ps))
a_part_level [] h = absurd (omega arith)
a_part_level (p ∷ []) h = absurd (omega arith)
a_part_level (p ∷ q ∷ ps) h = refl

pub not_several : (ps : List TextPart) → length ps < 2 → 0 ≡ several ps
not_several [] h = refl
not_several (p ∷ []) h = refl
not_several (p ∷ q ∷ ps) h = absurd (omega arith)

pub is_several : (ps : List TextPart) → 2 ≤ length ps → 1 ≡ several ps
is_several [] h = absurd (omega arith)
is_several (p ∷ []) h = absurd (omega arith)
is_several (p ∷ q ∷ ps) h = refl
