-- The levels of the parts of a string, counted in 32 bits as parts are added.
use Rattle.std.proofs.Common.{◌≡◌, ℕ, max, List, [], ◌∷◌, ◌++◌, map, refl, ap, ◌∙◌, arith}
use Rattle.kt_tree.specs.declared.bodies.StringPart.{StringPart}
use Rattle.kt_tree.specs.Bodies.{PartTree, part_tree, parts_of}
use Rattle.kt_tree.specs.Levels.{counted, part_levels, parts_levels}

-- the levels of parts with one more behind them
last_levels : (ps : List PartTree) (p : PartTree) → parts_levels (parts_of (ps ++ p ∷ [])) ≡ max (part_levels p) (parts_levels (parts_of ps))
last_levels [] p = refl
last_levels (q ∷ ps) p = further (last_levels ps p)
  where
    further : parts_levels (parts_of (ps ++ p ∷ [])) ≡ max (part_levels p) (parts_levels (parts_of ps)) → max (part_levels q) (parts_levels (parts_of (ps ++ p ∷ []))) ≡ max (part_levels p) (max (part_levels q) (parts_levels (parts_of ps)))
    further e = omega arith

mapped : (ps : List StringPart) (p : StringPart) → map part_tree (ps ++ p ∷ []) ≡ map part_tree ps ++ part_tree p ∷ []
mapped [] p = refl
mapped (q ∷ ps) p = ap (λ (z : List PartTree). part_tree q ∷ z) (mapped ps p)

-- a part more, as it is counted
pub more_levels : (ps qs : List StringPart) (p : StringPart) (n m : ℕ) → qs ≡ ps ++ p ∷ [] → n ≡ counted (part_levels (part_tree p)) → m ≡ counted (parts_levels (parts_of (map part_tree ps)))
    → max n m ≡ counted (parts_levels (parts_of (map part_tree qs)))
more_levels ps qs p n m e en em =
    let same : parts_levels (parts_of (map part_tree qs)) ≡ max (part_levels (part_tree p)) (parts_levels (parts_of (map part_tree ps)))
    = ap (λ (z : List StringPart). parts_levels (parts_of (map part_tree z))) e ∙ ap (λ (z : List PartTree). parts_levels (parts_of z)) (mapped ps p) ∙ last_levels (map part_tree ps) (part_tree p) in
    omega arith
