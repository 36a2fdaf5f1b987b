use Rattle.std.proofs.Common.{List, length, refl, ap, arith}
use Rattle.std.specs.List.{flat_map}
use Rattle.kt_tree.specs.declared.bodies.TextPart.{TextPart}
use Rattle.jvm_pool.specs.Modified.{modified}
use Rattle.kt_sizes.specs.Capped.{cap}
use Rattle.kt_limits.specs.Noted.{units_of}
use Rattle.kt_limits.proofs.Lengths.{sum_begins, sum_on, sum_ends, part_more, cap_twice}
use Rattle.kt_limits.proofs.texts.parts_length.Goals as goal

pub loop-part-init : goal.loop-part-init
loop-part-init c = (sum_begins _, omega arith)

pub loop-part-preserved : goal.loop-part-preserved
loop-part-preserved c =
    let sum = c.saturating_add-length.ensures in (
      sum_on (λ (ps : List TextPart). length (modified (flat_map units_of ps))) (λ (p : TextPart). length (modified (units_of p))) part_more
          c.args.parts.now c.loop-part.part-index c.part-item.result c.loop-part-test.true c.part-item.is c.loop-part.length
          c.part_length.result c.saturating_add-length.result (length (modified (flat_map units_of c.args.parts.now))) c.loop-part.invariant.0
          (cap_twice _ _ c.part_length.ensures) sum,
      omega (arith, sum),
    )

pub returns : goal.returns
returns c =
    sum_ends (λ (ps : List TextPart). length (modified (flat_map units_of ps))) refl c.args.parts.now c.loop-part.part-index
    c.loop-part-test.false c.loop-part.length (length (modified (flat_map units_of c.args.parts.now))) c.loop-part.invariant.1 c.loop-part.invariant.0
