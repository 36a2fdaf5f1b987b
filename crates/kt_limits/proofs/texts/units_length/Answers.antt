use Rattle.std.proofs.Common.{ℕ, List, length, refl}
use Rattle.jvm_pool.specs.Modified.{modified}
use Rattle.kt_limits.proofs.Lengths.{sum_ends}
use Rattle.kt_limits.proofs.texts.units_length.Goals as goal

pub returns : goal.returns
returns c =
    sum_ends (λ (us : List ℕ). length (modified us)) refl c.args.units.now c.loop-unit.unit-index c.loop-unit-test.false
    c.loop-unit.length (length (modified c.args.units.now)) c.loop-unit.invariant.1 c.loop-unit.invariant.0
