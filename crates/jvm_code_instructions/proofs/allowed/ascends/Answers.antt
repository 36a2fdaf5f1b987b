use Rattle.std.proofs.Common.{pos, ◌+◌, get_or, drop, ap, subst, arith}
use Rattle.std.specs.Prelude.{map}
use Rattle.std.proofs.lemmas.List.{drop_more}
use Rattle.std.proofs.lemmas.Int.{ints}
use Rattle.jvm_code_instructions.specs.Table.{pair_of}
use Rattle.jvm_code_instructions.specs.Spelling.{Ascends}
use Rattle.jvm_code_instructions.proofs.Lengths.{Same, one_ascends}
use Rattle.jvm_code_instructions.proofs.allowed.ascends.Goals as goal

pub loop-pair-preserved : goal.loop-pair-preserved
loop-pair-preserved c =
    let e = ap (map pair_of) (drop_more c.args.pairs.now c.loop-pair.pair-index (pos 0, 0) c.loop-pair-test.true) in
    rw c.place_behind-behind.ensures
    (one_ascends c.loop-pair.first (pair_of (get_or c.args.pairs.now c.loop-pair.pair-index (pos 0, 0))) (map pair_of (drop (c.loop-pair.pair-index + 1) c.args.pairs.now)) (Ascends 0 (map pair_of c.args.pairs.now))
    (subst (λ ps. Same (Ascends 0 (map pair_of c.args.pairs.now)) (Ascends c.loop-pair.first ps)) e c.loop-pair.invariant) (omega (arith, ints)) (omega arith) (omega arith))
