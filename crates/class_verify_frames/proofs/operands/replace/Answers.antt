use Rattle.std.proofs.Common.{◌≡◌, ◌<◌, length, ap, ◌∙◌, arith}
use Rattle.std.specs.Prelude.{slice_set}
use Rattle.std.proofs.lemmas.List.Edits.{map_over_more}
use Rattle.class_verify_frames.specs.Pairs.{replaced}
use Rattle.class_verify_frames.proofs.operands.replace.Goals as goal

pub loop-place-preserved : goal.loop-place-preserved
loop-place-preserved c =
    let lt : c.loop-place.place < length c.args.kinds.now.items = omega (arith, c.loop-place-test.true, c.len-place-end.ensures, c.loop-place.auto.place-end) in
    ap (λ k. slice_set c.loop-place.kinds.items c.loop-place.place k) c.replaced_kind.ensures
    ∙ map_over_more (replaced c.args.old c.args.new) c.args.kinds.now.items c.loop-place.kinds.items c.loop-place.place c.index.result.now lt c.loop-place.invariant c.index.ensures
