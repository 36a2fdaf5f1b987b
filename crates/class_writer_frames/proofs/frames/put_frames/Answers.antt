use Rattle.std.proofs.Common.{◌≡◌, ◌+◌, ◌∷◌, ◌++◌, List, map, drop, sym, ap, subst, ◌∙◌, arith}
use Rattle.jvm_pieces.specs.Pieces.{pieces}
use Rattle.jvm_class_types.specs.Seen.{Frame, frame_seen}
use Rattle.jvm_maps.specs.Frames.{before, frames_spell, AreFrames}
use Rattle.class_writer_frames.proofs.Spelled.{frames_left, frames_more}
use Rattle.class_writer_frames.proofs.frames.put_frames.Goals as goal

pub loop-frame-preserved : goal.loop-frame-preserved
loop-frame-preserved c =
    let es = c.args.pool.now in
    let b = before c.loop-frame.previous c.loop-frame.locals.now in
    let f = frame_seen c.frame-item.result in
    let rest = map frame_seen (drop (c.loop-frame.frame-index + 1) c.args.frames.now) in
    let step : map frame_seen (drop c.loop-frame.frame-index c.args.frames.now) ≡ f ∷ rest =
    frames_left c.args.frames.now c.loop-frame.frame-index c.frame-item.result (omega arith) c.frame-item.is in
    let left : AreFrames es b (f ∷ rest) = subst (AreFrames es b) step c.loop-frame.invariant.left in
    let so_far = ap (λ (l : List Frame). c.loop-frame.into.items ++ pieces es (frames_spell es b l)) (sym step)
    ∙ c.loop-frame.invariant.so_far in
    rw c.deref-locals.ensures.value record {
      so_far = frames_more es b f rest c.loop-frame.into.items c.put_frame.new.into.items _ c.in_ok-put_frame.ensures
          so_far;
      left = left.1;
    }
