use Rattle.std.proofs.Common.{◌≡◌, ℕ, suc, ◌-◌, ◌+◌, None, Err, List, map, ap, subst, sym, ◌∙◌, arith, add-one}
use Rattle.std.proofs.lemmas.List.{map_push}
use Rattle.std.proofs.lemmas.Result.{err_from_is_err_and}
use Rattle.std.specs.Global.{Vec}
use Rattle.jvm_class_types.specs.declared.frames.Frame as rust_frame
use Rattle.jvm_class_types.specs.Seen.{frame_seen}
use Rattle.jvm_class_formats.specs.Formats.{Spot}
use Rattle.jvm_class_formats.specs.Reads.{Reads}
use Rattle.jvm_maps.specs.Frames.{Before, before, frame, frames_at}
use Rattle.jvm_frames.specs.Behind.{behind_all}
use Rattle.jvm_frames.proofs.FrameLoops.{one_more, next_refused}
use Rattle.jvm_frames.proofs.reading.read_frames.Goals as goal

pub loop-turn-preserved : goal.loop-turn-preserved
loop-turn-preserved c =
    let b = before None c.args.start.now in
    let last = c.before_next-previous.ensures
    ∙ ap (λ (fs : List rust_frame.Frame). behind_all b (map frame_seen fs)) c.deref.ensures.value in
    let next = ap (λ (b : Before). (frame c.args.pool.now b).read c.loop-turn.rest) (sym last)
    ∙ c.in_ok-frame.ensures in
    let more = one_more c.args.pool.now b c.loop-turn._turn c.args.place (map frame_seen c.loop-turn.frames.items)
    c.loop-turn.rest (frame_seen c.in_ok-frame.frame, c.in_ok-frame.behind) c.loop-turn.invariant next in
    rw (c.in_ok-push.ensures.items, map_push frame_seen, add-one) more

pub returns-in_err-frame : goal.returns-in_err-frame
returns-in_err-frame c =
    let b = before None c.args.start.now in
    let p = err_from_is_err_and c.from_residual.result c.from_residual.ensures.1 in
    let size : c.loop-turn._turn + suc (c.args.count - (c.loop-turn._turn + 1)) ≡ c.args.count =
    omega (arith, c.loop-turn-test.true) in
    let last = c.before_next-previous.ensures
    ∙ ap (λ (fs : List rust_frame.Frame). behind_all b (map frame_seen fs)) c.deref.ensures.value in
    let next = subst (λ (b : Before). Reads (λ (x : rust_frame.Frame × Spot). (frame_seen x.0, x.1))
    (Err c.in_err-frame.field-0.0) ((frame c.args.pool.now b).read c.loop-turn.rest)) last
    c.in_err-frame.ensures in
    let whole = next_refused c.args.pool.now (λ (x : rust_frame.Frame × Spot). (frame_seen x.0, x.1))
    (λ (x : Vec rust_frame.Frame × Spot). (map frame_seen x.0.items, x.1)) c.in_err-frame.field-0.0 b c.loop-turn._turn
    (c.args.count - (c.loop-turn._turn + 1)) c.args.place (map frame_seen c.loop-turn.frames.items)
    c.loop-turn.rest c.loop-turn.invariant next in
    rw (p.1, p.2) (subst (λ (n : ℕ). Reads (λ (x : Vec rust_frame.Frame × Spot). (map frame_seen x.0.items, x.1))
    (Err c.in_err-frame.field-0.0) (frames_at c.args.pool.now b n c.args.place)) size whole)

pub returns : goal.returns
returns c =
    let size : c.loop-turn._turn ≡ c.args.count = omega (arith, c.loop-turn-test.false) in
    ap (λ (n : ℕ). frames_at c.args.pool.now (before None c.args.start.now) n c.args.place) (sym size)
    ∙ c.loop-turn.invariant
