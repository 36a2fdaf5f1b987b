use Rattle.std.proofs.Common.{◌≡◌, ℕ, zero, suc, ◌-◌, ◌+◌, ap, sym, ◌∙◌, arith}
use Rattle.std.proofs.lemmas.Result.{err_from_is_err_and}
use Rattle.std.specs.Global.{Vec}
use Rattle.jvm_class_types.specs.declared.frames.FrameType.{FrameType}
use Rattle.jvm_class_formats.specs.Formats.{Spot, times_at}
use Rattle.jvm_class_formats.specs.Reads.{in_front}
use Rattle.jvm_class_formats.proofs.Fronts.{goes_on, stops_so, ends}
use Rattle.jvm_maps.specs.Types.{frame_type}
use Rattle.jvm_frames.proofs.types.frame_types.Goals as goal

pub loop-turn-preserved : goal.loop-turn-preserved
loop-turn-preserved c =
    let f = frame_type c.args.pool.now in
    let left : c.args.count - c.loop-turn._turn ≡ suc (c.args.count - (c.loop-turn._turn + 1)) =
    omega (arith, c.loop-turn-test.true) in
    let so_far = ap (λ (n : ℕ). in_front c.loop-turn.types.items (times_at f n c.loop-turn.rest)) (sym left)
    ∙ c.loop-turn.invariant in
    rw c.in_ok-push.ensures.items (goes_on c.loop-turn.types.items (f.read c.loop-turn.rest)
    (times_at f (c.args.count - (c.loop-turn._turn + 1))) c.in_ok-frame_type.frame_type c.in_ok-frame_type.behind _
    c.in_ok-frame_type.ensures so_far)

pub returns-in_err-frame_type : goal.returns-in_err-frame_type
returns-in_err-frame_type c =
    let f = frame_type c.args.pool.now in
    let p = err_from_is_err_and c.from_residual.result c.from_residual.ensures.1 in
    let left : c.args.count - c.loop-turn._turn ≡ suc (c.args.count - (c.loop-turn._turn + 1)) =
    omega (arith, c.loop-turn-test.true) in
    let so_far = ap (λ (n : ℕ). in_front c.loop-turn.types.items (times_at f n c.loop-turn.rest)) (sym left)
    ∙ c.loop-turn.invariant in
    rw (p.1, p.2) (stops_so (λ (x : FrameType × Spot). (x.0, x.1)) (λ (x : Vec FrameType × Spot). (x.0.items, x.1))
    c.in_err-frame_type.field-0.0 c.loop-turn.types.items (f.read c.loop-turn.rest)
    (times_at f (c.args.count - (c.loop-turn._turn + 1))) _ c.in_err-frame_type.ensures so_far)

pub returns : goal.returns
returns c =
    let f = frame_type c.args.pool.now in
    let left : c.args.count - c.loop-turn._turn ≡ zero = omega (arith, c.loop-turn-test.false) in
    ends c.loop-turn.types.items c.loop-turn.rest _
    (ap (λ (n : ℕ). in_front c.loop-turn.types.items (times_at f n c.loop-turn.rest)) (sym left)
    ∙ c.loop-turn.invariant)
