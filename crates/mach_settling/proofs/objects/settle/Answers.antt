use Rattle.std.proofs.Common.{◌≡◌, ◌+◌, ◌-◌, sym, ap, ◌∙◌, arith}
use Rattle.mach_value.specs.Heaps.{address_behind}
use Rattle.mach_settling.specs.Settled.{settled}
use Rattle.mach_settling.proofs.Turning.{objects_turn, objects_done}
use Rattle.mach_settling.proofs.objects.settle.Goals as goal

pub loop-turn-preserved : goal.loop-turn-preserved
loop-turn-preserved c =
    let n = c.saturating_sub-count.result in
    let t = c.loop-turn.turn in
    objects_turn c.args.shapes.now (n - t) (n - (t + 1)) (c.args.first + t) (c.args.first + (t + 1)) c.loop-turn.objects c.settle_at.new.objects
    (omega (arith, c.loop-turn-test.true)) (omega arith) c.in_ok-settle_at.ensures
    ∙ c.loop-turn.invariant

pub returns : goal.returns
returns c =
    let n = c.saturating_sub-count.result in
    let t = c.loop-turn.turn in
    let q : n ≡ address_behind c.args.objects.now - c.args.first = omega (arith, c.next.ensures, c.saturating_sub-count.ensures) in
    sym (objects_done c.args.shapes.now (n - t) (c.args.first + t) c.loop-turn.objects (omega (arith, c.loop-turn-test.false)))
    ∙ c.loop-turn.invariant ∙ ap (λ k. settled c.args.shapes.now k c.args.first c.args.objects.now) q
