use Rattle.std.proofs.Common.{◌+◌, ◌-◌, ◌++◌, take, ap, ◌∙◌, arith}
use Rattle.mach_value.proofs.Turns.{take_turn}
use Rattle.mach_value.proofs.importing.take_fields.Goals as goal

pub loop-turn-preserved : goal.loop-turn-preserved
loop-turn-preserved c =
    let m = c.args.count - (c.loop-turn._turn + 1) in
    let t = take_turn c.loop-turn.taken (c.args.count - c.loop-turn._turn) m c.in-Some.field c.loop-turn.fields c.pop.new.self (omega arith) c.in-Some.ensures in
    (ap (λ l. l ++ take m c.pop.new.self) c.in_ok-push-in-Some.ensures.ok ∙ t.0 ∙ c.loop-turn.invariant.0, t.1 ∙ c.loop-turn.invariant.1)
