use Rattle.std.proofs.Common.{◌≡◌, ◌+◌, ◌-◌}
use Rattle.mach_settling.specs.Settled.{settled}
use Rattle.mach_settling.proofs.objects.settle.Given as goal

abbrev pub invariant-loop-turn : goal.invariant-loop-turn
invariant-loop-turn l =
    settled l.shapes (l.count - l.turn) (l.first + l.turn) l.objects ≡ settled l.shapes l.count l.first l.fn.objects
