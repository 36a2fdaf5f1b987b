use Rattle.std.proofs.Common.{◌≡◌, [], drop}
use Rattle.mach_settling.specs.Settled.{settled_fields}
use Rattle.mach_settling.proofs.fields.settle_fields.Given as goal

abbrev pub invariant-loop-at : goal.invariant-loop-at
invariant-loop-at l =
    settled_fields l.kinds l.at (drop l.at l.fields) (record { objects = l.objects; fields = l.settled })
    ≡ settled_fields l.kinds 0 l.fields (record { objects = l.fn.objects; fields = [] })
