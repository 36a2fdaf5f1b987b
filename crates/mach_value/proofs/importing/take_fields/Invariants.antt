use Rattle.std.proofs.Common.{◌≡◌, ◌-◌, ◌++◌, take, drop}
use Rattle.mach_value.proofs.importing.take_fields.Given as goal

abbrev pub invariant-loop-turn : goal.invariant-loop-turn
invariant-loop-turn l =
    (l.taken ++ take (l.count - l._turn) l.fields ≡ take l.count l.fn.fields) × (drop (l.count - l._turn) l.fields ≡ drop l.count l.fn.fields)
