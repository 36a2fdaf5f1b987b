use Rattle.std.proofs.Common.{◌≡◌, length, ◌+◌, ◌-◌}
use Rattle.kt_flow.specs.Rows.{facts_form}
use Rattle.kt_flow.proofs.facts.Facts.grow.Given as goal

abbrev pub invariant-loop-self : goal.invariant-loop-self
invariant-loop-self l = facts_form l.self ≡ facts_form l.initial.self

abbrev pub decreases-loop-self : goal.decreases-loop-self
decreases-loop-self l = l.local + 1 - length l.self.rows
