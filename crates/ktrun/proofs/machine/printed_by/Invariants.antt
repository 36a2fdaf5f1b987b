use Rattle.std.proofs.Common.{◌≡◌, drop, reverse}
use Rattle.kt_base.specs.StackCode.{runs, nothing}
use Rattle.ktrun.proofs.machine.printed_by.Given as goal

abbrev pub invariant-loop-step : goal.invariant-loop-step
invariant-loop-step l = runs (drop l.step-index l.fn.code) (record { stack = reverse l.stack.items; printed = l.printed.items }) ≡ runs l.fn.code nothing
