use Rattle.std.proofs.Common.{◌≡◌}
use Rattle.kt_base.specs.Text.{utf16_of}
use Rattle.kt_base.proofs.texts.Text16.of.Given as goal

abbrev pub invariant-loop-c : goal.invariant-loop-c
invariant-loop-c l = l.units.items ≡ utf16_of l.yielded
