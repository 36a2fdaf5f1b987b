use Rattle.std.proofs.Common.{◌≡◌, ◌++◌, length}
use Rattle.kt_base.specs.Text.{utf16_of}
use Rattle.kt_lexer.proofs.kinds.text_of.Given as goal

abbrev pub invariant-loop-rest : goal.invariant-loop-rest
invariant-loop-rest l = l.units.items ++ utf16_of l.rest ≡ utf16_of l.chars

abbrev pub decreases-loop-rest : goal.decreases-loop-rest
decreases-loop-rest l = length l.rest
