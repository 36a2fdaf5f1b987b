use Rattle.std.proofs.Common.{◌≡◌, ◌<◌, ◌^◌, length}
use Rattle.kt_lexer.specs.Lexemes.{number_after}
use Rattle.kt_lexer.proofs.numbers.value_of.Given as goal

abbrev pub invariant-loop-rest : goal.invariant-loop-rest
invariant-loop-rest l = record {
  value : number_after l.value l.rest ≡ number_after 0 l.digits;
  small : l.value < 2 ^ 63;
}

abbrev pub decreases-loop-rest : goal.decreases-loop-rest
decreases-loop-rest l = length l.rest
