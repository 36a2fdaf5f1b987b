use Rattle.std.proofs.Common.{◌+◌, ◌≤◌, length}
use Rattle.kt_lexer.proofs.Standing.{Stands}
use Rattle.kt_lexer.proofs.lexing.tokens_of.Given as goal

abbrev pub invariant-loop-shape : goal.invariant-loop-shape
invariant-loop-shape l = record {
  stands : Stands l.chars l.openings l.place l.rest l.tokens.items;
  line : l.place.line + length l.rest ≤ 1 + length l.chars;
  column : l.place.column + length l.rest ≤ 1 + length l.chars;
}

abbrev pub decreases-loop-shape : goal.decreases-loop-shape
decreases-loop-shape l = length l.rest
