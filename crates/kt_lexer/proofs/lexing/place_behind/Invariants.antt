use Rattle.std.proofs.Common.{◌≡◌, ◌+◌, ◌≤◌, length}
use Rattle.kt_lexer.specs.Texts.{place_behind}
use Rattle.kt_lexer.proofs.lexing.place_behind.Given as goal

abbrev pub invariant-loop-rest : goal.invariant-loop-rest
invariant-loop-rest l = record {
  place : place_behind l.place l.rest ≡ place_behind l.fn.from l.fn.passed;
  line : l.place.line + length l.rest ≤ l.fn.from.line + length l.fn.passed;
  column : l.place.column + length l.rest ≤ l.fn.from.column + length l.fn.passed;
}

abbrev pub decreases-loop-rest : goal.decreases-loop-rest
decreases-loop-rest l = length l.rest
