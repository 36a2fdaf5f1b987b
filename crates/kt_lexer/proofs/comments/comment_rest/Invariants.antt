use Rattle.std.proofs.Common.{◌≡◌, ◌+◌, ◌≤◌, length}
use Rattle.kt_lexer.specs.Scanning.{comment_rest}
use Rattle.kt_lexer.proofs.comments.comment_rest.Given as goal

abbrev pub invariant-loop-rest : goal.invariant-loop-rest
invariant-loop-rest l = record {
  same : comment_rest l.depth l.rest ≡ comment_rest 0 l.chars;
  room : l.depth + length l.rest ≤ length l.chars;
}

abbrev pub decreases-loop-rest : goal.decreases-loop-rest
decreases-loop-rest l = length l.rest
