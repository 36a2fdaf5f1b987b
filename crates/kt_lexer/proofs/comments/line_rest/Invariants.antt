use Rattle.std.proofs.Common.{◌≡◌, length}
use Rattle.kt_lexer.specs.Scanning.{line_rest}
use Rattle.kt_lexer.proofs.comments.line_rest.Given as goal

abbrev pub invariant-loop-rest : goal.invariant-loop-rest
invariant-loop-rest l = line_rest l.rest ≡ line_rest l.chars

abbrev pub decreases-loop-rest : goal.decreases-loop-rest
decreases-loop-rest l = length l.rest
