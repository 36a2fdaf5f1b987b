use Rattle.std.proofs.Common.{◌≡◌, ◌≤◌, length}
use Rattle.kt_lexer.specs.Scanning.{contains, behind}
use Rattle.kt_lexer.proofs.characters.CharacterClass.behind.Given as goal

abbrev pub invariant-loop-rest : goal.invariant-loop-rest
invariant-loop-rest l = record {
  same : behind (contains l.self) l.rest ≡ behind (contains l.self) l.chars;
  shorter : length l.rest ≤ length l.chars;
}

abbrev pub decreases-loop-rest : goal.decreases-loop-rest
decreases-loop-rest l = length l.rest
