use Rattle.std.proofs.Common.{◌≡◌, ◌++◌, length}
use Rattle.kt_lexer.specs.Lexemes.{AllPass, is_word}
use Rattle.kt_lexer.proofs.kinds.name_of.Given as goal

abbrev pub invariant-loop-rest : goal.invariant-loop-rest
invariant-loop-rest l = record {
  text : l.bytes.items ++ l.rest ≡ l.word;
  words : AllPass is_word l.rest;
}

abbrev pub decreases-loop-rest : goal.decreases-loop-rest
decreases-loop-rest l = length l.rest
