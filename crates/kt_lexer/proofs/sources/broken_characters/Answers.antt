use Rattle.std.proofs.Common.{Err, sym, ap, ◌∙◌}
use Rattle.kt_lexer.proofs.Refusals.{broken_within, broken_at_end}
use Rattle.kt_lexer.proofs.sources.broken_characters.Goals as goal
use Rattle.kt_lexer.proofs.sources.broken_characters.Goals.{in-Ok, in-Err}

pub returns-clause-refused : goal.returns-clause-refused
returns-clause-refused c r is = elim c.match-tokens_of.branch [
  | in-Ok w ↦ broken_at_end c.args.chars.now _ w.place_behind.result r w.in-Ok.ensures.tokens w.place_behind.ensures.place (sym w.result-is ∙ is)
  | in-Err w ↦ broken_within c.args.chars.now r (c.tokens_of.ensures.refused r (w.in-Err.is ∙ ap Err (sym w.result-is ∙ is)))
]
