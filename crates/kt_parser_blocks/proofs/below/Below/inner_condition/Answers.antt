use Rattle.std.proofs.Common.{Err, arith, sym, ap, ◌∙◌}
use Rattle.kt_tree.specs.declared.tokens.Token.{Token}
use Rattle.kt_grammar_parsers.specs.Parsers.{Cursor}
use Rattle.kt_parser_steps.proofs.Ways.{reads_from}
use Rattle.kt_parser_blocks.proofs.Entries.{no_condition, condition_over}
use Rattle.kt_parser_blocks.proofs.below.Below.inner_condition.Goals as goal

pub returns-then-self-eq0 : goal.returns-then-self-eq0
returns-then-self-eq0 g c some = no_condition c.args.at c.args.tokens.now c.args.has_subject c.args.self.now.room (omega arith) ∙ ap (λ (z : Cursor Token). Err z.far) (sym c.refuse.ensures.marked)

pub returns : goal.returns
returns g c = reads_from _ _ _ (condition_over c.args.self.now.room _ c.lower.ensures.room c.args.at c.args.tokens.now c.args.has_subject) _ _ c.condition.ensures
