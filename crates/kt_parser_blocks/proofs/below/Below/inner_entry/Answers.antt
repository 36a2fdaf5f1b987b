use Rattle.std.proofs.Common.{Err, arith, sym, ap, ◌∙◌}
use Rattle.kt_tree.specs.declared.tokens.Token.{Token}
use Rattle.kt_grammar_parsers.specs.Parsers.{Cursor}
use Rattle.kt_parser_steps.proofs.Ways.{reads_from}
use Rattle.kt_parser_blocks.proofs.Entries.{no_entry, entry_over}
use Rattle.kt_parser_blocks.proofs.below.Below.inner_entry.Goals as goal

pub returns-then-self-le1 : goal.returns-then-self-le1
returns-then-self-le1 g c some = no_entry c.args.at c.args.tokens.now c.args.has_subject c.args.self.now.room (omega arith) ∙ ap (λ (z : Cursor Token). Err z.far) (sym c.refuse.ensures.marked)

pub returns : goal.returns
returns g c = reads_from _ _ _ (entry_over c.args.self.now.room _ c.lower.ensures.room c.args.at c.args.tokens.now c.args.has_subject (omega (arith, c.lower.ensures.room))) _ _ c.entry.ensures
