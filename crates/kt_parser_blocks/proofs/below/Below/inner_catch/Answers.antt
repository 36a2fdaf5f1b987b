use Rattle.std.proofs.Common.{Err, arith, sym, ap, ◌∙◌}
use Rattle.kt_tree.specs.declared.tokens.Token.{Token}
use Rattle.kt_grammar_parsers.specs.Parsers.{Cursor}
use Rattle.kt_parser_steps.proofs.Ways.{reads_from}
use Rattle.kt_parser_blocks.proofs.Entries.{no_catch, catch_over}
use Rattle.kt_parser_blocks.proofs.below.Below.inner_catch.Goals as goal

pub returns-then-self-eq0 : goal.returns-then-self-eq0
returns-then-self-eq0 g c some = no_catch c.args.at c.args.tokens.now c.args.name c.args.self.now.room (omega arith) ∙ ap (λ (z : Cursor Token). Err z.far) (sym c.refuse.ensures.marked)

pub returns : goal.returns
returns g c = reads_from _ _ _ (catch_over c.args.self.now.room _ c.lower.ensures.room c.args.at c.args.tokens.now c.args.name) _ _ c.catch_rest.ensures
