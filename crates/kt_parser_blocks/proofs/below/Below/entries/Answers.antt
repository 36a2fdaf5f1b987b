use Rattle.std.proofs.Common.{rules}
use Rattle.kt_grammar.specs.StatementParser.{parsers}
use Rattle.kt_parser_blocks.proofs.below.Below.entries.Goals as goal

pub returns : goal.returns
returns g c = c.separated.ensures ((parsers c.args.self.now.room).entry c.args.at c.args.has_subject) (λ old new r e. search rules)
