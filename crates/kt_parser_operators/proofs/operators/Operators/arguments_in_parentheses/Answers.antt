use Rattle.std.proofs.Common.{rules}
use Rattle.kt_grammar.specs.StatementParser.{parsers}
use Rattle.kt_parser_operators.proofs.operators.Operators.arguments_in_parentheses.Goals as goal

pub returns : goal.returns
returns g c = c.maybe_comma_list.ensures ((parsers c.args.self.now.below.room).disjunction c.args.at) (λ old new r e. search rules)
