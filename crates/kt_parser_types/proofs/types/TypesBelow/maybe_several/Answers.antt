use Rattle.std.proofs.Common.{rules}
use Rattle.kt_grammar.specs.Readers.{type_parser}
use Rattle.kt_parser_types.proofs.types.TypesBelow.maybe_several.Goals as goal

pub returns : goal.returns
returns g c = c.maybe_comma_list.ensures (type_parser c.args.self.now.room) (λ old new r e. search rules)
