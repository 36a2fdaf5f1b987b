use Rattle.std.proofs.Common.{rules}
use Rattle.kt_parser_operators.specs.Rules.{binary_turn}
use Rattle.kt_parser_operators.proofs.operators.Operators.chain.Goals as goal

pub returns : goal.returns
returns g c = c.repeat.ensures (binary_turn c.args.self.now.below.room c.args.at c.args.level) (λ s old new r e. search rules)
