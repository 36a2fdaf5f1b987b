use Rattle.std.proofs.Common.{rules}
use Rattle.kt_tree.specs.Bodies.{expression_tree}
use Rattle.kt_grammar_parsers.specs.Parsers.{repeat}
use Rattle.kt_parser_steps.proofs.Choosing.{found_reads}
use Rattle.kt_parser_primaries.specs.Rules.{primary}
use Rattle.kt_parser_operators.specs.Rules.{suffix_turn}
use Rattle.kt_parser_operators.proofs.operators.Operators.postfix.Goals as goal

pub returns : goal.returns
returns g c =
    found_reads expression_tree expression_tree (primary c.args.self.now.below.room c.args.at) (λ a. repeat (suffix_turn c.args.self.now.below.room c.args.at) a) _ _ _ _ _ c.in_ok-first.ensures
    (c.repeat.ensures (suffix_turn c.args.self.now.below.room c.args.at) (λ s old new r e. search rules))
