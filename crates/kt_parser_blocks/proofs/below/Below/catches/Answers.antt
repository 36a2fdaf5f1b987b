use Rattle.std.proofs.Common.{rules, List, map, ap, sym}
use Rattle.kt_tree.specs.declared.bodies.CatchBlock.{CatchBlock}
use Rattle.kt_tree.specs.Bodies.{catch_tree}
use Rattle.kt_grammar_parsers.specs.Parsers.{repeat}
use Rattle.kt_parser_steps.proofs.Ways.{reads_from}
use Rattle.kt_parser_blocks.specs.Rules.{catch_turn}
use Rattle.kt_parser_blocks.proofs.below.Below.catches.Goals as goal

pub returns : goal.returns
returns g c = reads_from _ _ _ (ap (λ (z : List CatchBlock). repeat (catch_turn c.args.self.now.room c.args.at) (map catch_tree z) c.args.tokens.now) (sym c.new.ensures)) _ _
    (c.repeat.ensures (catch_turn c.args.self.now.room c.args.at) (λ s old new r e. search rules))
