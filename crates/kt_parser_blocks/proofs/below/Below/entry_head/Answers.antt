use Rattle.std.proofs.Common.{rules, List, Ok, map, ap, sym}
use Rattle.kt_tree.specs.declared.bodies.WhenCondition.{WhenCondition}
use Rattle.kt_tree.specs.Bodies.{condition_tree}
use Rattle.kt_grammar.specs.StatementParser.{parsers}
use Rattle.kt_parser_steps.proofs.Choosing.{on_gives, on_skips}
use Rattle.kt_parser_blocks.proofs.below.Below.entry_head.Goals as goal

pub returns-in-Some : goal.returns-in-Some
returns-in-Some g c = on_gives _ _ _ _ _ _ _ c.in-Some.ensures (ap (λ (z : List WhenCondition). Ok (map condition_tree z, c.take_keyword.new.self)) (sym c.new.ensures))

pub returns-in-None : goal.returns-in-None
returns-in-None g c = on_skips _ _ _ _ _ _ _ _ c.in-None.ensures (c.several.ensures ((parsers c.args.self.now.room).condition c.args.at c.args.has_subject) (λ old new r e. search rules))
