use denote.Ref.{Bor}
use Rattle.std.proofs.Common.{rules, map}
use Rattle.kt_tree.specs.declared.tokens.Token.{Token}
use Rattle.kt_tree.specs.Bodies.{block_tree, catch_tree}
use Rattle.kt_parser_steps.proofs.Choosing.{attempt_reads, attempt_skips}
use Rattle.kt_parser_steps.proofs.Ways.{reads_from}
use Rattle.kt_parser_blocks.specs.Rules.{finally_head}
use Rattle.kt_parser_blocks.proofs.Tried.{no_finally_is}
use Rattle.kt_parser_blocks.proofs.below.Below.finally_rest.Goals as goal

abbrev shown : Bor Token → Token
shown token = token.now

pub returns-in-Some : goal.returns-in-Some
returns-in-Some g c = attempt_reads _ shown finally_head _ _ _ _ _ _ c.in-Some.field-0 (c.in-Some.ensures finally_head (λ old new r e. search rules)) c.finally_block.ensures

pub returns-in-None : goal.returns-in-None
returns-in-None g c = attempt_skips _ shown finally_head _ _ _ _ _ _ (c.in-None.ensures finally_head (λ old new r e. search rules))
    (reads_from _ _ _ (no_finally_is c.args.self.now.room c.args.at c.args.start.now (block_tree c.args.block) (map catch_tree c.args.catches) _) _ _ c.without_finally.ensures)
