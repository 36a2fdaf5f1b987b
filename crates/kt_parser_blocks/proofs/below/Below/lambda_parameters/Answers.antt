use Rattle.std.proofs.Common.{rules, List, Ok, map, refl, ap, sym}
use Rattle.kt_tree.specs.declared.bodies.LambdaParameter.{LambdaParameter}
use Rattle.kt_tree.specs.Bodies.{parameter_tree}
use Rattle.kt_parser_steps.proofs.Choosing.{attempt_if_gives, attempt_if_passes}
use Rattle.kt_parser_steps.proofs.Optional.{found_is}
use Rattle.kt_parser_blocks.specs.Rules.{lambda_head}
use Rattle.kt_parser_blocks.proofs.below.Below.lambda_parameters.Goals as goal

pub returns-in-Some : goal.returns-in-Some
returns-in-Some g c = attempt_if_gives _ _ _ _ _ _ _ _ _ _ c.is_deep.ensures (found_is _ _ _ _ _ _ _ (c.in_ok-parameters.ensures (lambda_head c.args.self.now.room) (λ old new r e. search rules)) c.in-Some.is) refl

pub returns-in-None : goal.returns-in-None
returns-in-None g c = attempt_if_passes _ _ _ _ _ _ _ _ _ c.is_deep.ensures (found_is _ _ _ _ _ _ _ (c.in_ok-parameters.ensures (lambda_head c.args.self.now.room) (λ old new r e. search rules)) c.in-None.is)
    (ap (λ (x : List LambdaParameter). Ok (map parameter_tree x, c.attempt_if.new.tokens)) (sym c.new.ensures))
