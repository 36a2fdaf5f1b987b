use Rattle.std.proofs.Common.{◌∙◌}
use Rattle.kt_parser_primaries.proofs.Counted.{more_levels}
use Rattle.kt_parser_primaries.proofs.parts.Parts.push.Goals as goal

pub invariant_of-self-2 : goal.invariant_of-self-2
invariant_of-self-2 c = c.max-levels.ensures ∙ more_levels _ _ _ _ _ c.in_ok-push.ensures.ok c.levels.ensures c.self.invariant
