use Rattle.kt_parser_blocks.proofs.Counted.{fits}
use Rattle.kt_parser_blocks.proofs.below.Below.has_more.Goals as goal

pub returns : goal.returns
returns g c = fits _ _ _ c.requires.small c.levels.ensures
