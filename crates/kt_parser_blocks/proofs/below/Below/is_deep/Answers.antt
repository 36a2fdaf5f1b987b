use Rattle.kt_parser_blocks.proofs.Depth.{deep_is}
use Rattle.kt_parser_blocks.proofs.below.Below.is_deep.Goals as goal

pub returns : goal.returns
returns g c = deep_is c.args.self.now.room
