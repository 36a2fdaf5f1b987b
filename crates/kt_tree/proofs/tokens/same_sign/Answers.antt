use Rattle.std.proofs.Common.{rules}
use Rattle.kt_tree.specs.Tokens.{same_sign}
use Rattle.kt_tree.proofs.tokens.same_sign.Goals as goal

pub returns : goal.returns
unfolding same_sign
returns c = search rules
