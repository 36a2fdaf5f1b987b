use Rattle.std.proofs.Common.{rules}
use Rattle.kt_tree.specs.Tokens.{same_keyword}
use Rattle.kt_tree.proofs.tokens.same_keyword.Goals as goal

pub returns : goal.returns
unfolding same_keyword
returns c = search rules
