use Rattle.kt_parser.proofs.OneAnswer.{one_source_tree}
use Rattle.kt_parser.proofs.laws.one_source_tree.Goals as goal

pub returns : goal.returns
returns c = one_source_tree
