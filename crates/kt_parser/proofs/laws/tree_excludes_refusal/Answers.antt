use Rattle.kt_parser.proofs.OneAnswer.{tree_excludes_refusal}
use Rattle.kt_parser.proofs.laws.tree_excludes_refusal.Goals as goal

pub returns : goal.returns
returns c = tree_excludes_refusal
