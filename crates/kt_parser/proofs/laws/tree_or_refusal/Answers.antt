use Rattle.kt_parser.proofs.EachSource.{tree_or_refusal}
use Rattle.kt_parser.proofs.laws.tree_or_refusal.Goals as goal

pub returns : goal.returns
returns c = tree_or_refusal
