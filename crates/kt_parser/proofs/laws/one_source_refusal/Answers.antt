use Rattle.kt_parser.proofs.OneAnswer.{one_source_refusal}
use Rattle.kt_parser.proofs.laws.one_source_refusal.Goals as goal

pub returns : goal.returns
returns c = one_source_refusal
