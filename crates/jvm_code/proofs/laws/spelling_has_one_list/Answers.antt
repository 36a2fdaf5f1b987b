use Rattle.jvm_code.proofs.Theorem.{one_list}
use Rattle.jvm_code.proofs.laws.spelling_has_one_list.Goals as goal

pub returns : goal.returns
returns c = λ a b la lb short same. one_list a b la lb short same
