use Rattle.jvm_pool.proofs.Texts as texts
use Rattle.jvm_pool.proofs.laws.one_text.Goals as goal

pub returns : goal.returns
returns c = texts.one_text
