use Rattle.jvm_runtime.proofs.Names.{one_name}
use Rattle.jvm_runtime.proofs.laws.one_name.Goals as goal

pub returns : goal.returns
returns c = one_name
