use Rattle.std.proofs.Common.{Some}
use Rattle.jvm_pool.proofs.descriptor_kinds.is_result.Goals as goal

pub returns-in_default-clause-yes : goal.returns-in_default-clause-yes
returns-in_default-clause-yes c = λ t. let f = c.is_type.ensures.0 t in (Some f.0, f.1, f.2)
