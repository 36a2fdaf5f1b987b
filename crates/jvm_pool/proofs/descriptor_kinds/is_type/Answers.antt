use Rattle.jvm_pool.proofs.Judged.{empty_is_field, no_field}
use Rattle.jvm_pool.proofs.descriptor_kinds.is_type.Goals as goal

pub returns-in-Some : goal.returns-in-Some
returns-in-Some c = empty_is_field c.args.bytes.now c.in-Some.rest.now c.is_empty.result c.in-Some.ensures c.is_empty.ensures

pub returns-in-None : goal.returns-in-None
returns-in-None c = no_field c.args.bytes.now c.in-None.ensures
