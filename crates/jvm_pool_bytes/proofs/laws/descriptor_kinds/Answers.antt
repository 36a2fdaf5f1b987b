use Rattle.jvm_pool_bytes.proofs.DescriptorKinds.{descriptor_kinds}
use Rattle.jvm_pool_bytes.proofs.laws.descriptor_kinds.Goals as goal

pub returns : goal.returns
returns c = descriptor_kinds
