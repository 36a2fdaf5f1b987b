use Rattle.jvm_pool.proofs.DescriptorLaws as descriptors
use Rattle.jvm_pool.proofs.laws.one_descriptor.Goals as goal

pub returns : goal.returns
returns c = descriptors.one_descriptor
