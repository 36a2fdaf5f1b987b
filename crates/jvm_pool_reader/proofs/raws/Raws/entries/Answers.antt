use Rattle.std.proofs.Common.{◌∙◌}
use Rattle.jvm_pool_reader.proofs.Steps.{seen_raws}
use Rattle.jvm_pool_reader.proofs.raws.Raws.entries.Goals as goal

pub returns : goal.returns
returns c = c.as_slice.ensures.keys ∙ seen_raws _ _ _ c.self.invariant.each c.self.view_is
