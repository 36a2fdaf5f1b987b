use Rattle.std.proofs.Common.{length, ap, ◌∙◌}
use Rattle.jvm_pool_reader.proofs.Judging.{length_raws}
use Rattle.jvm_pool_reader.proofs.raws.Raws.len.Goals as goal

pub returns : goal.returns
returns c = ap length c.entries.ensures ∙ length_raws c.args.self.now
