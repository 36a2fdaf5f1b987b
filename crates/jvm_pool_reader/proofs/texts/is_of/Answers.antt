use Rattle.std.proofs.Common.{sym, ◌∙◌}
use Rattle.jvm_pool_reader.proofs.TextKinds.{not_ascii}
use Rattle.jvm_pool_reader.proofs.texts.is_of.Goals as goal

pub returns : goal.returns
returns c = not_ascii c.args.kind c.args.units.now (sym c.is_ascii.ensures ∙ c.if-is_ascii.false)
