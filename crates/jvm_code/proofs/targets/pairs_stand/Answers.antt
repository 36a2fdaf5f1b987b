use Rattle.std.proofs.Common.{sym, ◌∙◌}
use Rattle.jvm_code.specs.Decoding.{rows, starts_of}
use Rattle.jvm_code.proofs.Starts.{pair_fails}
use Rattle.jvm_code.proofs.targets.pairs_stand.Goals as goal

pub returns-then-not-stands_at : goal.returns-then-not-stands_at
returns-then-not-stands_at c = sym (pair_fails (starts_of (rows c.args.code.now)) c.args.at c.args.pairs.now c.loop-pair.pair-index _ c.loop-pair-test.true (sym c.stands_at.ensures ∙ c.if-not-stands_at.true))
