use Rattle.std.proofs.Common.{ap, ◌∙◌}
use Rattle.jvm_pool.specs.Mentions.{seek}
use Rattle.jvm_pool.proofs.Seeking.{seek_is}
use Rattle.jvm_pool.proofs.pool.Pool.index_of.Goals as goal

pub returns : goal.returns
returns c =
    c.copied.ensures ∙ c.get.ensures.value ∙ seek_is 1 c.self.inside.indices.entries c.args.e.now c.self.invariant.numbered
    ∙ ap (λ es. seek 1 es c.args.e.now) c.self.view_is
