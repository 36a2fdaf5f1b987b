use Rattle.std.proofs.Common.{◌∙◌}
use Rattle.indexmap.specs.IndexMap.{keys}
use Rattle.jvm_pool.proofs.Seeking.{none_if}
use Rattle.jvm_pool.proofs.pool.position_of.Goals as goal

pub returns-clause-none : goal.returns-clause-none
returns-clause-none c =
    none_if (keys c.args.indices.now) c.as_slice.result.now c.args.index c.binary_search.result c.ok.result
    (c.as_slice.ensures ∙ c.values.ensures.rest ∙ c.requires) c.binary_search.ensures.position c.ok.ensures.value
