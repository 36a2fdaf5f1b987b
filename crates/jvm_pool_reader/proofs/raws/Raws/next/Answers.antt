use Rattle.std.proofs.Common.{◌+◌, List, ap, ◌∙◌}
use Rattle.jvm_pool_bytes.specs.declared.raws.RawEntry.{RawEntry}
use Rattle.jvm_pool_bytes.specs.Raws.{raw_units}
use Rattle.jvm_pool_reader.proofs.Steps.{seen_raws}
use Rattle.jvm_pool_reader.proofs.raws.Raws.next.Goals as goal

pub returns-clause-value : goal.returns-clause-value
returns-clause-value c =
    c.self.invariant.counted
    ∙ ap (λ (l : List RawEntry). 1 + raw_units l) (seen_raws _ _ _ c.self.invariant.each c.self.view_is)
