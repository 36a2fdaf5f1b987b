use Rattle.std.proofs.Common.{List, ap, ◌∙◌}
use Rattle.jvm_pool_bytes.specs.declared.raws.RawEntry.{RawEntry}
use Rattle.jvm_pool_bytes.specs.Raws.{raw_at}
use Rattle.jvm_pool_reader.proofs.Steps.{seen_raws}
use Rattle.jvm_pool_reader.proofs.raws.Raws.get.Goals as goal

pub returns : goal.returns
returns c =
    c.entry_at.ensures
    ∙ ap (λ (l : List RawEntry). raw_at 1 l c.args.index) (seen_raws _ _ _ c.self.invariant.each c.self.view_is)
