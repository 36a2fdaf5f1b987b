use Rattle.std.proofs.Common.{List, ap, ◌∙◌}
use Rattle.std.specs.List.{list_any}
use Rattle.jvm_pool_bytes.specs.declared.raws.RawEntry.{RawEntry}
use Rattle.jvm_pool_bytes.specs.Raws.{same_raw}
use Rattle.jvm_pool_reader.proofs.Steps.{any_is, seen_raws}
use Rattle.jvm_pool_reader.proofs.raws.Raws.contains.Goals as goal

pub returns : goal.returns
returns c =
    c.contains.ensures ∙ any_is c.args.raw.now c.self.inside.entries.keys
    ∙ ap (λ (l : List RawEntry). list_any (same_raw c.args.raw.now) l)
    (seen_raws _ _ _ c.self.invariant.each c.self.view_is)
