use Rattle.std.proofs.Common.{sym, ap, ◌∙◌}
use Rattle.std.specs.Prelude.{slice_get}
use Rattle.jvm_pool_bytes.proofs.Starting.{at_start}
use Rattle.jvm_pool_bytes.proofs.lookups.entry_at.Goals as goal

pub returns : goal.returns
returns c =
    c.get_index.ensures.key ∙ sym (at_start 1 c.args.raws.now.keys c.in_ok-position.position c.args.index
    (ap (λ l. slice_get l c.in_ok-position.position) (sym c.requires) ∙ c.in_ok-position.ensures.found))
