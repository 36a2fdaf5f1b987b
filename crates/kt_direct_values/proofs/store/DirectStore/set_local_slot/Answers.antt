use Rattle.std.proofs.Common.{ap}
use Rattle.std.proofs.lemmas.List.{map-set}
use Rattle.kt_direct_values.specs.Forms.{store_form, value_form}
use Rattle.kt_direct_values.proofs.store.DirectStore.set_local_slot.Goals as goal

pub returns-then-at-len : goal.returns-then-at-len
returns-then-at-len c =
    ap (λ vs. record (store_form c.args.self.now) { variables = vs })
    (map-set value_form c.args.self.now.variables.items c.args.n c.args.new)
