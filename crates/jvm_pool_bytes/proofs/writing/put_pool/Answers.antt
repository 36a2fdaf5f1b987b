use Rattle.std.proofs.Common.{◌∙◌, sym, subst, ap, ◌+◌, get_or, length, arith}
use Rattle.std.specs.Int.{to_be_bytes, w16}
use Rattle.jvm_pool.specs.Entries.{units}
use Rattle.jvm_pool_bytes.specs.Spelling.{HasParts, IsEntry}
use Rattle.jvm_pool_bytes.proofs.Written.{entry_more, entry_kept, entry_there}
use Rattle.jvm_pool_bytes.proofs.writing.put_pool.Goals as goal

pub put_entry-requires-clause-fits : goal.put_entry-requires-clause-fits
put_entry-requires-clause-fits c =
    let is = c.e-item.is ∙ ap (λ es. get_or es c.loop-e.e-index c.e-item.result) c.entries-e-items.ensures in
    subst IsEntry (sym is) (entry_kept c.args.pool.now c.loop-e.e-index c.e-item.result c.requires.entries
    (omega (arith, ap length c.entries-e-items.ensures)))

pub put_entry-requires-clause-parts : goal.put_entry-requires-clause-parts
put_entry-requires-clause-parts c =
    let is = c.e-item.is ∙ ap (λ es. get_or es c.loop-e.e-index c.e-item.result) c.entries-e-items.ensures in
    subst (HasParts c.args.pool.now) (sym is) (c.requires.whole (get_or c.args.pool.now c.loop-e.e-index c.e-item.result)
    (entry_there c.args.pool.now c.loop-e.e-index c.e-item.result (omega (arith, ap length c.entries-e-items.ensures))))

pub loop-e-preserved : goal.loop-e-preserved
loop-e-preserved c =
    let is = c.e-item.is ∙ ap (λ es. get_or es c.loop-e.e-index c.e-item.result) c.entries-e-items.ensures in
    entry_more c.args.pool.now c.args.pool.now c.loop-e.e-index c.e-item.result c.args.into.now.items c.loop-e.into.items
    c.put_entry.new.into.items (to_be_bytes w16 (1 + units c.args.pool.now))
    (omega (arith, ap length c.entries-e-items.ensures)) is c.loop-e.invariant c.in_ok-put_entry.ensures
