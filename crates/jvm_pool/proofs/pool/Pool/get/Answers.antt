use Rattle.std.proofs.Common.{ℕ, Some, ap, sym, ◌∙◌}
use Rattle.jvm_pool.specs.Mentions.{seek}
use Rattle.jvm_pool.proofs.Seeking.{seek_is, start_is, entry_from_seek}
use Rattle.jvm_pool.proofs.pool.Pool.get.Goals as goal

pub returns-clause-once : goal.returns-clause-once
returns-clause-once c =
    let e = c.in_ok-entry.entry.now in
    let start = start_is c.self.inside.indices.entries c.in_ok-position.position e c.in_ok-entry.field-0-1.now c.args.index c.in_ok-position.ensures.found (sym c.in_ok-entry.ensures.entry) in
    ap (λ es. seek 1 es e) (sym c.self.view_is) ∙ sym (seek_is 1 c.self.inside.indices.entries e c.self.invariant.numbered) ∙ c.in_ok-entry.ensures.value ∙ ap (λ (n : ℕ). Some n) start

pub returns-clause-value : goal.returns-clause-value
returns-clause-value c = sym (entry_from_seek 1 c.args.self.now c.in_ok-entry.entry.now c.args.index (returns-clause-once c))
