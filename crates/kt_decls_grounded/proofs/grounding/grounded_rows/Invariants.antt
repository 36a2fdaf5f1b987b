use Rattle.std.specs.Prelude.{◌≡◌, length}
use Rattle.kt_types_cycles.specs.Settled.{open_count, IsSettled}
use Rattle.kt_decls_grounded.proofs.grounding.grounded_rows.Given as goal

abbrev pub invariant-rounds : goal.invariant-rounds
invariant-rounds l = IsSettled l.graph l.done.items × (length l.done.items ≡ length l.graph)

abbrev pub decreases-rounds : goal.decreases-rounds
decreases-rounds l = open_count l.done.items
