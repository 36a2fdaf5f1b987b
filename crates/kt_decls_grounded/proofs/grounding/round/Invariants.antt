use Rattle.std.specs.Prelude.{ℕ, true, false, ◌≡◌, ◌<◌, length}
use Rattle.kt_types_cycles.specs.Settled.{open_count, IsSettled}
use Rattle.kt_decls_grounded.specs.Grounded.{IsStuck}
use Rattle.kt_decls_grounded.proofs.grounding.round.Given as goal

abbrev pub invariant-loop-row : goal.invariant-loop-row
invariant-loop-row l = record {
  settled : IsSettled l.graph l.done.items;
  long : length l.done.items ≡ length l.graph;
  fewer : l.changed ≡ true → open_count l.done.items < open_count l.fn.done.items;
  same : l.changed ≡ false → l.done.items ≡ l.fn.done.items;
  stuck : l.changed ≡ false → (row : ℕ) → row < l.row → IsStuck l.graph l.done.items row;
}
