use Rattle.std.specs.Prelude.{ℕ, true, false, ◌≡◌, ◌<◌}
use Rattle.kt_types_cycles.specs.Settled.{open_count}
use Rattle.kt_decls_hierarchy.specs.Marking.{IsClosed, IsMarking}
use Rattle.kt_decls_hierarchy.proofs.marks.round.Given as goal

abbrev pub invariant-loop-row : goal.invariant-loop-row
invariant-loop-row l = record {
  marking : IsMarking l.graph l.own l.marks.items;
  fewer : l.changed ≡ true → open_count l.marks.items < open_count l.fn.marks.items;
  same : l.changed ≡ false → l.marks.items ≡ l.fn.marks.items;
  closed : l.changed ≡ false → (row : ℕ) → row < l.row → IsClosed l.graph l.own l.marks.items row;
}
