use Rattle.std.proofs.Common.{◌≡◌, ◌<◌, ℕ, Some}
use Rattle.std.specs.Prelude.{slice_get}
use Rattle.kt_types_cycles.specs.Settled.{IsDone}
use Rattle.kt_decls_grounded.proofs.grounding.open_link.Given as goal

abbrev pub invariant-loop-row : goal.invariant-loop-row
invariant-loop-row l = (i : ℕ) → i < l.row-index → (d : ℕ) → slice_get l.links i ≡ Some d → IsDone l.done d
