use Rattle.std.proofs.Common.{◌≡◌, ◌+◌, ◌*◌, ◌≤◌, drop}
use Rattle.std.specs.List.{flat_map}
use Rattle.jvm_pool.specs.Entries.{units}
use Rattle.jvm_pieces.specs.Pieces.{with_pieces}
use Rattle.jvm_class_first.specs.Instructions.{step_pieces}
use Rattle.jvm_class_first.proofs.instructions.put_steps.Given as goal

abbrev pub invariant-loop-step : goal.invariant-loop-step
invariant-loop-step l = record {
  written : with_pieces (flat_map step_pieces (drop l.step-index l.code)) l.draft ≡ with_pieces (flat_map step_pieces l.code) l.initial.draft;
  grows : units l.draft.pool ≤ units l.initial.draft.pool + 12 * l.step-index;
}
