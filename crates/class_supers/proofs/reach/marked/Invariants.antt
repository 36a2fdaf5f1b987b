use Rattle.std.proofs.Common.{◌≡◌}
use Rattle.class_supers.specs.Search.{marked_below}
use Rattle.class_supers.proofs.reach.marked.Given as goal

abbrev pub invariant-loop-i : goal.invariant-loop-i
invariant-loop-i l = l.row ≡ marked_below l.i l.seen
