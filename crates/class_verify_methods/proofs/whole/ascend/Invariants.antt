use Rattle.std.proofs.Common.{◌≡◌, drop}
use Rattle.std.specs.Prelude.{◌↔◌}
use Rattle.class_supers.specs.Graph.{Ascends}
use Rattle.class_verify_methods.proofs.whole.ascend.Given as goal

abbrev pub invariant-loop-start : goal.invariant-loop-start
invariant-loop-start l = Ascends 0 l.starts ↔ Ascends l.least (drop l.start-index l.starts)
