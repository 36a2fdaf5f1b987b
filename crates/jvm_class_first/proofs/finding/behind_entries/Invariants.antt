use Rattle.std.proofs.Common.{◌≡◌}
use Rattle.jvm_class_first.specs.Finding.{behind_entries}
use Rattle.jvm_class_first.proofs.finding.behind_entries.Given as goal

abbrev pub invariant-loop-left : goal.invariant-loop-left
invariant-loop-left l = behind_entries l.left l.rest ≡ behind_entries l.count l.bytes

abbrev pub decreases-loop-left : goal.decreases-loop-left
decreases-loop-left l = l.left
