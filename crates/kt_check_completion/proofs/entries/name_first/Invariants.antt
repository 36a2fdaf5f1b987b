use Rattle.std.proofs.Common.{◌≡◌, map}
use Rattle.kt_typed.specs.Bodies.{entry_form, entries_of}
use Rattle.kt_check_rules.specs.Completion.{names_entries}
use Rattle.kt_check_completion.proofs.entries.name_first.Given as goal

abbrev pub invariant-loop-left : goal.invariant-loop-left
invariant-loop-left l =
    names_entries l.row l.count (entries_of (map entry_form l.entries))
    ≡ names_entries l.row l.left (entries_of (map entry_form l.entries))

abbrev pub decreases-loop-left : goal.decreases-loop-left
decreases-loop-left l = l.left
