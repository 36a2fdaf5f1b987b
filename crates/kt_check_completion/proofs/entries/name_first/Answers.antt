use Rattle.std.proofs.Common.{map, ◌∙◌}
use Rattle.kt_typed.specs.Bodies.{entry_form, entries_of}
use Rattle.kt_check_completion.proofs.Naming.{next_entry}
use Rattle.kt_check_completion.proofs.entries.name_first.Goals as goal

pub loop-left-preserved : goal.loop-left-preserved
loop-left-preserved c =
    c.loop-left.invariant
    ∙ next_entry c.args.row c.loop-left.left (entries_of (map entry_form c.args.entries.now)) c.name.result
    c.loop-left-test.true c.name.ensures c.if-not-name.false
