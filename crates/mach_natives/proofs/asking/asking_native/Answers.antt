use Rattle.std.proofs.Common.{sym, ap, ◌∙◌}
use Rattle.mach_rows.specs.Courses.{ended}
use Rattle.mach_natives.specs.Rows.{asking_row}
use Rattle.mach_natives.proofs.asking.asking_native.Goals as goal

pub returns-in-Tick-clause-end : goal.returns-in-Tick-clause-end
returns-in-Tick-clause-end c =
    let h = c.args.heap.now in
    c.tick.ensures h ∙ ap (λ which. ended (asking_row which h c.args.arguments.now) h) (sym c.in-Tick.is)

pub returns-in-CellsSuspended-clause-end : goal.returns-in-CellsSuspended-clause-end
returns-in-CellsSuspended-clause-end c =
    let h = c.args.heap.now in
    c.cells_suspended.ensures h ∙ ap (λ which. ended (asking_row which h c.args.arguments.now) h) (sym c.in-CellsSuspended.is)
