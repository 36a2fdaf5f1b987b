use Rattle.std.proofs.Common.{ap, ◌∙◌}
use Rattle.mach_rows.specs.declared.sending.Sending.TheVariants as sending
use Rattle.mach_rows.specs.declared.throwing.Fault.TheVariants as fault
use Rattle.mach_rows.specs.Courses.{held_in, cell_in}
use Rattle.mach_rows.specs.Asking as spec
use Rattle.mach_rows.specs.Asking.{asking_fault, is_null, on_cell, sends}
use Rattle.mach_cells.proofs.Sending.{faulted, no_cell, row_throws}
use Rattle.mach_cells.proofs.sends.cells_resume.Goals as goal

pub returns-in-Some : goal.returns-in-Some
returns-in-Some c =
    let h = c.args.heap.now in
    let e = c.in-Some.ensures ∙ ap (λ null. asking_fault null h) c.is_null.ensures in
    row_throws c.throw.result (spec.cells_resume h c.args.x c.args.y) c.in-Some.fault h _
    (faulted (asking_fault (is_null c.args.x) h) (on_cell (held_in cell_in c.args.heap.now c.args.x) (λ cell. sends (sending.Value cell) c.args.y)) c.in-Some.fault e) c.throw.ensures.end c.throw.ensures.heap

pub returns-in-None-cell_of : goal.returns-in-None-cell_of
returns-in-None-cell_of c =
    let h = c.args.heap.now in
    let e = c.in-None.ensures ∙ ap (λ null. asking_fault null h) c.is_null.ensures in
    row_throws c.throw-in-None-cell_of.result (spec.cells_resume h c.args.x c.args.y) fault.NullPointer h _
    (no_cell (asking_fault (is_null c.args.x) h) (held_in cell_in h c.args.x) (λ cell. sends (sending.Value cell) c.args.y) e c.in-None-cell_of.ensures)
    c.throw-in-None-cell_of.ensures.end c.throw-in-None-cell_of.ensures.heap
