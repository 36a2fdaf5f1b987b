use Rattle.std.proofs.Common.{ap, ◌∙◌}
use Rattle.mach_rows.specs.declared.sending.Sending.TheVariants as sending
use Rattle.mach_rows.specs.Asking as spec
use Rattle.mach_rows.specs.Asking.{asking_fault, is_null, sends}
use Rattle.mach_cells.proofs.Sending.{faulted, row_throws}
use Rattle.mach_cells.proofs.sends.cells_launch.Goals as goal

pub returns-in-Some : goal.returns-in-Some
returns-in-Some c =
    let h = c.args.heap.now in
    let e = c.in-Some.ensures ∙ ap (λ null. asking_fault null h) c.is_null.ensures in
    row_throws c.throw.result (spec.cells_launch h c.args.x) c.in-Some.fault h _
    (faulted (asking_fault (is_null c.args.x) h) (sends sending.Launch c.args.x) c.in-Some.fault e) c.throw.ensures.end c.throw.ensures.heap
