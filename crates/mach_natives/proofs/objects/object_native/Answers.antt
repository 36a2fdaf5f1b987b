use Rattle.std.proofs.Common.{sym, ap, ◌∙◌}
use Rattle.mach_rows.specs.Courses.{ended}
use Rattle.mach_natives.specs.Rows.{object_row}
use Rattle.mach_natives.proofs.objects.object_native.Goals as goal

pub returns-in-UnitGet-clause-end : goal.returns-in-UnitGet-clause-end
returns-in-UnitGet-clause-end c =
    let h = c.args.heap.now in
    c.unit_get.ensures h ∙ ap (λ which. ended (object_row which h c.args.arguments.now) h) (sym c.in-UnitGet.is)
