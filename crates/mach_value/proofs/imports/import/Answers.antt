use Rattle.std.proofs.Common.{ap, ◌∙◌, subst, ◌++◌}
use Rattle.mach_value.specs.Imported.{AreUnits, built}
use Rattle.mach_value.proofs.Arriving.{arrived_as}
use Rattle.mach_value.proofs.imports.import.Goals as goal

pub returns-clause-lump : goal.returns-clause-lump
returns-clause-lump c =
    let nodes = c.nodes.ensures.value in
    let heap = c.args.heap.now in
    arrived_as heap c.args.lump.now c.next-first.result c.in_ok-built.built c.take_top-top.result c.append.new.self c.in_ok-value.value
    c.next-first.ensures
    (c.in_ok-built.ensures.made ∙ ap (built c.next-first.result) nodes)
    c.take_top-top.ensures
    (c.in_ok-append.ensures.ok ∙ ap (λ m. heap.objects ++ m) c.in_ok-value.ensures.objects)
    c.in_ok-value.ensures.value
    c.nodes.ensures.prefix_form
    (subst AreUnits nodes c.in_ok-built.ensures.units)
