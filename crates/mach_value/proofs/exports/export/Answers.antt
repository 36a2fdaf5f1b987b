use Rattle.std.proofs.Common.{subst, sym}
use Rattle.mach_value.specs.Exports.{held, IsLump, HasNoLump}
use Rattle.mach_value.specs.declared.exporting.Progress.{Progress}
use Rattle.mach_value.proofs.Advancing.{turned, refused}
use Rattle.mach_value.proofs.Turns.{started, ended, prefix_of, refusal}
use Rattle.mach_value.proofs.exports.export.Goals as goal

pub loop-next-init : goal.loop-next-init
loop-next-init c =
    let p = c.in_ok-progress.progress in
    started c.args.heap.now.objects (held c.args.value) p.nodes.items p.pending p.path
    c.in_ok-progress.ensures.nodes c.in_ok-progress.ensures.pending c.in_ok-progress.ensures.path

pub loop-next-smaller : goal.loop-next-smaller
loop-next-smaller c =
    let old : Progress = record c.loop-next.progress { pending = c.pop.new.self } in
    (turned c.args.heap.now.objects (held c.args.value) c.in-Some.next c.loop-next.progress.pending old c.advance.new.progress
    c.in-Some.ensures c.in_ok-advance.ensures c.loop-next.invariant).1

pub loop-next-preserved : goal.loop-next-preserved
loop-next-preserved c =
    let old : Progress = record c.loop-next.progress { pending = c.pop.new.self } in
    (turned c.args.heap.now.objects (held c.args.value) c.in-Some.next c.loop-next.progress.pending old c.advance.new.progress
    c.in-Some.ensures c.in_ok-advance.ensures c.loop-next.invariant).0

pub returns-in_err-advance-clause-refused : goal.returns-in_err-advance-clause-refused
returns-in_err-advance-clause-refused c =
    let old : Progress = record c.loop-next.progress { pending = c.pop.new.self } in
    refusal (HasNoLump c.args.heap.now.objects c.args.value) c.from_residual-in_err-advance.result c.in_err-advance.field-0.0
    c.from_residual-in_err-advance.ensures
    (λ q. refused c.args.heap.now.objects (held c.args.value) c.in-Some.next c.loop-next.progress.pending old c.advance.new.progress
    c.in_err-advance.field-0.0 c.in-Some.ensures c.in_err-advance.ensures c.loop-next.invariant q)

pub of-requires : goal.of-requires
of-requires c =
    let p = c.loop-next.progress in
    prefix_of c.args.heap.now.objects c.args.value p.nodes.items
    (ended c.args.heap.now.objects c.args.value p.nodes.items p.pending p.path c.in_default.ensures.0 c.loop-next.invariant)

pub returns-clause-lump : goal.returns-clause-lump
returns-clause-lump c =
    let p = c.loop-next.progress in
    subst (λ l. IsLump c.args.heap.now.objects c.args.value l) (sym c.of.ensures)
    (ended c.args.heap.now.objects c.args.value p.nodes.items p.pending p.path c.in_default.ensures.0 c.loop-next.invariant)
