use Rattle.std.proofs.Common.{◌≡◌, refl}
use Rattle.mach_value.specs.declared.exports.ExportErr.TheVariants as error
use Rattle.mach_rows.specs.Asking.{Comes}
use Rattle.mach_cells.proofs.Sending.{sent_refused}
use Rattle.mach_cells.proofs.sends.send.Goals as goal

pub returns-in-Ok : goal.returns-in-Ok
unfolding Comes
returns-in-Ok c = (c.in-Ok.lump, c.in-Ok.ensures.lump, c.event.ensures, refl)

pub returns-in-Err-NotShareable : goal.returns-in-Err-NotShareable
returns-in-Err-NotShareable c =
    let q : c.in-Err-NotShareable.field-0 ≡ error.NotShareable = cc in
    sent_refused c.throw.result c.args.how c.args.x c.args.heap.now _ (c.in-Err-NotShareable.ensures.refused q) c.throw.ensures.end c.throw.ensures.heap
