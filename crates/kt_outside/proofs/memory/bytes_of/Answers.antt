use Rattle.std.proofs.Common.{Some, ap, sym, ◌∙◌}
use Rattle.kt_outside.specs.Memory.{MemFile}
use Rattle.kt_outside.proofs.Stored.{placed_holds, absent_holds}
use Rattle.kt_outside.proofs.memory.bytes_of.Goals as goal

pub returns-in-Some : goal.returns-in-Some
returns-in-Some c =
    placed_holds c.args.files.now c.args.name.now c.in-Some.at _ (sym c.place_of.ensures ∙ c.in-Some.is) c.index-files-at.is
    ∙ ap (λ (f : MemFile). Some f.1.items) c.index-files-at.is ∙ ap Some (sym c.as_slice.ensures.value)

pub returns-in-None : goal.returns-in-None
returns-in-None c = absent_holds c.args.files.now c.args.name.now (sym c.place_of.ensures ∙ c.in-None.is)
