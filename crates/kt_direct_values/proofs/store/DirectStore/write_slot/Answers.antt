use Rattle.std.proofs.Common.{length, map, refl, sym, ap, ◌∙◌, arith}
use Rattle.std.proofs.lemmas.List.{map-set}
use Rattle.std.proofs.lemmas.Option.{slice_get_read}
use Rattle.kt_direct_values.specs.Forms.{shape_form, value_form}
use Rattle.kt_direct_values.proofs.Written.{written}
use Rattle.kt_direct_values.proofs.store.DirectStore.write_slot.Goals as goal

pub returns : goal.returns
returns c =
    let s = c.args.self.now in
    let o = c.index_mut-object.result.now in
    let found =
    slice_get_read s.heap.items (length s.heap.items) c.in-Some.place o refl
    (grind (arith, c.len.ensures, c.if-place-len.false)) c.index_mut-object.ensures.value in
    written (value_form c.args.x.now) c.in-Some.place c.args.slot c.args.new s o
    (record { shape = o.shape; slots = c.set.new.self }) (sym c.in-Some.ensures) found
    (grind (arith, c.len-2.ensures, c.if-slot-len.false))
    (ap (λ all. record { shape = shape_form o.shape; slots = map value_form all }) c.set.ensures
    ∙ ap (λ all. record { shape = shape_form o.shape; slots = all })
    (map-set value_form o.slots c.args.slot c.args.new))
