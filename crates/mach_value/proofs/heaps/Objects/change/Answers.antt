use Rattle.std.proofs.Common.{◌-◌, ◌<◌, ◌≤◌, length, refl, sym, ap, ◌∙◌, subst, arith}
use Rattle.std.proofs.lemmas.Option.{slice_get_read}
use Rattle.mach_value.specs.Access.{changed_at}
use Rattle.mach_value.proofs.Changing.{none_below, none_past, one_changed}
use Rattle.mach_value.proofs.heaps.Objects.change.Goals as goal

pub returns-then-address-lt2 : goal.returns-then-address-lt2
returns-then-address-lt2 c = sym (none_below c.args.change c.args.address c.args.self.now c.if-address-lt2.true)

pub returns-then-place-len : goal.returns-then-place-len
returns-then-place-len c =
    let h : length c.self.inside.list.items ≤ c.args.address - 2 = grind (arith, c.len.ensures, c.if-place-len.true) in
    sym (none_past c.args.change c.args.address c.args.self.now c.if-address-lt2.false
    (subst (λ os. length os ≤ c.args.address - 2) c.self.view_is h))

pub returns : goal.returns
returns c =
    let items = c.self.inside.list.items in
    let o = c.index_mut-object.result.now in
    let place = c.args.address - 2 in
    let lt : place < length items = grind (arith, c.len.ensures, c.if-place-len.false) in
    one_changed c.args.change c.args.address items o c.change.new.self c.if-address-lt2.false
    (slice_get_read items (length items) place o refl lt c.index_mut-object.ensures.value) c.change.ensures
    ∙ ap (λ os. changed_at c.args.change c.args.address os) c.self.view_is
