use Rattle.std.proofs.Common.{◌≡◌, Some, None, ap, sym, ◌∙◌}
use Rattle.std.specs.Prelude.{position}
use Rattle.kt_outside.specs.Memory.{is_named, MemFile}
use Rattle.kt_outside.proofs.Stored.{set_replaces, set_keeps, push_replaces, push_keeps}
use Rattle.kt_outside.proofs.memory.put_first.Goals as goal

pub returns-in-Some-clause-replaced : goal.returns-in-Some-clause-replaced
returns-in-Some-clause-replaced c =
    let at : position (is_named c.args.name.now) c.args.files.now.items ≡ Some c.in-Some.at = rw c.as_slice.ensures.value at (sym c.place_of.ensures ∙ c.in-Some.is) in
    set_replaces _ _ c.in-Some.at c.index_mut.result.now _ at c.index_mut.ensures.value ∙ ap Some c.in_ok-copy.ensures.items

pub returns-in-Some-clause-others : goal.returns-in-Some-clause-others
returns-in-Some-clause-others c =
    let at : position (is_named c.args.name.now) c.args.files.now.items ≡ Some c.in-Some.at = rw c.as_slice.ensures.value at (sym c.place_of.ensures ∙ c.in-Some.is) in
    set_keeps _ _ c.in-Some.at c.index_mut.result.now _ at c.index_mut.ensures.value

pub returns-in_ok-push-in-None-clause-replaced : goal.returns-in_ok-push-in-None-clause-replaced
returns-in_ok-push-in-None-clause-replaced c =
    let absent : position (is_named c.args.name.now) c.args.files.now.items ≡ None = rw c.as_slice.ensures.value at (sym c.place_of.ensures ∙ c.in-None.is) in
    let file : MemFile = (c.in_ok-from_str-in-None.field-0, c.in_ok-copy.copy) in
    rw c.in_ok-push-in-None.ensures.items (push_replaces _ _ file c.in_ok-from_str-in-None.ensures.ok absent ∙ ap Some c.in_ok-copy.ensures.items)

pub returns-in_ok-push-in-None-clause-others : goal.returns-in_ok-push-in-None-clause-others
returns-in_ok-push-in-None-clause-others c =
    let file : MemFile = (c.in_ok-from_str-in-None.field-0, c.in_ok-copy.copy) in
    rw c.in_ok-push-in-None.ensures.items (push_keeps _ _ file c.in_ok-from_str-in-None.ensures.ok)
