use Rattle.std.proofs.Common.{◌+◌, sym, ap, subst, ◌∙◌}
use Rattle.std.specs.Prelude.{map}
use Rattle.kt_typed.specs.Headers.{property_form}
use Rattle.kt_values.specs.Heap.{read_slot}
use Rattle.kt_values.specs.Runs.{then_do, ◌>>=◌}
use Rattle.kt_direct_values.specs.Forms.{store_form, value_form}
use Rattle.kt_direct_frames.specs.Frames.{Leads}
use Rattle.kt_direct_expressions.specs.Called.{content_then}
use Rattle.kt_direct_expressions.proofs.DataClasses.{named_then}
use Rattle.kt_direct_expressions.proofs.texts.next_property.Goals as goal

pub returns-in-Ok : goal.returns-in-Ok
returns-in-Ok c = λ here.
    let rest = map property_form c.args.rest.now in
    let object = value_form c.args.object in
    subst (Leads here c.property_text.result (store_form c.property_text.new.store))
    (sym (named_then here object c.args.done.now c.args.before.now c.args.slot (property_form c.args.first.now) rest
    (store_form c.args.store.now)
    ∙ ap (λ g. then_do g (λ named. read_slot object c.args.slot >>= content_then here object named (c.args.slot + 1) rest))
    c.in-Ok.ensures))
    (c.property_text.ensures here)
