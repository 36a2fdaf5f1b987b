use Rattle.std.proofs.Common.{◌≡◌, Some, sym, ap, subst, ◌∙◌}
use Rattle.std.specs.Prelude.{IfOk, map}
use Rattle.kt_meaning.specs.Units as spec
use Rattle.kt_direct_values.specs.Forms.{shape_form, value_form}
use Rattle.kt_direct_courses.proofs.courses.message_in.Goals as goal

pub returns-in-Some : goal.returns-in-Some
returns-in-Some c =
    subst (λ vs. IfOk c.first_text.result (λ m.
    m ≡ spec.message_in (Some (record { shape = shape_form c.args.object.now.shape; slots = vs }))))
    (sym (ap (λ xs. map value_form xs) (sym c.as_slice.ensures ∙ c.in-Some.ensures)))
    (c.first_text.ensures (shape_form c.args.object.now.shape) (map value_form c.in-Some.both.1.now))
