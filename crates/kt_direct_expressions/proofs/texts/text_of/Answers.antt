use Rattle.std.proofs.Common.{◌≡◌, refl, sym, subst}
use Rattle.kt_values.specs.Values as v
use Rattle.kt_meaning.specs.Printing as printing
use Rattle.kt_direct_values.specs.Forms.{value_form}
use Rattle.kt_direct_scope.specs.Activation.{here_form}
use Rattle.kt_direct_frames.specs.Frames.{Leads}
use Rattle.kt_direct_frames.specs.Results.{as_text_value}
use Rattle.kt_direct_expressions.specs.Called.{IsDecided}
use Rattle.kt_direct_expressions.proofs.texts.text_of.Goals as goal

pub returns-in-Object : goal.returns-in-Object
unfolding here_form
returns-in-Object c =
    let here = here_form c.args.here.now in
    let is : value_form c.args.x ≡ v.reference (v.instance c.in-Object.c) c.in-Object.place =
    subst (λ k. IsDecided k (value_form c.args.x)) c.in-Object.is c.decided_by.ensures in
    λ s. subst (λ x. Leads here c.object_text.result s (as_text_value (printing.text_of here x) s)) (sym is)
    (c.object_text.ensures here s refl)
