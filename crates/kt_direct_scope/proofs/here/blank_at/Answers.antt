use Rattle.std.proofs.Common.{Some, None, sym, ap, ◌∙◌}
use Rattle.std.specs.Prelude.{slice_get}
use Rattle.std.specs.Option.{option_copied}
use Rattle.kt_direct_scope.proofs.Blanks.{blank_is}
use Rattle.kt_direct_scope.proofs.here.blank_at.Goals as goal

pub returns-in-Some : goal.returns-in-Some
returns-in-Some c =
    ap (λ x. Some x) c.blank.ensures
    ∙ blank_is c.args.body.now c.args.n (Some c.in-Some.local.now)
    (sym (ap (λ o. option_copied o) c.in-Some.is) ∙ c.at.ensures ∙ ap (λ ls. slice_get ls c.args.n) c.as_slice.ensures)

pub returns-in-None : goal.returns-in-None
returns-in-None c =
    blank_is c.args.body.now c.args.n None
    (sym (ap (λ o. option_copied o) c.in-None.is) ∙ c.at.ensures ∙ ap (λ ls. slice_get ls c.args.n) c.as_slice.ensures)
