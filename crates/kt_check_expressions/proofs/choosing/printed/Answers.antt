use Rattle.std.proofs.Common.{ap, sym, subst, ◌∙◌, map}
use Rattle.std.specs.Prelude.{Err, find}
use Rattle.kt_check_rules.specs.Literals.{can_print}
use Rattle.kt_check_names.specs.Answers.{Answers}
use Rattle.kt_types.specs.Kinds.{printable}
use Rattle.kt_types_tree.specs.Hierarchy.{hierarchy_form}
use Rattle.kt_types_tree.specs.Types.{type_form}
use Rattle.kt_check_deciding.specs.Outcomes.{there}
use Rattle.kt_check_names.specs.Views.{candidates_form, context_form}
use Rattle.kt_check_expressions.proofs.Chosen.{printed_reads, some_fails}
use Rattle.kt_check_expressions.proofs.SameKind.{printed_is}
use Rattle.kt_check_expressions.proofs.choosing.printed.Goals as goal

pub returns-in-Ok : goal.returns-in-Ok
returns-in-Ok c = λ s.
    printed_reads (context_form c.args.c.now) c.args.r.kind (map type_form c.args.r.types) c.in-Ok.of_type s
    (ap there
    (ap (λ ts. find (printable (hierarchy_form c.args.c.now.headers.now.hierarchy)) (map type_form ts))
    (sym c.as_slice.ensures) ∙ sym c.first_printable.ensures) ∙ c.in-Ok.ensures)

pub returns : goal.returns
returns c = λ s.
    some_fails (find (printable (hierarchy_form c.args.c.now.headers.now.hierarchy)) (map type_form c.args.r.types))
    c.args.r.kind (find (can_print (context_form c.args.c.now)) (candidates_form c.args.r)) c.in-Err.why s
    (printed_is (context_form c.args.c.now) c.args.r.kind (map type_form c.args.r.types))
    (subst (λ ts. Answers type_form (Err c.in-Err.why)
    (there (find (printable (hierarchy_form c.args.c.now.headers.now.hierarchy)) (map type_form ts))))
    c.as_slice.ensures
    (subst (λ o. Answers type_form (Err c.in-Err.why) (there o)) c.first_printable.ensures c.in-Err.ensures))
