use Rattle.std.proofs.Common.{ap, sym, subst, ◌∙◌, map}
use Rattle.std.specs.Prelude.{Err}
use Rattle.kt_check_deciding.specs.Choosing.{taken}
use Rattle.kt_check_names.specs.Answers.{Answers}
use Rattle.kt_types_tree.specs.Types.{type_form}
use Rattle.kt_check_deciding.specs.Outcomes.{there}
use Rattle.kt_check_names.specs.Views.{candidates_form, context_form, use_form}
use Rattle.kt_check_expressions.specs.Types.{taken_type}
use Rattle.kt_check_expressions.proofs.Chosen.{taken_reads, some_fails}
use Rattle.kt_check_expressions.proofs.SameKind.{taken_is}
use Rattle.kt_check_expressions.proofs.choosing.taken.Goals as goal

pub returns-in-Ok : goal.returns-in-Ok
returns-in-Ok c = λ s.
    taken_reads (context_form c.args.c.now) (use_form c.args.purpose) c.args.r.kind (map type_form c.args.r.types)
    c.in-Ok.of_type s
    (ap (λ ts. there (taken_type (context_form c.args.c.now) (use_form c.args.purpose) (map type_form ts)))
    (sym c.as_slice.ensures) ∙ c.in-Ok.ensures)

pub returns : goal.returns
returns c = λ s.
    some_fails (taken_type (context_form c.args.c.now) (use_form c.args.purpose) (map type_form c.args.r.types))
    c.args.r.kind (taken (context_form c.args.c.now) (use_form c.args.purpose) (candidates_form c.args.r)) c.in-Err.why s
    (taken_is (context_form c.args.c.now) (use_form c.args.purpose) c.args.r.kind (map type_form c.args.r.types))
    (subst (λ ts. Answers type_form (Err c.in-Err.why)
    (there (taken_type (context_form c.args.c.now) (use_form c.args.purpose) (map type_form ts))))
    c.as_slice.ensures c.in-Err.ensures)
