use Rattle.std.proofs.Common.{List, ap, sym, ◌∙◌}
use Rattle.std.specs.Prelude.{slice_get}
use Rattle.kt_typed.specs.declared.operators.TypedLocal.{TypedLocal}
use Rattle.kt_flow.specs.Rows.{facts_form}
use Rattle.kt_check_names.proofs.LocalRead.{read_is}
use Rattle.kt_check_names.proofs.names.local_read.Goals as goal

pub returns-in_ok-types-in-Some : goal.returns-in_ok-types-in-Some
returns-in_ok-types-in-Some c =
    read_is c.args.number c.args.known.now.locals c.in-Some.local.now (facts_form c.args.known.now.facts)
    c.in_ok-types-in-Some.types
    (c.in-Some.ensures ∙ ap (λ (xs : List TypedLocal). slice_get xs c.args.number) c.as_slice.ensures)
    (sym c.is_surely_assigned.ensures ∙ c.if-is_surely_assigned.true) c.in_ok-types-in-Some.ensures
