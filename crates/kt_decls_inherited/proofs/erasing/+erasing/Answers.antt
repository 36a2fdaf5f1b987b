use Rattle.std.proofs.Common.{arith, sym}
use Rattle.kt_types_tree.specs.Hierarchy.{hierarchy_form}
use Rattle.kt_types_tree.specs.Types.{parameter, type_form, typed}
use Rattle.kt_decls_inherited.specs.Erased.{erased_form}
use Rattle.kt_decls_inherited.proofs.Stepping.{no_bound, no_step, one_bound}
use Rattle.kt_decls_inherited.proofs.erasing.+erasing.Goals as goal

pub erased_parameter-returns-then-steps-eq0 : goal.erased_parameter-returns-then-steps-eq0
erased_parameter-returns-then-steps-eq0 t c = no_step (hierarchy_form c.args.h.now).bounds c.args.steps (typed c.args.nullable (parameter c.args.row c.args.place)) (omega arith)

pub erased_parameter-returns-in-Some : goal.erased_parameter-returns-in-Some
erased_parameter-returns-in-Some t c = one_bound (hierarchy_form c.args.h.now).bounds c.args.steps c.args.row c.args.place c.args.nullable (type_form c.in-Some.bound.now) (erased_form c.boxed.result) (omega arith) (sym (rw c.in-Some.is at c.bound_in_row.ensures)) (rw c.erased_within.ensures at c.boxed.ensures)

pub erased_parameter-returns-in-None : goal.erased_parameter-returns-in-None
erased_parameter-returns-in-None t c = no_bound (hierarchy_form c.args.h.now).bounds c.args.steps c.args.row c.args.place c.args.nullable (sym (rw c.in-None.is at c.bound_in_row.ensures))
