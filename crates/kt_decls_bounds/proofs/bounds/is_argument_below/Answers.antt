use Rattle.std.specs.Prelude.{Option, map, IfOk, IsTrue, true, ◌↔◌}
use Rattle.std.proofs.Common.{subst}
use Rattle.kt_types_tree.specs.Types.{TypeForm, forms_of, type_form}
use Rattle.kt_types_tree.specs.Hierarchy.{hierarchy_form}
use Rattle.kt_decls_rules.specs.Rules.{IsBelowBound}
use Rattle.kt_decls_bounds.proofs.Deciding.{always}
use Rattle.kt_decls_bounds.proofs.bounds.is_argument_below.Goals as goal

pub returns-in-None : goal.returns-in-None
returns-in-None c = subst (λ (o : Option TypeForm). IsTrue true ↔ IsBelowBound (hierarchy_form c.args.h.now) (forms_of (map type_form c.args.all.now)) (type_form c.args.argument.now) o) c.in-None.ensures (always tt)

pub returns-in-Some : goal.returns-in-Some
returns-in-Some c = subst (λ (o : Option TypeForm). IfOk c.is_below_if.result (λ yes. IsTrue yes ↔ IsBelowBound (hierarchy_form c.args.h.now) (forms_of (map type_form c.args.all.now)) (type_form c.args.argument.now) o)) c.in-Some.ensures c.is_below_if.ensures
