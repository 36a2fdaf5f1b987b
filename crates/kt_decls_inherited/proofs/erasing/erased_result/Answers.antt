use Rattle.std.proofs.Common.{sym, ◌∙◌}
use Rattle.kt_types_tree.specs.Hierarchy.{hierarchy_form}
use Rattle.kt_types_tree.specs.Types.{type_form}
use Rattle.kt_decls_inherited.proofs.Stepping.{other_result, unit_result}
use Rattle.kt_decls_inherited.proofs.erasing.erased_result.Goals as goal

pub returns-then-nothing : goal.returns-then-nothing
returns-then-nothing c = unit_result (hierarchy_form c.args.h.now).bounds (type_form c.args.t.now) (sym c.gives_nothing-nothing.ensures ∙ c.if-nothing.true)

pub returns-else-nothing : goal.returns-else-nothing
returns-else-nothing c = c.erased.ensures ∙ other_result (hierarchy_form c.args.h.now).bounds (type_form c.args.t.now) (sym c.gives_nothing-nothing.ensures ∙ c.if-nothing.false)
