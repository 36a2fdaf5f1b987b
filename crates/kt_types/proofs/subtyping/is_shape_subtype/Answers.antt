use Rattle.std.proofs.Common.{sym, ◌∙◌}
use Rattle.std.proofs.lemmas.List.{length-map}
use Rattle.kt_types_tree.specs.Types.{type_form, typed, shape_form}
use Rattle.kt_types_tree.specs.Hierarchy.{hierarchy_form}
use Rattle.kt_types_order.proofs.Rules.{by_rules}
use Rattle.kt_types.proofs.Chains.{all_steps}
use Rattle.kt_types.proofs.subtyping.is_shape_subtype.Goals as goal

pub returns : goal.returns
returns c = by_rules (hierarchy_form c.args.h.now) _ (typed c.args.nullable (shape_form c.args.a.now)) (typed c.args.may (shape_form c.args.b.now)) (all_steps (hierarchy_form c.args.h.now) _ _ _ _ _ _ (c.len.ensures ∙ sym (length-map c.args.h.now.bounds type_form)) c.is_shape_below.ensures)
