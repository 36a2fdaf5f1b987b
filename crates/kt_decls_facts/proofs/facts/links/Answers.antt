use Rattle.std.proofs.Common.{◌∙◌}
use Rattle.kt_types_tree.specs.Hierarchy.{hierarchy_form}
use Rattle.kt_decls_facts.proofs.Linking.{ends_told, ground_told}
use Rattle.kt_decls_facts.proofs.facts.links.Goals as goal

pub returns : goal.returns
returns c = record {
  to_classes = c.in_ok-classes.ensures;
  to_bounds = c.in_ok-bounds.ensures;
  ending = ends_told c.in_ok-ends.ends (hierarchy_form c.args.h.now) _ _ (c.as_slice.ensures ∙ c.in_ok-classes.ensures) (c.as_slice-2.ensures ∙ c.in_ok-bounds.ensures) c.in_ok-ends.ensures;
  ground = ground_told (hierarchy_form c.args.h.now) _ c.in_ok-grounded.grounded.items (c.as_slice-3.ensures ∙ c.in_ok-classes.ensures) c.in_ok-grounded.ensures;
}
