use Rattle.std.specs.Prelude.{map, option_map}
use Rattle.std.proofs.Common.{arith, ap, ◌∙◌}
use Rattle.kt_tree.specs.Declarations.{declaration_tree}
use Rattle.kt_types_tree.specs.Hierarchy.{hierarchy_form, super_form}
use Rattle.kt_decls_inherited.specs.Erased.{descriptor_form}
use Rattle.kt_decls_types.specs.Scopes.{class_named}
use Rattle.kt_decls_inherited.proofs.DescriptorWays.{none_up, up_told}
use Rattle.kt_decls_inherited.proofs.above.+above.Goals as goal

pub descriptors_from-returns-then-steps-eq0 : goal.descriptors_from-returns-then-steps-eq0
descriptors_from-returns-then-steps-eq0 t c = ap (map (option_map descriptor_form)) c.new.ensures ∙ none_up (class_named c.args.classes.now) (hierarchy_form c.args.h.now) (map declaration_tree c.args.file.now) c.args.places.now c.args.name.now c.args.count c.args.steps c.args.row (omega arith)

pub descriptors_from-returns : goal.descriptors_from-returns
descriptors_from-returns t c = up_told (class_named c.args.classes.now) (hierarchy_form c.args.h.now) (map declaration_tree c.args.file.now) c.args.places.now c.args.name.now c.args.count c.args.steps c.args.row (map super_form c.supertypes_of-supertypes.result.now) c.descriptors_of.result (omega arith) c.supertypes_of-supertypes.ensures c.descriptors_of.ensures
