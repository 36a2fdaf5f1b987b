use Rattle.std.specs.Prelude.{map}
use Rattle.std.proofs.Common.{arith, ap, ◌∙◌}
use Rattle.kt_tree.specs.Declarations.{declaration_tree}
use Rattle.kt_types_tree.specs.Hierarchy.{hierarchy_form, super_form}
use Rattle.kt_decls_inherited.specs.Sights.{sight_form}
use Rattle.kt_decls_types.specs.Scopes.{class_named}
use Rattle.kt_decls_inherited.proofs.Ways.{none_up, up_told}
use Rattle.kt_decls_inherited.proofs.inheriting.+inheriting.Goals as goal

pub sights_from-returns-then-steps-eq0 : goal.sights_from-returns-then-steps-eq0
sights_from-returns-then-steps-eq0 t c = ap (map sight_form) c.new.ensures ∙ none_up (class_named c.args.classes.now) (hierarchy_form c.args.h.now) (map declaration_tree c.args.file.now) c.args.places.now c.args.name.now c.args.count c.args.steps c.args.row (omega arith)

pub sights_from-returns : goal.sights_from-returns
sights_from-returns t c = up_told (class_named c.args.classes.now) (hierarchy_form c.args.h.now) (map declaration_tree c.args.file.now) c.args.places.now c.args.name.now c.args.count c.args.steps c.args.row (map super_form c.supertypes_of-supertypes.result.now) c.sights_of.result (omega arith) c.supertypes_of-supertypes.ensures c.sights_of.ensures
