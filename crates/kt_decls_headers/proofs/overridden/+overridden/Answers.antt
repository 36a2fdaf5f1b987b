use Rattle.std.specs.Prelude.{map}
use Rattle.std.proofs.Common.{arith}
use Rattle.kt_tree.specs.Declarations.{declaration_tree}
use Rattle.kt_types_tree.specs.Hierarchy.{hierarchy_form, super_form}
use Rattle.kt_decls_headers.proofs.FirstUp.{none_up, some_up}
use Rattle.kt_decls_headers.proofs.overridden.+overridden.Goals as goal

pub first_from-returns-then-steps-eq0 : goal.first_from-returns-then-steps-eq0
first_from-returns-then-steps-eq0 t c = none_up (hierarchy_form c.args.h.now) (map declaration_tree c.args.file.now) c.args.places.now c.args.name.now c.args.count c.args.steps c.args.row (omega arith)

pub first_from-returns : goal.first_from-returns
first_from-returns t c = some_up (hierarchy_form c.args.h.now) (map declaration_tree c.args.file.now) c.args.places.now c.args.name.now c.args.count c.args.steps c.args.row (map super_form c.supertypes_of-supertypes.result.now) c.first_of.result (omega arith) c.supertypes_of-supertypes.ensures c.first_of.ensures
