use Rattle.std.specs.Prelude.{map}
use Rattle.std.proofs.Common.{arith}
use Rattle.kt_tree.specs.Declarations.{declaration_tree}
use Rattle.kt_types_tree.specs.Hierarchy.{hierarchy_form, super_form}
use Rattle.kt_decls_inherited.proofs.PropertyWays.{none_up, some_up}
use Rattle.kt_decls_inherited.proofs.properties.+properties.Goals as goal

pub is_above-returns-then-steps-eq0 : goal.is_above-returns-then-steps-eq0
is_above-returns-then-steps-eq0 t c = none_up (hierarchy_form c.args.h.now) (map declaration_tree c.args.file.now) c.args.places.now c.args.name.now c.args.steps c.args.row (omega arith)

pub is_above-returns : goal.is_above-returns
is_above-returns t c = some_up (hierarchy_form c.args.h.now) (map declaration_tree c.args.file.now) c.args.places.now c.args.name.now c.args.steps c.args.row (map super_form c.supertypes_of.result.now) c.is_in_any.result (omega arith) c.supertypes_of.ensures c.is_in_any.ensures
