use Rattle.kt_types_tree.specs.Hierarchy.{hierarchy_form}
use Rattle.kt_check_deciding.proofs.Tests.{same_test}
use Rattle.kt_check_deciding.proofs.Subtypes.{below_is}
use Rattle.kt_check_expressions.proofs.choosing.is_below.Goals as goal

pub returns : goal.returns
returns c = same_test _ _ c.is_subtype.ensures (below_is (hierarchy_form c.args.h.now) c.requires.classes _ _)
