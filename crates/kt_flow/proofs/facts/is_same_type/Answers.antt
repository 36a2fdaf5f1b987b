use Rattle.kt_types_tree.specs.Types.{type_form}
use Rattle.kt_flow.proofs.Same.{same_is}
use Rattle.kt_flow.proofs.facts.is_same_type.Goals as goal

pub returns : goal.returns
returns c = same_is _ (type_form c.args.t.now) (type_form c.args.other.now) c.is_same.ensures
