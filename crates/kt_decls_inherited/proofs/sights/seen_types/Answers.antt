use Rattle.std.specs.Prelude.{map}
use Rattle.kt_types_tree.specs.Types.{forms_of, type_form}
use Rattle.kt_decls_inherited.proofs.Meant.{types_seen}
use Rattle.kt_decls_inherited.proofs.sights.seen_types.Goals as goal

pub returns : goal.returns
returns c = types_seen (forms_of (map type_form c.args.arguments.now)) c.args.types.now c.in_ok-parameters.parameters c.in_ok-result.result (rw c.as_slice.ensures at c.in_ok-parameters.ensures) c.in_ok-result.ensures
