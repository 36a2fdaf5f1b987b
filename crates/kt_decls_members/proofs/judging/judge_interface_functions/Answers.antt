use Rattle.std.specs.Prelude.{[], map, refl}
use Rattle.std.proofs.Common.{ap}
use Rattle.kt_tree.specs.Declarations.{declaration_tree, function_tree, interface, interface_tree, method}
use Rattle.kt_decls_names.specs.Taken.{is_taken}
use Rattle.kt_decls_members.proofs.MembersJudged.{from_names}
use Rattle.kt_decls_members.proofs.judging.judge_interface_functions.Goals as goal

pub returns : goal.returns
returns c = from_names (map declaration_tree c.args.file.now) (interface (interface_tree c.args.declared.now)) c.args.row c.args.scope.now (is_taken c.new-taken.result) [] [] (map method (map function_tree c.as_slice.result.now)) _ c.new-taken.ensures refl (ap (λ fs. map method (map function_tree fs)) c.as_slice.ensures) c.judge_functions.result c.judge_functions.ensures
