use Rattle.std.specs.Prelude.{[], map}
use Rattle.std.specs.List.{flat_map}
use Rattle.std.proofs.Common.{ap}
use Rattle.kt_tree.specs.Declarations.{class, class_tree, constructor_parameter_tree, declaration_tree, member_tree}
use Rattle.kt_decls_names.specs.Taken.{is_taken}
use Rattle.kt_decls_rules.specs.Names.{taken_by_parameter}
use Rattle.kt_decls_members.proofs.MembersJudged.{from_names}
use Rattle.kt_decls_members.proofs.judging.judge_class_members.Goals as goal

pub returns : goal.returns
returns c = from_names (map declaration_tree c.args.file.now) (class (class_tree c.args.declared.now)) c.args.row c.args.scope.now (is_taken c.take_parameters.new.taken) (flat_map taken_by_parameter (map constructor_parameter_tree c.as_slice.result.now)) _ (map member_tree c.as_slice-2.result.now) _ (c.in_ok-take_parameters.ensures [] c.new-taken.ensures) (ap (λ ps. flat_map taken_by_parameter (map constructor_parameter_tree ps)) c.as_slice.ensures) (ap (map member_tree) c.as_slice-2.ensures) c.judge_members.result c.judge_members.ensures
