use Rattle.std.specs.Prelude.{map}
use Rattle.kt_tree.specs.Declarations.{declaration_tree, function_tree}
use Rattle.kt_decls_names.specs.Taken.{is_taken}
use Rattle.kt_decls_rules.specs.Names.{taken_by_function}
use Rattle.kt_decls_rules.specs.ClassRules.{IsFineMethod}
use Rattle.kt_decls_members.proofs.MembersJudged.{placed}
use Rattle.kt_decls_members.proofs.judging.one_method.Goals as goal

pub returns-clause-fine : goal.returns-clause-fine
returns-clause-fine c = placed (λ row scope earlier. IsFineMethod (map declaration_tree c.args.file.now) row scope earlier (function_tree c.args.function.now)) c.args.row c.args.scope.now c.in_ok-is_free.is_free (is_taken c.args.taken.now) (taken_by_function (function_tree c.args.function.now)) c.in_ok-is_free.ensures.free c.is_fine_method.result c.is_fine_method.ensures
