use Rattle.std.specs.Prelude.{map}
use Rattle.std.specs.List.{flat_map}
use Rattle.kt_tree.specs.Declarations.{declaration_tree}
use Rattle.kt_decls_names.specs.Taken.{is_taken}
use Rattle.kt_decls_rules.specs.Names.{taken_by}
use Rattle.kt_decls_judged.proofs.Walking.{members_told, not_fine, on_ok}
use Rattle.kt_decls_judged.proofs.judging.judge_scoped.Goals as goal

pub returns-then-fine-clause-judged : goal.returns-then-fine-clause-judged
returns-then-fine-clause-judged c = members_told (map declaration_tree c.args.file.now) (declaration_tree c.args.declaration.now) c.args.scope.now c.args.row c.args.first c.in_ok-is_free.is_free c.in_ok-fine.fine (is_taken c.args.taken.now) c.in_ok-is_free.ensures.free c.in_ok-fine.ensures c.if-fine.true c.judge_members_of.result c.judge_members_of.ensures

pub returns-then-fine-clause-taken : goal.returns-then-fine-clause-taken
returns-then-fine-clause-taken c = on_ok c.judge_members_of.result (λ before names. c.in_ok-is_free.ensures.taken (flat_map taken_by before) names)

pub returns-else-fine-clause-judged : goal.returns-else-fine-clause-judged
returns-else-fine-clause-judged c = not_fine (map declaration_tree c.args.file.now) (declaration_tree c.args.declaration.now) c.args.scope.now c.args.row c.args.first c.in_ok-is_free.is_free c.in_ok-fine.fine (is_taken c.args.taken.now) c.in_ok-is_free.ensures.free c.in_ok-fine.ensures c.if-fine.false c.place_of.result c.place_of.ensures

pub returns-else-fine-clause-taken : goal.returns-else-fine-clause-taken
returns-else-fine-clause-taken c = λ before names. c.in_ok-is_free.ensures.taken (flat_map taken_by before) names
