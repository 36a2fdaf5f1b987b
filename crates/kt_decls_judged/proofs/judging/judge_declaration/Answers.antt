use Rattle.std.specs.Prelude.{map}
use Rattle.std.proofs.Common.{◌∙◌}
use Rattle.kt_tree.specs.Declarations.{declaration_tree, type_parameter_tree}
use Rattle.kt_decls_judged.proofs.Walking.{in_scope, long_enough}
use Rattle.kt_decls_judged.proofs.judging.judge_declaration.Goals as goal

pub returns-clause-judged : goal.returns-clause-judged
returns-clause-judged c = λ before there count names. c.in_ok-place.ensures.judged before (in_scope before (declaration_tree c.args.declaration.now) c.args.first _ _ (c.as_slice.ensures ∙ c.in_ok-scope.ensures.parameters) c.type_parameters.ensures count) there count names

pub returns-clause-next : goal.returns-clause-next
returns-clause-next c = long_enough (declaration_tree c.args.declaration.now) c.args.first c.in_ok-scope.scope.next c.type_parameters.result.now type_parameter_tree c.in_ok-scope.ensures.next c.type_parameters.ensures

pub returns-clause-taken : goal.returns-clause-taken
returns-clause-taken c = c.in_ok-place.ensures.taken
