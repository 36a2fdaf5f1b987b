use Rattle.std.specs.Prelude.{List, map}
use Rattle.std.proofs.Common.{arith}
use Rattle.kt_tree.specs.Declarations.{constructor_parameter_tree, declaration_tree}
use Rattle.kt_tree.specs.declared.declarations.ConstructorParameter.{ConstructorParameter}
use Rattle.kt_decls_rules.specs.ClassRules.{HaveText}
use Rattle.kt_decls_bounds.proofs.Deciding.{next, stops, goes, ends}
use Rattle.kt_decls_classes.proofs.data.are_texts.Goals as goal

pub returns-then-not-fine : goal.returns-then-not-fine
returns-then-not-fine c = stops c.in_ok-fine.fine (next (λ (ps : List ConstructorParameter). HaveText (map declaration_tree c.args.file.now) c.args.scope.now (map constructor_parameter_tree ps)) c.args.parameters.now c.loop-parameter.parameter-index c.parameter-item.result (omega arith) c.parameter-item.is c.loop-parameter.invariant) c.in_ok-fine.ensures c.if-not-fine.true

pub loop-parameter-preserved : goal.loop-parameter-preserved
loop-parameter-preserved c = goes c.in_ok-fine.fine (next (λ (ps : List ConstructorParameter). HaveText (map declaration_tree c.args.file.now) c.args.scope.now (map constructor_parameter_tree ps)) c.args.parameters.now c.loop-parameter.parameter-index c.parameter-item.result (omega arith) c.parameter-item.is c.loop-parameter.invariant) c.in_ok-fine.ensures c.if-not-fine.false

pub returns : goal.returns
returns c = ends (λ (ps : List ConstructorParameter). HaveText (map declaration_tree c.args.file.now) c.args.scope.now (map constructor_parameter_tree ps)) c.args.parameters.now c.loop-parameter.parameter-index (omega arith) tt c.loop-parameter.invariant
