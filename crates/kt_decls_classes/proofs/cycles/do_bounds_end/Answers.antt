use Rattle.std.specs.Prelude.{List, map}
use Rattle.std.proofs.Common.{arith}
use Rattle.kt_tree.specs.Declarations.{declaration_tree, type_parameter_tree}
use Rattle.kt_tree.specs.declared.declarations.TypeParameter.{TypeParameter}
use Rattle.kt_decls_rules.specs.Rules.{DoBoundsEnd}
use Rattle.kt_decls_rules.specs.Tables.{hierarchy_of}
use Rattle.kt_decls_bounds.proofs.Deciding.{next, stops, goes, ends}
use Rattle.kt_decls_classes.proofs.cycles.do_bounds_end.Goals as goal

pub returns-then-not-fine : goal.returns-then-not-fine
returns-then-not-fine c = stops c.in_ok-fine.fine (next (λ (ps : List TypeParameter). DoBoundsEnd (hierarchy_of (map declaration_tree c.args.file.now)) c.loop-parameter.row (map type_parameter_tree ps)) c.args.parameters.now c.loop-parameter._parameter-index c._parameter-item.result (omega arith) c._parameter-item.is c.loop-parameter.invariant.1) c.in_ok-fine.ensures c.if-not-fine.true

pub loop-parameter-preserved : goal.loop-parameter-preserved
loop-parameter-preserved c = (omega arith, goes c.in_ok-fine.fine (next (λ (ps : List TypeParameter). DoBoundsEnd (hierarchy_of (map declaration_tree c.args.file.now)) c.loop-parameter.row (map type_parameter_tree ps)) c.args.parameters.now c.loop-parameter._parameter-index c._parameter-item.result (omega arith) c._parameter-item.is c.loop-parameter.invariant.1) c.in_ok-fine.ensures c.if-not-fine.false)

pub returns : goal.returns
returns c = ends (λ (ps : List TypeParameter). DoBoundsEnd (hierarchy_of (map declaration_tree c.args.file.now)) c.loop-parameter.row (map type_parameter_tree ps)) c.args.parameters.now c.loop-parameter._parameter-index (omega arith) tt c.loop-parameter.invariant.1
