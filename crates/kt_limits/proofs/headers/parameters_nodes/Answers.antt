use Rattle.std.proofs.Common.{List, map, refl, ap, arith}
use Rattle.kt_typed.specs.declared.headers.ClassParameter.{ClassParameter}
use Rattle.kt_typed.specs.Headers.{class_parameter_form}
use Rattle.kt_sizes.specs.Capped.{cap}
use Rattle.kt_limits.specs.Parts.{parameter_nodes, parameters_nodes}
use Rattle.kt_limits.proofs.Lengths.{sum_begins, sum_on, sum_ends}
use Rattle.kt_limits.proofs.headers.parameters_nodes.Goals as goal

pub loop-parameter-init : goal.loop-parameter-init
loop-parameter-init c = (sum_begins _, omega arith)

pub loop-parameter-preserved : goal.loop-parameter-preserved
loop-parameter-preserved c =
    let more = c.saturating_add-nodes.ensures in (
      sum_on (λ (ps : List ClassParameter). parameters_nodes (map class_parameter_form ps))
          (λ (p : ClassParameter). parameter_nodes (class_parameter_form p)) (λ x xs. refl) c.args.parameters.now
          c.loop-parameter.parameter-index c.parameter-item.result c.loop-parameter-test.true c.parameter-item.is
          c.loop-parameter.nodes c.parameter_nodes.result c.saturating_add-nodes.result _ c.loop-parameter.invariant.0
          (ap cap c.parameter_nodes.ensures) more,
      omega (arith, more),
    )

pub returns : goal.returns
returns c =
    sum_ends (λ (ps : List ClassParameter). parameters_nodes (map class_parameter_form ps)) refl c.args.parameters.now
    c.loop-parameter.parameter-index c.loop-parameter-test.false c.loop-parameter.nodes _ c.loop-parameter.invariant.1
    c.loop-parameter.invariant.0
