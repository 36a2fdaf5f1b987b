use Rattle.std.specs.Prelude.{◌++◌, map, take}
use Rattle.std.specs.List.{flat_map}
use Rattle.std.proofs.Common.{arith, subst}
use Rattle.kt_tree.specs.Declarations.{constructor_parameter_tree}
use Rattle.kt_decls_names.specs.Taken.{is_taken}
use Rattle.kt_decls_rules.specs.Names.{taken_by_parameter}
use Rattle.kt_decls_members.specs.Known.{IsTakenBy}
use Rattle.kt_decls_members.proofs.TakenOn.{more_taken}
use Rattle.kt_decls_members.proofs.taking.take_parameters.Goals as goal

pub loop-parameter-preserved : goal.loop-parameter-preserved
loop-parameter-preserved c = λ earlier names.
    subst (IsTakenBy (is_taken c.take_parameter.new.taken)) (more_taken taken_by_parameter constructor_parameter_tree earlier c.args.parameters.now c.loop-parameter.parameter-index c.parameter-item.result (omega arith) c.parameter-item.is)
    (c.in_ok-take_parameter.ensures (earlier ++ flat_map taken_by_parameter (map constructor_parameter_tree (take c.loop-parameter.parameter-index c.args.parameters.now))) (c.loop-parameter.invariant earlier names))
