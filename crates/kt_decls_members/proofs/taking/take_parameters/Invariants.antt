use Rattle.std.specs.Prelude.{List, ◌++◌, map, take}
use Rattle.std.specs.List.{flat_map}
use Rattle.kt_tree.specs.Declarations.{constructor_parameter_tree}
use Rattle.kt_decls_names.specs.Taken.{is_taken}
use Rattle.kt_decls_rules.specs.Names.{Taken, taken_by_parameter}
use Rattle.kt_decls_members.specs.Known.{IsTakenBy}
use Rattle.kt_decls_members.proofs.taking.take_parameters.Given as goal

abbrev pub invariant-loop-parameter : goal.invariant-loop-parameter
invariant-loop-parameter l =
    (earlier : List Taken) → IsTakenBy (is_taken l.fn.taken) earlier → IsTakenBy (is_taken l.taken) (earlier ++ flat_map taken_by_parameter (map constructor_parameter_tree (take l.parameter-index l.parameters)))
