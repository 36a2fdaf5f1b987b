use Rattle.std.specs.Prelude.{◌≡◌, map, drop}
use Rattle.kt_tree.specs.Declarations.{type_parameter_tree}
use Rattle.kt_decls_names.specs.Taken.{is_taken}
use Rattle.kt_decls_rules.specs.Names.{a_value, are_distinct, are_apart}
use Rattle.kt_decls_classes.proofs.names.are_type_parameters_distinct.Given as goal

abbrev pub invariant-loop-parameter : goal.invariant-loop-parameter
invariant-loop-parameter l =
    are_distinct (map (λ p. p.name) (map type_parameter_tree l.parameters)) ≡ are_apart (is_taken l.taken) (map a_value (map (λ p. p.name) (map type_parameter_tree (drop l.parameter-index l.parameters))))
