use Rattle.std.specs.Prelude.{◌≡◌, map, drop}
use Rattle.std.specs.List.{list_all}
use Rattle.kt_tree.specs.Declarations.{constructor_parameter_tree}
use Rattle.kt_decls_rules.specs.ClassRules.{is_property}
use Rattle.kt_decls_classes.proofs.data.are_properties.Given as goal

abbrev pub invariant-loop-parameter : goal.invariant-loop-parameter
invariant-loop-parameter l =
    list_all (λ p. is_property p.kind) (map constructor_parameter_tree l.parameters) ≡ list_all (λ p. is_property p.kind) (map constructor_parameter_tree (drop l.parameter-index l.parameters))
