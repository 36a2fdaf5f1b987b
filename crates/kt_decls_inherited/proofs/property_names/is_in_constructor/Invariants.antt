use Rattle.std.specs.Prelude.{◌≡◌, map, drop}
use Rattle.std.specs.List.{list_any}
use Rattle.kt_tree.specs.Declarations.{constructor_parameter_tree}
use Rattle.kt_decls_rules.specs.Members.{constructor_properties}
use Rattle.kt_decls_rules.specs.Names.{is_name}
use Rattle.kt_decls_inherited.proofs.property_names.is_in_constructor.Given as goal

abbrev pub invariant-loop-parameter : goal.invariant-loop-parameter
invariant-loop-parameter l =
    list_any (is_name l.name) (constructor_properties (map constructor_parameter_tree l.parameters)) ≡ list_any (is_name l.name) (constructor_properties (map constructor_parameter_tree (drop l.parameter-index l.parameters)))
