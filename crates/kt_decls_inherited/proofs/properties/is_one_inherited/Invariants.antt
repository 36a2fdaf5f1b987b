use Rattle.std.specs.Prelude.{◌≡◌, map, drop}
use Rattle.std.specs.List.{list_any}
use Rattle.kt_tree.specs.Declarations.{constructor_parameter_tree, declaration_tree}
use Rattle.kt_decls_rules.specs.Members.{constructor_properties, inherited_properties}
use Rattle.kt_decls_rules.specs.Names.{is_name}
use Rattle.kt_decls_inherited.proofs.properties.is_one_inherited.Given as goal

abbrev pub invariant-loop-parameter : goal.invariant-loop-parameter
invariant-loop-parameter l =
    list_any (λ x. list_any (is_name x) (inherited_properties (map declaration_tree l.file) l.row)) (constructor_properties (map constructor_parameter_tree l.parameters)) ≡ list_any (λ x. list_any (is_name x) (inherited_properties (map declaration_tree l.file) l.row)) (constructor_properties (map constructor_parameter_tree (drop l.parameter-index l.parameters)))
