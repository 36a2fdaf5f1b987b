use Rattle.std.specs.Prelude.{◌↔◌, map, drop}
use Rattle.kt_tree.specs.Declarations.{declaration_tree, type_parameter_tree}
use Rattle.std.specs.List.{flat_map}
use Rattle.kt_decls_rules.specs.Rules.{AreMeant, written}
use Rattle.kt_decls_facts.proofs.meanings.are_bounds_meant.Given as goal

abbrev pub invariant-loop-each : goal.invariant-loop-each
invariant-loop-each l =
    AreMeant (map declaration_tree l.file) l.scope (flat_map (λ p. written p.bound) (map type_parameter_tree l.written)) ↔ AreMeant (map declaration_tree l.file) l.scope (flat_map (λ p. written p.bound) (map type_parameter_tree (drop l.each-index l.written)))
