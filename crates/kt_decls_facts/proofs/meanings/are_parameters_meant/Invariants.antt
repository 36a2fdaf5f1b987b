use Rattle.std.specs.Prelude.{◌↔◌, map, drop}
use Rattle.kt_tree.specs.Declarations.{declaration_tree, typed_parameter_tree}
use Rattle.kt_decls_rules.specs.Rules.{AreMeant}
use Rattle.kt_decls_facts.proofs.meanings.are_parameters_meant.Given as goal

abbrev pub invariant-loop-each : goal.invariant-loop-each
invariant-loop-each l =
    AreMeant (map declaration_tree l.file) l.scope (map (λ p. p.annotation) (map typed_parameter_tree l.written)) ↔ AreMeant (map declaration_tree l.file) l.scope (map (λ p. p.annotation) (map typed_parameter_tree (drop l.each-index l.written)))
