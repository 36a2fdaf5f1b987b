use Rattle.std.specs.Prelude.{◌↔◌, map, drop}
use Rattle.kt_tree.specs.Declarations.{declaration_tree, supertype_tree}
use Rattle.kt_decls_rules.specs.Rules.{AreMeant}
use Rattle.kt_decls_facts.proofs.meanings.are_parents_meant.Given as goal

abbrev pub invariant-loop-each : goal.invariant-loop-each
invariant-loop-each l =
    AreMeant (map declaration_tree l.file) l.scope (map (λ s. s.parent) (map supertype_tree l.written)) ↔ AreMeant (map declaration_tree l.file) l.scope (map (λ s. s.parent) (map supertype_tree (drop l.each-index l.written)))
