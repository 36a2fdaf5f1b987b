use Rattle.std.specs.Prelude.{map}
use Rattle.kt_tree.specs.Declarations.{constructor_parameter_tree, declaration_tree, supertype_tree}
use Rattle.kt_decls_bounds.proofs.Deciding.{after, not_first}
use Rattle.kt_decls_facts.proofs.Split.{together, together_in}
use Rattle.kt_decls_tops.proofs.meant.are_class_types_meant.Goals as goal

pub returns-then-parameters : goal.returns-then-parameters
returns-then-parameters c = together_in (map declaration_tree c.args.file.now) c.args.scope.now (map (λ p. p.annotation) (map constructor_parameter_tree c.args.declared.now.parameters)) (map (λ s. s.parent) (map supertype_tree c.args.declared.now.supertypes)) c.are_parents_meant.result (after _ c.in_ok-parameters.parameters c.are_parents_meant.result (rw c.as_slice-written.ensures at c.in_ok-parameters.ensures) c.if-parameters.true (rw c.as_slice.ensures at c.are_parents_meant.ensures))

pub returns-else-parameters : goal.returns-else-parameters
returns-else-parameters c = together (map declaration_tree c.args.file.now) c.args.scope.now (map (λ p. p.annotation) (map constructor_parameter_tree c.args.declared.now.parameters)) (map (λ s. s.parent) (map supertype_tree c.args.declared.now.supertypes)) (not_first c.in_ok-parameters.parameters (rw c.as_slice-written.ensures at c.in_ok-parameters.ensures) c.if-parameters.false)
