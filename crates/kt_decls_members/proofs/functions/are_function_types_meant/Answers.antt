use Rattle.std.specs.Prelude.{map}
use Rattle.kt_tree.specs.Types.{maybe_type}
use Rattle.kt_tree.specs.Declarations.{declaration_tree, typed_parameter_tree}
use Rattle.kt_decls_bounds.proofs.Deciding.{after, not_first}
use Rattle.kt_decls_facts.proofs.Split.{together, together_in}
use Rattle.kt_decls_rules.specs.Rules.{written}
use Rattle.kt_decls_members.proofs.functions.are_function_types_meant.Goals as goal

pub returns-then-parameters : goal.returns-then-parameters
returns-then-parameters c = together_in (map declaration_tree c.args.file.now) c.args.scope.now (map (λ p. p.annotation) (map typed_parameter_tree c.args.function.now.parameters)) (written (maybe_type c.args.function.now.result)) c.is_meant_if.result (after _ c.in_ok-parameters.parameters c.is_meant_if.result (rw c.as_slice.ensures at c.in_ok-parameters.ensures) c.if-parameters.true c.is_meant_if.ensures)

pub returns-else-parameters : goal.returns-else-parameters
returns-else-parameters c = together (map declaration_tree c.args.file.now) c.args.scope.now (map (λ p. p.annotation) (map typed_parameter_tree c.args.function.now.parameters)) (written (maybe_type c.args.function.now.result)) (not_first c.in_ok-parameters.parameters (rw c.as_slice.ensures at c.in_ok-parameters.ensures) c.if-parameters.false)
