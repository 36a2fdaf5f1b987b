use Rattle.std.proofs.Common.{rules, subst, ap, ◌∙◌}
use Rattle.std.specs.Prelude.{not, length, map}
use Rattle.kt_typed.specs.Headers.{function_form}
use Rattle.kt_tree.specs.Declarations.{function_tree, typed_parameter_tree}
use Rattle.kt_decls_types.specs.Answers.{Answers}
use Rattle.kt_decls_types.specs.Scopes.{class_named}
use Rattle.kt_decls_names.specs.Taken.{is_taken}
use Rattle.kt_decls_rules.specs.Names.{a_function, are_distinct}
use Rattle.kt_decls_table.proofs.Told.{told_by_tests}
use Rattle.kt_decls_table.proofs.functions.header_beside.Goals as goal

pub returns-clause-header : goal.returns-clause-header
returns-clause-header c =
    let told = told_by_tests (class_named c.args.classes.now) (is_taken c.args.taken.now) c.args.scope (function_tree c.args.function.now) c.in_ok-is_free.is_free c.in_ok-apart.apart c.is_fine_name-fine.result (c.in_ok-is_free.ensures.free ∙ ap (λ n. not (is_taken c.args.taken.now (a_function c.args.function.now.name n))) (c.in_ok-count.ensures ∙ ap (λ ps. length (map typed_parameter_tree ps)) c.as_slice.ensures)) (c.in_ok-apart.ensures ∙ ap (λ ps. are_distinct (map (λ p. p.name) (map typed_parameter_tree ps))) c.as_slice-2.ensures) (search rules) in
    subst (Answers function_form c.header_if.result) told c.header_if.ensures
