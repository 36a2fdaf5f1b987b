use Rattle.std.specs.Prelude.{length, map}
use Rattle.std.proofs.Common.{arith, sym, ◌∙◌}
use Rattle.std.proofs.lemmas.List.{length-map}
use Rattle.kt_tree.specs.Declarations.{declaration_tree, function_tree, typed_parameter_tree}
use Rattle.kt_decls_inherited.specs.Sights.{sight_form}
use Rattle.kt_decls_methods.proofs.Well.{all_told, few_told, first_told, not_fine, one_alone, seen_above}
use Rattle.kt_decls_methods.proofs.methods.overrides_well.Goals as goal

pub returns-then-not-fine : goal.returns-then-not-fine
returns-then-not-fine c = not_fine (map declaration_tree c.args.file.now) c.args.row c.args.scope.now (function_tree c.args.function.now) (map sight_form c.in_ok-above.above) (seen_above (map declaration_tree c.args.file.now) c.args.row (function_tree c.args.function.now) c.as_bytes-name.result.now c.len-count.result (map sight_form c.in_ok-above.above) c.in_ok-above.ensures c.as_bytes-name.ensures.value (c.len-count.ensures ∙ sym (length-map c.args.function.now.parameters typed_parameter_tree))) c.in_ok-fine.fine (rw c.as_slice.ensures at c.in_ok-fine.ensures) c.if-not-fine.true

pub returns-then-len-lt2 : goal.returns-then-len-lt2
returns-then-len-lt2 c = one_alone (map declaration_tree c.args.file.now) c.args.row c.args.scope.now (function_tree c.args.function.now) (map sight_form c.in_ok-above.above) (seen_above (map declaration_tree c.args.file.now) c.args.row (function_tree c.args.function.now) c.as_bytes-name.result.now c.len-count.result (map sight_form c.in_ok-above.above) c.in_ok-above.ensures c.as_bytes-name.ensures.value (c.len-count.ensures ∙ sym (length-map c.args.function.now.parameters typed_parameter_tree))) c.in_ok-fine.fine (rw c.as_slice.ensures at c.in_ok-fine.ensures) c.if-not-fine.false (few_told c.in_ok-above.above (omega arith))

pub returns : goal.returns
returns c = all_told (map declaration_tree c.args.file.now) c.args.row c.args.scope.now (function_tree c.args.function.now) (map sight_form c.in_ok-above.above) (seen_above (map declaration_tree c.args.file.now) c.args.row (function_tree c.args.function.now) c.as_bytes-name.result.now c.len-count.result (map sight_form c.in_ok-above.above) c.in_ok-above.ensures c.as_bytes-name.ensures.value (c.len-count.ensures ∙ sym (length-map c.args.function.now.parameters typed_parameter_tree))) c.in_ok-fine.fine (rw c.as_slice.ensures at c.in_ok-fine.ensures) c.if-not-fine.false c.have_one_descriptor.result (first_told (map declaration_tree c.args.file.now) c.args.row (function_tree c.args.function.now) c.as_bytes-name.result.now c.len-count.result c.as_bytes-name.ensures.value (c.len-count.ensures ∙ sym (length-map c.args.function.now.parameters typed_parameter_tree)) c.have_one_descriptor.result c.have_one_descriptor.ensures)
