use Rattle.std.proofs.Common.{◌≡◌, ◌≤◌, ◌++◌, length, sym, ap, subst, ◌∙◌}
use Rattle.std.specs.Prelude.{IfOk, map, drop}
use Rattle.kt_typed.specs.declared.bodies.TypedFun.{out-TypedFun}
use Rattle.kt_typed.specs.Operators.{local_form}
use Rattle.kt_meaning.specs.Classes as classes
use Rattle.kt_direct_values.specs.Forms.{value_form}
use Rattle.kt_direct_scope.proofs.Blanks.{rest_is, with_others, without_others}
use Rattle.kt_direct_scope.proofs.here.variables_of.Goals as goal

pub returns-then-known-locals : goal.returns-then-known-locals
returns-then-known-locals c =
    subst (λ all. IfOk c.with_blanks.result (λ xs. map value_form xs.items ≡ all))
    (ap (λ ls. map value_form c.args.arguments.items ++ map (λ l. classes.blank l.declared) (map local_form ls))
    (rest_is (length c.as_slice-given.result.now) c.as_slice-locals.result.now)
    ∙ ap (λ xs. map value_form c.args.arguments.items ++ map (λ l. classes.blank l.declared)
    (map local_form (drop (length xs) c.as_slice-locals.result.now))) c.as_slice-given.ensures.value
    ∙ ap (λ ls. map value_form c.args.arguments.items ++ map (λ l. classes.blank l.declared)
    (map local_form (drop (length c.args.arguments.items) ls))) c.as_slice-locals.ensures
    ∙ with_others c.args.body.now c.args.arguments.items)
    c.with_blanks.ensures

pub returns-else-known-locals : goal.returns-else-known-locals
returns-else-known-locals c =
    without_others c.args.body.now c.args.arguments.items
    (subst (λ xs. length (out-TypedFun c.args.body.now).locals ≤ length xs) c.as_slice-given.ensures.value
    (subst (λ ls. length ls ≤ length c.as_slice-given.result.now) c.as_slice-locals.ensures c.if-known-locals.false))
