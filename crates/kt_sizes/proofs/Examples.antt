-- Worked examples: the weight of small bodies.
use Rattle.std.proofs.Common.{◌≡◌, List, [], ◌∷◌, ◌++◌, replicate, refl}
use Rattle.std.specs.Prelude.{true, false, ℕ, ◌+◌, ◌*◌}
use Rattle.kt_base.specs.declared.refusals.Pos.{Pos}
use Rattle.kt_types_tree.specs.declared.types.TypeConstructor.TheVariants as constructor
use Rattle.kt_types_tree.specs.Types.{TypeForm, typed, of, forms_end}
use Rattle.kt_typed.specs.declared.operators.ArithmeticOperator.TheVariants as arithmetic
use Rattle.kt_typed.specs.declared.operators.BuiltIn.TheVariants as the_built_in
use Rattle.kt_typed.specs.declared.operators.CaptureSource.TheVariants as source
use Rattle.kt_typed.specs.declared.operators.TypedOperator.TheVariants as operator
use Rattle.kt_typed.specs.declared.operators.Width.TheVariants as width
use Rattle.kt_typed.specs.Bodies as e
use Rattle.kt_typed.specs.Bodies.{ExpressionForm, StatementForm, FunForm, expressions_of, statements_of}
use Rattle.kt_typed.specs.Operators.{CaptureForm}
use Rattle.kt_sizes.specs.Counting.{both, behind}
use Rattle.kt_sizes.specs.Weight.{weight}

abbrev at : Pos
at = record { line = 1; column = 1 }

abbrev int_type : TypeForm
int_type = typed false (of constructor.Int forms_end)

abbrev println : List ExpressionForm → StatementForm
println es = e.evaluate at (e.call int_type (e.call_of (e.built_in the_built_in.Println) [] (expressions_of es) false at))

abbrev kept : ℕ → CaptureForm
kept n = record { source = source.Local n; is_variable = false; declared = int_type }

-- { println(a) 165 times, println(b) 165 times, and println() so often }, with the captures a and b
abbrev wide : ℕ → FunForm
wide more =
    e.fun at false (kept 0 ∷ kept 1 ∷ []) 0 [] int_type
    (statements_of (replicate 165 (println (e.captured int_type 0 ∷ []))
    ++ (replicate 165 (println (e.captured int_type 1 ∷ [])) ++ replicate more (println []))))

wide_fits : weight (wide 1) ≡ 32000
unfolding both behind
wide_fits = refl

one_node_more : weight (wide 2) ≡ 32048
unfolding both behind
one_node_more = refl

-- f() + (g() + h()), where each suspends: at h two values wait, so there are two variables
abbrev suspends : ℕ → ExpressionForm
suspends f = e.call int_type (e.call_of (e.function f) [] e.expressions_end true at)

abbrev plus : ExpressionForm → ExpressionForm → ExpressionForm
plus a b = e.binary int_type (operator.Arithmetic arithmetic.Plus width.Int) a b

waiting : weight (e.fun at true [] 0 [] int_type
    (e.statement_then (e.result at (plus (suspends 0) (plus (suspends 1) (suspends 2)))) e.statements_end))
    ≡ 48 * 5 + 24 * 3 * (2 + 8) + 256
unfolding both behind
waiting = refl
