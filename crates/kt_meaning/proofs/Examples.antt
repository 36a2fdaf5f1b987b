-- Worked examples: small units, what their coroutine does on its answers.
use Rattle.std.proofs.Common.{◌≡◌, [], ◌∷◌, Some, None, refl}
use Rattle.std.specs.Prelude.{pos, true, false, codes}
use Rattle.std.specs.Fmt.{digits}
use Rattle.kt_base.specs.declared.events.Answer.TheVariants as answer
use Rattle.kt_base.specs.declared.events.End.TheVariants as the_end
use Rattle.kt_base.specs.declared.events.Start.TheVariants as start
use Rattle.kt_tree.specs.declared.bodies.PrefixOperator.TheVariants as prefix
use Rattle.kt_tree.specs.declared.bodies.RangeOperator.TheVariants as range
use Rattle.kt_types_tree.specs.Types.{typed, of, forms_end}
use Rattle.kt_types_tree.specs.declared.types.TypeConstructor.TheVariants as constructor
use Rattle.kt_typed.specs.declared.operators.ArithmeticOperator.TheVariants as arithmetic
use Rattle.kt_typed.specs.declared.operators.TypedOperator.TheVariants as operator
use Rattle.kt_typed.specs.declared.operators.BuiltIn.TheVariants as the_built_in
use Rattle.kt_typed.specs.Bodies as e
use Rattle.kt_typed.specs.Bodies.{StatementForm, parts_of}
use Rattle.kt_typed.specs.Units.{UnitForm}
use Rattle.kt_types_builtins.specs.Throwables.{throwables}
use Rattle.kt_meaning.specs.Loops.{while_loop, for_loop}
use Rattle.kt_meaning.specs.Units.{calls, direct}
use Rattle.kt_meaning.proofs.Trees.{at, int_type, text_type, no_type, int, null, yes_literal, calculated, call_built_in, println, said, sentence, block, local_of, body, header, unit_of, main, ends}

-- println(2 + 3 * 4)
abbrev sum : UnitForm
sum =
    main [] (println (calculated arithmetic.Plus (int (pos 2))
    (calculated arithmetic.Times (int (pos 3)) (int (pos 4)))) ∷ [])

sum_ends : direct sum 10 start.Main (answer.Done ∷ []) ≡ ends (codes "14" ∷ []) the_end.Returned
unfolding calls digits
sum_ends = refl

sum_waits : (direct sum 10 start.Main []).end ≡ None
unfolding calls digits
sum_waits = refl

-- println((-2147483647 - 1) / -1)
abbrev least : UnitForm
least =
    main []
    (println (calculated arithmetic.Divide
    (calculated arithmetic.Minus (e.prefix int_type prefix.Negate (int (pos 2147483647))) (int (pos 1)))
    (e.prefix int_type prefix.Negate (int (pos 1)))) ∷ [])

least_ends : direct least 10 start.Main (answer.Done ∷ []) ≡ ends (codes "-2147483648" ∷ []) the_end.Returned
unfolding calls digits
least_ends = refl

-- println(1 / 0)
abbrev zero_divisor : UnitForm
zero_divisor = main [] (println (calculated arithmetic.Divide (int (pos 1)) (int (pos 0))) ∷ [])

zero_divisor_ends :
    direct zero_divisor 10 start.Main []
    ≡ ends [] (the_end.Uncaught (codes "java/lang/ArithmeticException") (Some (codes "/ by zero")))
unfolding calls digits throwables
zero_divisor_ends = refl

-- for (i in 2147483646..2147483647) println(i)
abbrev greatest : UnitForm
greatest =
    main (local_of int_type ∷ [])
    (e.for at 0 (int (pos 2147483646)) range.Through (int (pos 2147483647)) (block (println (e.local int_type 0) ∷ []))
    ∷ [])

greatest_ends :
    direct greatest 10 start.Main (answer.Done ∷ answer.Done ∷ [])
    ≡ ends (codes "2147483646" ∷ codes "2147483647" ∷ []) the_end.Returned
unfolding calls digits for_loop
greatest_ends = refl

-- while (true) {}
abbrev endless : UnitForm
endless = main [] (e.while at yes_literal (block []) ∷ [])

endless_ends : direct endless 100 start.Main [] ≡ ends [] the_end.TurnsSpent
unfolding calls while_loop
endless_ends = refl

-- val x: Int? = null; println(x ?: 5); println("$x and ${println("a")}")
abbrev nulls : UnitForm
nulls =
    main (local_of (typed true (of constructor.Int forms_end)) ∷ [])
    (e.declare at 0 (e.some_expression null)
    ∷ println (e.binary int_type operator.Elvis (e.local int_type 0) (int (pos 5)))
    ∷ println (e.template text_type (parts_of
    (e.printed (e.local int_type 0) ∷ said (codes " and ")
    ∷ e.printed (call_built_in the_built_in.Println (sentence (codes "a") ∷ [])) ∷ [])))
    ∷ [])

nulls_end :
    direct nulls 10 start.Main (answer.Done ∷ answer.Done ∷ answer.Done ∷ [])
    ≡ ends (codes "5" ∷ codes "a" ∷ codes "null and kotlin.Unit" ∷ []) the_end.Returned
unfolding calls digits
nulls_end = refl

-- fun g(): Int { try { return 1 } finally { println("f") } }, and println(g()) in main
abbrev last : UnitForm
last =
    unit_of (header (codes "g") ∷ header (codes "main") ∷ [])
    (body []
    (e.evaluate at (e.try_catch no_type
    (e.block e.statements_end (e.some_expression (e.return no_type (e.some_expression (int (pos 1)))))) e.catches_end
    (e.some_block (block (println (sentence (codes "f")) ∷ [])))) ∷ [])
    ∷ body [] (println (e.call int_type (e.call_of (e.function 0) [] e.expressions_end false at)) ∷ [])
    ∷ [])

last_ends :
    direct last 10 start.Main (answer.Done ∷ answer.Done ∷ []) ≡ ends (codes "f" ∷ codes "1" ∷ []) the_end.Returned
unfolding calls digits
last_ends = refl
