-- Worked examples of control flow: loops, branches, exceptions, null.
use Rattle.std.proofs.Common.{◌≡◌, List, [], ◌∷◌, Some, None, refl}
use Rattle.std.specs.Prelude.{ℤ, pos, true, false, codes}
use Rattle.std.specs.Fmt.{digits}
use Rattle.kt_base.specs.declared.events.Answer.TheVariants as answer
use Rattle.kt_base.specs.declared.events.End.TheVariants as the_end
use Rattle.kt_base.specs.declared.events.Start.TheVariants as start
use Rattle.kt_tree.specs.declared.bodies.PrefixOperator.TheVariants as prefix
use Rattle.kt_tree.specs.declared.bodies.StepOperator.TheVariants as the_step
use Rattle.kt_types_tree.specs.Types.{TypeForm, typed, of, forms_end}
use Rattle.kt_types_tree.specs.declared.types.TypeConstructor.TheVariants as constructor
use Rattle.kt_typed.specs.declared.operators.ArithmeticOperator.TheVariants as arithmetic
use Rattle.kt_typed.specs.declared.operators.BuiltIn.TheVariants as the_built_in
use Rattle.kt_typed.specs.declared.operators.BuiltInMethod.TheVariants as the_method
use Rattle.kt_typed.specs.declared.operators.ComparisonOperator.TheVariants as comparison
use Rattle.kt_typed.specs.declared.operators.Ordered.TheVariants as ordered
use Rattle.kt_typed.specs.declared.operators.ShiftOperator.TheVariants as shift
use Rattle.kt_typed.specs.declared.operators.TypedLiteral.TheVariants as the_literal
use Rattle.kt_typed.specs.declared.operators.TypedOperator.TheVariants as operator
use Rattle.kt_typed.specs.declared.operators.TypedProperty.TheVariants as the_property
use Rattle.kt_typed.specs.declared.operators.Width.TheVariants as width
use Rattle.kt_typed.specs.Bodies as e
use Rattle.kt_typed.specs.Bodies.{ExpressionForm, StatementForm, BlockForm, expressions_of, statements_of, entries_of, conditions_of, catches_of, EntryForm}
use Rattle.kt_typed.specs.Units.{UnitForm}
use Rattle.kt_types_builtins.specs.Throwables.{throwables}
use Rattle.kt_meaning.specs.Classes.{upwards, is_below_within}
use Rattle.kt_meaning.specs.Loops.{while_loop, do_loop}
use Rattle.kt_meaning.specs.Units.{calls, direct}
use Rattle.kt_meaning.proofs.Trees.{at, simple, int_type, text_type, unit_type, no_type, int, null, calculated, call_built_in, println, sentence, block, local_of, body, header, unit_of, main, ends}
use Rattle.kt_meaning.proofs.ClassTrees.{unit_with}

abbrev truth_type : TypeForm
truth_type = simple constructor.Boolean

abbrev less : ExpressionForm → ExpressionForm → ExpressionForm
less a b = e.binary truth_type (operator.Compare comparison.Less (ordered.Numbers width.Int)) a b

abbrev same : ExpressionForm → ExpressionForm → ExpressionForm
same a b = e.binary truth_type operator.Equal a b

abbrev x : ExpressionForm
x = e.local int_type 0

abbrev when_true : ExpressionForm → List StatementForm → StatementForm
when_true a ss = e.evaluate at (e.if_else unit_type a (block ss) e.no_block)

-- var x = 0; while (x < 5) { x++; if (x == 2) continue; if (x == 4) break; println(x) }; println("end")
abbrev loops : UnitForm
loops =
    main (local_of int_type ∷ [])
    (e.declare at 0 (e.some_expression (int (pos 0)))
    ∷ e.while at (less x (int (pos 5))) (block
    (e.step at (e.local_target 0) the_step.Increment width.Int
    ∷ when_true (same x (int (pos 2))) (e.evaluate at (e.continue no_type) ∷ [])
    ∷ when_true (same x (int (pos 4))) (e.evaluate at (e.break no_type) ∷ [])
    ∷ println x ∷ []))
    ∷ println (sentence (codes "end")) ∷ [])

loops_end :
    direct loops 20 start.Main (answer.Done ∷ answer.Done ∷ answer.Done ∷ [])
    ≡ ends (codes "1" ∷ codes "3" ∷ codes "end" ∷ []) the_end.Returned
unfolding calls digits while_loop
loops_end = refl

-- four tests of the condition, three prints and main: eight turns
loops_take_turns : direct loops 7 start.Main (answer.Done ∷ answer.Done ∷ answer.Done ∷ [])
    ≡ ends (codes "1" ∷ codes "3" ∷ []) the_end.TurnsSpent
unfolding calls digits while_loop
loops_take_turns = refl

-- var x = 3; do { x -= 1; if (x == 1) continue; println(x) } while (x < 2 && 0 < x)
abbrev once_more : UnitForm
once_more =
    main (local_of int_type ∷ [])
    (e.declare at 0 (e.some_expression (int (pos 3)))
    ∷ e.do_while at (block
    (e.assign at (e.local_target 0) (Some (operator.Arithmetic arithmetic.Minus width.Int)) (int (pos 1))
    ∷ when_true (same x (int (pos 1))) (e.evaluate at (e.continue no_type) ∷ [])
    ∷ println x ∷ []))
    (e.binary truth_type operator.Conjunction (less (int (pos 0)) x) (less x (int (pos 3))))
    ∷ [])

once_more_ends :
    direct once_more 20 start.Main (answer.Done ∷ answer.Done ∷ [])
    ≡ ends (codes "2" ∷ codes "0" ∷ []) the_end.Returned
unfolding calls digits do_loop
once_more_ends = refl

-- when (x) { null -> println("n"); 1, 2 -> println("s"); is Int -> println("i"); else -> println("e") } in a
-- function of x
abbrev asked : List StatementForm → List ExpressionForm → EntryForm
asked ss es = e.entry (conditions_of (equalities es)) (block ss)
  where
    equalities : List ExpressionForm → List e.ConditionForm
    equalities [] = []
    equalities (a ∷ rest) = e.equals a ∷ equalities rest

abbrev chooses : ExpressionForm → UnitForm
chooses a =
    main (local_of (typed true (of constructor.Int forms_end)) ∷ [])
    (e.declare at 0 (e.some_expression a)
    ∷ e.evaluate at (e.when unit_type (e.some_expression x) (entries_of
    (asked (println (sentence (codes "n")) ∷ []) (null ∷ [])
    ∷ asked (println (sentence (codes "s")) ∷ []) (int (pos 1) ∷ int (pos 2) ∷ [])
    ∷ e.entry (e.condition_then (e.of_type false int_type) e.conditions_end)
    (block (println (sentence (codes "i")) ∷ []))
    ∷ e.entry e.conditions_end (block (println (sentence (codes "e")) ∷ [])) ∷ []))) ∷ [])

chooses_null : direct (chooses null) 9 start.Main (answer.Done ∷ []) ≡ ends (codes "n" ∷ []) the_end.Returned
unfolding calls
chooses_null = refl

chooses_second : direct (chooses (int (pos 2))) 9 start.Main (answer.Done ∷ []) ≡ ends (codes "s" ∷ []) the_end.Returned
unfolding calls
chooses_second = refl

chooses_type : direct (chooses (int (pos 7))) 9 start.Main (answer.Done ∷ []) ≡ ends (codes "i" ∷ []) the_end.Returned
unfolding calls
chooses_type = refl

-- try { println(1 / 0) } catch (e: ArithmeticException) { println(e.message) } finally { println("f") }
abbrev caught : UnitForm
caught =
    unit_with (header (codes "main") ∷ [])
    (body (local_of (simple (constructor.Class 5)) ∷ [])
    (e.evaluate at (e.try_catch unit_type
    (block (println (calculated arithmetic.Divide (int (pos 1)) (int (pos 0))) ∷ []))
    (catches_of (e.catch 0 5 (block (println (e.property (typed true (of constructor.String forms_end))
    (e.plain (e.local (simple (constructor.Class 5)) 0)) (the_property.Declared 0 0)) ∷ [])) ∷ []))
    (e.some_block (block (println (sentence (codes "f")) ∷ [])))) ∷ []) ∷ [])
    [] [] []

caught_ends :
    direct caught 9 start.Main (answer.Done ∷ answer.Done ∷ [])
    ≡ ends (codes "/ by zero" ∷ codes "f" ∷ []) the_end.Returned
unfolding calls digits upwards is_below_within throwables
caught_ends = refl

-- fun g(): Int { while (true) { try { return 1 } finally { break } }; return 2 }, and println(g()) in main
abbrev replaced : UnitForm
replaced =
    unit_of (header (codes "g") ∷ header (codes "main") ∷ [])
    (body []
    (e.while at (e.literal truth_type (the_literal.Boolean true)) (block
    (e.evaluate at (e.try_catch no_type
    (block (e.evaluate at (e.return no_type (e.some_expression (int (pos 1)))) ∷ [])) e.catches_end
    (e.some_block (block (e.evaluate at (e.break no_type) ∷ [])))) ∷ []))
    ∷ e.evaluate at (e.return no_type (e.some_expression (int (pos 2)))) ∷ [])
    ∷ body [] (println (e.call int_type (e.call_of (e.function 0) [] e.expressions_end false at)) ∷ [])
    ∷ [])

replaced_ends : direct replaced 9 start.Main (answer.Done ∷ []) ≡ ends (codes "2" ∷ []) the_end.Returned
unfolding calls digits while_loop
replaced_ends = refl

-- a cast that fails, and one that gives null: println(("a" as? Int) ?: 1); "a" as Int
abbrev casts : UnitForm
casts =
    main []
    (println (e.binary int_type operator.Elvis
    (e.cast (typed true (of constructor.Int forms_end)) (sentence (codes "a")) true int_type) (int (pos 1)))
    ∷ e.evaluate at (e.cast int_type (sentence (codes "a")) false int_type) ∷ [])

casts_end :
    direct casts 9 start.Main (answer.Done ∷ [])
    ≡ ends (codes "1" ∷ []) (the_end.Uncaught (codes "java/lang/ClassCastException") None)
unfolding calls digits throwables
casts_end = refl

-- println(null?.length); println("abc".substring(1, 2)); println("abc".substring(2, 1))
abbrev cut : ℤ → ℤ → ExpressionForm
cut m n =
    e.call text_type (e.call_of (e.built_in_method (e.plain (sentence (codes "abc"))) the_method.Substring) []
    (expressions_of (int m ∷ int n ∷ [])) false at)

abbrev texts : UnitForm
texts =
    main []
    (println (e.property int_type (e.safe null) the_property.Length) ∷ println (cut (pos 1) (pos 2)) ∷ println
    (cut (pos 2) (pos 1)) ∷ [])

texts_end :
    direct texts 9 start.Main (answer.Done ∷ answer.Done ∷ [])
    ≡ ends (codes "null" ∷ codes "b" ∷ [])
    (the_end.Uncaught (codes "java/lang/StringIndexOutOfBoundsException") (Some (codes "2")))
unfolding calls digits throwables
texts_end = refl

-- println(1L shl 65); println(-7 / 2); println(-7 % 2); IntArray(-1)
abbrev numbers : UnitForm
numbers =
    main []
    (println (e.binary (simple constructor.Long) (operator.Shift shift.Shl width.Long)
    (e.literal (simple constructor.Long) (the_literal.Long (pos 1))) (int (pos 65)))
    ∷ println (calculated arithmetic.Divide (e.prefix int_type prefix.Negate (int (pos 7))) (int (pos 2)))
    ∷ println (calculated arithmetic.Remainder (e.prefix int_type prefix.Negate (int (pos 7))) (int (pos 2)))
    ∷ e.evaluate at (call_built_in the_built_in.IntArray (e.prefix int_type prefix.Negate (int (pos 1)) ∷ [])) ∷ [])

numbers_end :
    direct numbers 9 start.Main (answer.Done ∷ answer.Done ∷ answer.Done ∷ [])
    ≡ ends (codes "2" ∷ codes "-3" ∷ codes "-1" ∷ [])
    (the_end.Uncaught (codes "java/lang/NegativeArraySizeException") (Some (codes "-1")))
unfolding calls digits throwables
numbers_end = refl
