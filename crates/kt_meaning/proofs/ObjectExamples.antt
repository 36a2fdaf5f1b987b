-- Worked examples with objects, exceptions, lambdas and coroutines.
use Rattle.std.proofs.Common.{◌≡◌, ℕ, List, [], ◌∷◌, Some, None, refl}
use Rattle.std.specs.Prelude.{pos, negsuc, true, false, codes}
use Rattle.std.specs.Fmt.{digits}
use Rattle.kt_base.specs.declared.lumps.Node.TheVariants as node
use Rattle.kt_base.specs.declared.events.Fate.TheVariants as fate
use Rattle.kt_base.specs.declared.events.Event.TheVariants as event
use Rattle.kt_base.specs.declared.events.Answer.TheVariants as answer
use Rattle.kt_base.specs.declared.events.End.TheVariants as the_end
use Rattle.kt_base.specs.declared.events.Start.TheVariants as start
use Rattle.kt_types_tree.specs.declared.types.TypeConstructor.TheVariants as constructor
use Rattle.kt_types_tree.specs.declared.hierarchy.ClassKind.TheVariants as the_kind
use Rattle.kt_types_tree.specs.Types.{TypeForm, typed, of, forms_end}
use Rattle.kt_typed.specs.declared.operators.ArithmeticOperator.TheVariants as arithmetic
use Rattle.kt_typed.specs.declared.operators.BuiltIn.TheVariants as the_built_in
use Rattle.kt_typed.specs.declared.operators.BuiltInMethod.TheVariants as the_method
use Rattle.kt_typed.specs.declared.operators.CaptureSource.TheVariants as source
use Rattle.kt_typed.specs.declared.operators.LocalKind.TheVariants as kind
use Rattle.kt_typed.specs.declared.operators.TypedOperator.TheVariants as operator
use Rattle.kt_typed.specs.declared.operators.TypedProperty.TheVariants as the_property
use Rattle.kt_typed.specs.declared.operators.Width.TheVariants as width
use Rattle.kt_typed.specs.Bodies as e
use Rattle.kt_typed.specs.Bodies.{ExpressionForm, StatementForm, FunForm, expressions_of, statements_of}
use Rattle.kt_typed.specs.Operators.{LocalForm, CaptureForm}
use Rattle.kt_typed.specs.Units.{UnitForm}
use Rattle.kt_types_builtins.specs.Throwables.{throwables}
use Rattle.kt_meaning.specs.Classes.{upwards, is_below_within}
use Rattle.kt_meaning.specs.Lumps.{exported}
use Rattle.kt_meaning.specs.Units.{calls, direct}
use Rattle.kt_meaning.proofs.Trees.{at, simple, int_type, unit_type, no_type, int, calculated, call_built_in, println, sentence, block, local_of, body, header, unit_of, main, ends}
use Rattle.kt_meaning.proofs.ClassTrees.{unit_with, class, property, under, row}

abbrev variable : LocalForm
variable = record { name = codes "n"; kind = kind.Var; declared = int_type }

abbrev taken : LocalForm → CaptureForm
taken l = record { source = source.Local 0; is_variable = true; declared = l.declared }

abbrev kept : CaptureForm
kept = record { source = source.Local 0; is_variable = false; declared = int_type }

abbrev lambda_type : TypeForm
lambda_type = simple (constructor.Function false)

-- a lambda without parameters
abbrev lambda : ℕ → List CaptureForm → List StatementForm → ExpressionForm
lambda n captures ss = e.lambda lambda_type n (e.fun at false captures 0 [] unit_type (statements_of ss))

abbrev called : ℕ → StatementForm
called f =
    e.evaluate at (e.call unit_type (e.call_of (e.value (e.local lambda_type f) true) [] e.expressions_end false at))

-- var n = 1; val f: () -> Unit = { n = n + 1 }; f(); f(); println(n)
abbrev shared : UnitForm
shared =
    main (variable ∷ local_of lambda_type ∷ [])
    (e.declare at 0 (e.some_expression (int (pos 1)))
    ∷ e.declare at 1 (e.some_expression (lambda 0 (taken variable ∷ [])
    (e.assign at (e.captured_target 0) None (calculated arithmetic.Plus (e.captured int_type 0) (int (pos 1))) ∷ [])))
    ∷ called 1 ∷ called 1 ∷ println (e.local int_type 0) ∷ [])

shared_ends : direct shared 10 start.Main (answer.Done ∷ []) ≡ ends (codes "3" ∷ []) the_end.Returned
unfolding calls digits
shared_ends = refl

-- five turns: main, the literal, two calls of the lambda, and println
shared_takes_turns : direct shared 4 start.Main (answer.Done ∷ []) ≡ ends [] the_end.TurnsSpent
unfolding calls digits
shared_takes_turns = refl

-- println(suspendCoroutine<Int> { c -> c.resume(5) })
abbrev early : UnitForm
early =
    main []
    (println (call_built_in the_built_in.SuspendCoroutine
    (e.lambda lambda_type 0 (e.fun at false [] 1 (local_of (simple constructor.Continuation) ∷ []) unit_type
    (statements_of (e.evaluate at (e.call unit_type (e.call_of
    (e.built_in_method (e.plain (e.local (simple constructor.Continuation) 0)) the_method.Resume) []
    (expressions_of (int (pos 5) ∷ [])) false at)) ∷ []))) ∷ [])) ∷ [])

early_ends :
    direct early 10 start.Main
    (answer.Number 1 ∷ answer.Won ∷ answer.Outcome (fate.Value (node.Int (pos 5) ∷ [])) ∷ answer.Done ∷ [])
    ≡ record {
      events =
          event.Draw ∷ event.Resume 1 (fate.Value (node.Int (pos 5) ∷ [])) ∷ event.Await 1 ∷ event.Print
          (codes "5") ∷ [];
      end = Some the_end.Returned;
    }
unfolding calls digits exported throwables
early_ends = refl

early_waits :
    direct early 10 start.Main (answer.Number 1 ∷ answer.Won ∷ [])
    ≡ record {
      events = event.Draw ∷ event.Resume 1 (fate.Value (node.Int (pos 5) ∷ [])) ∷ event.Await 1 ∷ [];
      end = None;
    }
unfolding calls digits exported throwables
early_waits = refl

late_is_thrown :
    direct early 10 start.Main (answer.Number 1 ∷ answer.Lost ∷ [])
    ≡ record {
      events = event.Draw ∷ event.Resume 1 (fate.Value (node.Int (pos 5) ∷ [])) ∷ [];
      end = Some (the_end.Uncaught (codes "java/lang/IllegalStateException") (Some (codes "Already resumed")));
    }
unfolding calls digits exported throwables
late_is_thrown = refl

-- val i = 7; launch { println(i) }
abbrev launches : UnitForm
launches =
    main (local_of int_type ∷ [])
    (e.declare at 0 (e.some_expression (int (pos 7)))
    ∷ e.evaluate at (call_built_in the_built_in.Launch
    (lambda 0 (kept ∷ []) (println (e.captured int_type 0) ∷ []) ∷ []))
    ∷ [])

launches_ends :
    direct launches 10 start.Main (answer.Number 1 ∷ [])
    ≡ record {
      events = event.Launch (node.Object (codes "MainKt$L1") 1 ∷ node.Int (pos 7) ∷ []) ∷ [];
      end = Some the_end.Returned;
    }
unfolding calls digits exported throwables
launches_ends = refl

launched_ends :
    direct launches 10 (start.Launched (node.Object (codes "MainKt$L1") 1 ∷ node.Int (pos 7) ∷ [])) (answer.Done ∷ [])
    ≡ ends (codes "7" ∷ []) the_end.Returned
unfolding calls digits exported throwables
launched_ends = refl

-- data class Point(val x: Int, val y: Int); println(Point(1, 2)); println(Point(1, 2) == Point(1, 2))
abbrev point_type : TypeForm
point_type = simple (constructor.Class 12)

abbrev point : ExpressionForm
point =
    e.call point_type (e.call_of (e.constructor_of 12) [] (expressions_of (int (pos 1) ∷ int (pos 2) ∷ [])) false at)

abbrev points : UnitForm
points =
    unit_with (header (codes "main") ∷ [])
    (body [] (println point ∷ println (e.binary (simple constructor.Boolean) operator.Equal point point) ∷ []) ∷ [])
    (row the_kind.DataClass [] ∷ [])
    (class the_kind.DataClass (codes "Point")
    (record { name = codes "x"; annotation = int_type; property = Some 0 }
    ∷ record { name = codes "y"; annotation = int_type; property = Some 1 } ∷ [])
    (property (codes "x") int_type ∷ property (codes "y") int_type ∷ []) [] ∷ [])
    (record {
      constructor = Some (e.fun at false [] 2 (local_of int_type ∷ local_of int_type ∷ []) unit_type e.statements_end);
      functions = [];
    } ∷ [])

points_end :
    direct points 20 start.Main (answer.Done ∷ answer.Done ∷ [])
    ≡ ends (codes "Point(x=1, y=2)" ∷ codes "true" ∷ []) the_end.Returned
unfolding calls digits upwards is_below_within throwables
points_end = refl

-- class Failure : Exception("no"); try { throw Failure() } catch (e: RuntimeException) {} catch (e: Exception) {
-- println(e.message) }
abbrev failure_type : TypeForm
failure_type = simple (constructor.Class 12)

abbrev message_of : ExpressionForm → ExpressionForm
message_of x = e.property (typed true (of constructor.String forms_end)) (e.plain x) (the_property.Declared 0 0)

abbrev failures : UnitForm
failures =
    unit_with (header (codes "main") ∷ [])
    (body (local_of failure_type ∷ local_of failure_type ∷ [])
    (e.evaluate at (e.try_catch unit_type
    (e.block e.statements_end (e.some_expression (e.throw no_type
    (e.call failure_type (e.call_of (e.constructor_of 12) [] e.expressions_end false at)))))
    (e.catch_then (e.catch 0 2 (block []))
    (e.catch_then (e.catch 1 1 (block (println (message_of (e.local failure_type 1)) ∷ []))) e.catches_end))
    e.no_block) ∷ []) ∷ [])
    (under 1 ∷ [])
    (class the_kind.Class (codes "Failure") [] [] [] ∷ [])
    (record {
      constructor = Some (e.fun at false [] 0 [] unit_type
          (e.statement_then (e.superclass at (expressions_of (sentence (codes "no") ∷ []))) e.statements_end));
      functions = [];
    } ∷ [])

failures_end : direct failures 20 start.Main (answer.Done ∷ []) ≡ ends (codes "no" ∷ []) the_end.Returned
unfolding calls digits upwards is_below_within throwables
failures_end = refl

-- fun at(): Int { println("i"); return 0 }, and in main: val a = IntArray(1); a[at()] += 2; println(a[0])
abbrev once : UnitForm
once =
    unit_of (header (codes "at") ∷ header (codes "main") ∷ [])
    (body [] (println (sentence (codes "i")) ∷ e.result at (int (pos 0)) ∷ [])
    ∷ body (local_of (simple constructor.IntArray) ∷ [])
    (e.declare at 0 (e.some_expression (call_built_in the_built_in.IntArray (int (pos 1) ∷ [])))
    ∷ e.assign at
    (e.element_target (e.local (simple constructor.IntArray) 0)
    (e.call int_type (e.call_of (e.function 0) [] e.expressions_end false at)))
    (Some (operator.Arithmetic arithmetic.Plus width.Int)) (int (pos 2))
    ∷ println (e.index int_type (e.local (simple constructor.IntArray) 0) (int (pos 0))) ∷ [])
    ∷ [])

once_ends :
    direct once 10 start.Main (answer.Done ∷ answer.Done ∷ []) ≡ ends (codes "i" ∷ codes "2" ∷ []) the_end.Returned
unfolding calls digits
once_ends = refl

-- a bad index: val a = IntArray(1); println(a[-1])
abbrev outside : UnitForm
outside =
    main (local_of (simple constructor.IntArray) ∷ [])
    (e.declare at 0 (e.some_expression (call_built_in the_built_in.IntArray (int (pos 1) ∷ [])))
    ∷ println (e.index int_type (e.local (simple constructor.IntArray) 0) (int (negsuc 0))) ∷ [])

outside_ends :
    direct outside 10 start.Main []
    ≡ ends [] (the_end.Uncaught (codes "java/lang/ArrayIndexOutOfBoundsException") (Some (codes "-1")))
unfolding calls digits throwables
outside_ends = refl
