-- Worked examples of classes: dispatch, enums, construction, `this` in a lambda, `toString`.
use Rattle.std.proofs.Common.{◌≡◌, List, [], ◌∷◌, Option, Some, None, refl}
use Rattle.std.specs.Prelude.{ℕ, pos, false, codes}
use Rattle.std.specs.Fmt.{digits}
use Rattle.kt_base.specs.declared.events.Answer.TheVariants as answer
use Rattle.kt_base.specs.declared.events.End.TheVariants as the_end
use Rattle.kt_base.specs.declared.events.Start.TheVariants as start
use Rattle.kt_types_tree.specs.Types.{TypeForm}
use Rattle.kt_types_tree.specs.declared.hierarchy.ClassKind.TheVariants as the_kind
use Rattle.kt_types_tree.specs.declared.types.TypeConstructor.TheVariants as constructor
use Rattle.kt_typed.specs.declared.headers.DeclaredEntry.{DeclaredEntry}
use Rattle.kt_typed.specs.declared.operators.ArithmeticOperator.TheVariants as arithmetic
use Rattle.kt_typed.specs.declared.operators.CaptureSource.TheVariants as source
use Rattle.kt_typed.specs.declared.operators.TypedOperator.TheVariants as operator
use Rattle.kt_typed.specs.declared.operators.TypedProperty.TheVariants as the_property
use Rattle.kt_typed.specs.declared.operators.Width.TheVariants as width
use Rattle.kt_typed.specs.declared.headers.DeclarationNumber.TheVariants as number
use Rattle.kt_typed.specs.declared.headers.MemberNumber.TheVariants as member
use Rattle.kt_typed.specs.Bodies as e
use Rattle.kt_typed.specs.Bodies.{ExpressionForm, StatementForm, FunForm, expressions_of, statements_of, parts_of}
use Rattle.kt_typed.specs.Headers.{ClassParameterForm}
use Rattle.kt_typed.specs.Operators.{CaptureForm}
use Rattle.kt_typed.specs.Units.{UnitForm, ClassBodies}
use Rattle.kt_types_builtins.specs.Throwables.{throwables}
use Rattle.kt_meaning.specs.Classes.{upwards, is_below_within}
use Rattle.kt_meaning.specs.Units.{calls, direct}
use Rattle.kt_meaning.proofs.Trees.{at, simple, int_type, text_type, unit_type, int, calculated, println, said, local_of, body, header, ends}
use Rattle.kt_meaning.proofs.ClassTrees.{unit_with, class, property, under, row}

abbrev class_type : ℕ → TypeForm
class_type c = simple (constructor.Class c)

abbrev parameter : List ℕ → Option ℕ → ClassParameterForm
parameter name property = record { name = name; annotation = int_type; property = property }

abbrev built : ℕ → List ExpressionForm → ExpressionForm
built c es = e.call (class_type c) (e.call_of (e.constructor_of c) [] (expressions_of es) false at)

abbrev of_this : TypeForm → ℕ → ℕ → ExpressionForm
of_this t c place = e.property t e.implicit (the_property.Declared c place)

abbrev method_of : ExpressionForm → ℕ → ℕ → ExpressionForm
method_of a c place = e.call int_type (e.call_of (e.method (e.plain a) c place) [] e.expressions_end false at)

abbrev gives : ExpressionForm → FunForm
gives a = e.fun at false [] 0 [] int_type (e.statement_then (e.result at a) e.statements_end)

-- a class with one parameter at most: its constructor, and the bodies of its functions
abbrev bodies : ℕ → List StatementForm → List FunForm → ClassBodies
bodies parameters ss functions =
    record {
      constructor = Some (e.fun at false [] parameters (local_of int_type ∷ []) unit_type (statements_of ss));
      functions = present functions;
    }
  where
    present : List FunForm → List (Option FunForm)
    present [] = []
    present (f ∷ fs) = Some f ∷ present fs

-- open class Shape(val at: Int) { open fun area(): Int { return 0 } }
-- class Square(at: Int, val side: Int) : Shape(at) { override fun area(): Int { return side * side } }
-- val s: Shape = Square(4, 3); println(s.at); println(s.area())
abbrev shapes : UnitForm
shapes =
    unit_with (header (codes "main") ∷ [])
    (body (local_of (class_type 12) ∷ [])
    (e.declare at 0 (e.some_expression (built 13 (int (pos 4) ∷ int (pos 3) ∷ [])))
    ∷ println (e.property int_type (e.plain (e.local (class_type 12) 0)) (the_property.Declared 12 0))
    ∷ println (method_of (e.local (class_type 12) 0) 12 0) ∷ []) ∷ [])
    (row the_kind.Class [] ∷ under 12 ∷ [])
    (class the_kind.Class (codes "Shape") (parameter (codes "at") (Some 0) ∷ []) (property (codes "at") int_type ∷ [])
    (header (codes "area") ∷ [])
    ∷ class the_kind.Class (codes "Square")
    (parameter (codes "at") None ∷ parameter (codes "side") (Some 0) ∷ []) (property (codes "side") int_type ∷ [])
    (header (codes "area") ∷ []) ∷ [])
    (bodies 1 [] (gives (int (pos 0)) ∷ [])
    ∷ record (bodies 1 [] (gives (calculated arithmetic.Times (of_this int_type 13 0) (of_this int_type 13 0)) ∷ [])) {
      constructor = Some (e.fun at false [] 2 (local_of int_type ∷ local_of int_type ∷ []) unit_type
          (e.statement_then (e.superclass at (expressions_of (e.local int_type 0 ∷ []))) e.statements_end));
    } ∷ [])

shapes_end : direct shapes 20 start.Main (answer.Done ∷ answer.Done ∷ []) ≡ ends
    (codes "4" ∷ codes "9" ∷ []) the_end.Returned
unfolding calls digits upwards is_below_within throwables
shapes_end = refl

-- enum class Color { RED, GREEN }; println(Color.GREEN); println(Color.RED == Color.GREEN);
-- println(Color.GREEN.ordinal)
abbrev colour : List ℕ → DeclaredEntry
colour name = record { at = at; name = name }

abbrev green : ExpressionForm
green = e.enum_entry (class_type 12) 12 1

abbrev colours : UnitForm
colours =
    unit_with (header (codes "main") ∷ [])
    (body []
    (println green
    ∷ println (e.binary (simple constructor.Boolean) operator.Equal (e.enum_entry (class_type 12) 12 0) green)
    ∷ println (e.property int_type (e.plain green) the_property.Ordinal) ∷ []) ∷ [])
    (row the_kind.Enum [] ∷ [])
    (record (class the_kind.Enum (codes "Color") [] [] []) {
      entries = colour (codes "RED") ∷ colour (codes "GREEN")
          ∷ [];
    } ∷ [])
    (record { constructor = None; functions = [] } ∷ [])

-- nine turns: main, four entries, three prints and one to spare
colours_end :
    direct colours 9 start.Main (answer.Done ∷ answer.Done ∷ answer.Done ∷ [])
    ≡ ends (codes "GREEN" ∷ codes "false" ∷ codes "1" ∷ []) the_end.Returned
unfolding calls digits upwards is_below_within throwables
colours_end = refl

-- open class A(val x: Int) { val y: Int = x + 1 }; class B : A(5) { val z: Int = y + 1; override fun toString():
-- String { return "B$z" } }
-- println("${B()}!")
abbrev ordered : UnitForm
ordered =
    unit_with (header (codes "main") ∷ [])
    (body []
    (println (e.template text_type (parts_of (e.printed (built 13 []) ∷ said (codes "!") ∷ []))) ∷ []) ∷ [])
    (row the_kind.Class [] ∷ under 12 ∷ [])
    (class the_kind.Class (codes "A") (parameter (codes "x") (Some 0) ∷ [])
    (property (codes "x") int_type ∷ property (codes "y") int_type ∷ []) []
    ∷ class the_kind.Class (codes "B") [] (property (codes "z") int_type ∷ []) (header (codes "toString") ∷ []) ∷ [])
    (bodies 1 (e.initialize at 1 (calculated arithmetic.Plus (e.local int_type 0) (int (pos 1))) ∷ []) []
    ∷ bodies 0
    (e.superclass at (expressions_of (int (pos 5) ∷ []))
    ∷ e.initialize at 0 (calculated arithmetic.Plus (of_this int_type 12 1) (int (pos 1))) ∷ [])
    (gives (e.template text_type (parts_of (said (codes "B") ∷ e.printed (of_this int_type 13 0) ∷ []))) ∷ [])
    ∷ [])

ordered_ends : direct ordered 20 start.Main (answer.Done ∷ []) ≡ ends (codes "B7!" ∷ []) the_end.Returned
unfolding calls digits upwards is_below_within throwables
ordered_ends = refl

-- class C(var n: Int) { fun f(): () -> Unit { return { n += 2 } } }; val c = C(1); c.f()(); println(c.n)
abbrev lambda_type : TypeForm
lambda_type = simple (constructor.Function false)

abbrev own : CaptureForm
own = record { source = source.This; is_variable = false; declared = class_type 12 }

abbrev adding : ExpressionForm
adding =
    e.lambda lambda_type 0 (e.fun at false (own ∷ []) 0 [] unit_type
    (statements_of (e.assign at (e.property_target e.implicit (the_property.Declared 12 0))
    (Some (operator.Arithmetic arithmetic.Plus width.Int)) (int (pos 2)) ∷ [])))

abbrev owners : UnitForm
owners =
    with_classes (unit_with (header (codes "main") ∷ [])
    (body (local_of (class_type 12) ∷ [])
    (e.declare at 0 (e.some_expression (built 12 (int (pos 1) ∷ [])))
    ∷ e.evaluate at (e.call unit_type (e.call_of
    (e.value (method_of (e.local (class_type 12) 0) 12 0) false) [] e.expressions_end false at))
    ∷ println (e.property int_type (e.plain (e.local (class_type 12) 0)) (the_property.Declared 12 0)) ∷ []) ∷ [])
    (row the_kind.Class [] ∷ [])
    (record (class the_kind.Class (codes "C") (parameter (codes "n") (Some 0) ∷ []) (property (codes "n") int_type ∷ [])
    (header (codes "f") ∷ [])) { members = member.Function 0 ∷ [] } ∷ [])
    (bodies 1 [] (gives adding ∷ []) ∷ []))
  where
    with_classes : UnitForm → UnitForm
    with_classes u = record u { headers = record u.headers { order = number.Function 0 ∷ number.Class 12 ∷ [] } }

owners_end : direct owners 20 start.Main (answer.Done ∷ []) ≡ ends (codes "3" ∷ []) the_end.Returned
unfolding calls digits upwards is_below_within throwables
owners_end = refl
