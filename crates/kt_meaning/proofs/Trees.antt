-- Small typed trees for the worked examples.
use Rattle.std.specs.Prelude.{ℕ, ℤ, true, false, List, [], ◌∷◌, Some, None, codes}
use Rattle.kt_base.specs.declared.refusals.Pos.{Pos}
use Rattle.kt_base.specs.declared.lumps.Lump.{Lump}
use Rattle.kt_base.specs.declared.events.Event.{Event}
use Rattle.kt_base.specs.declared.events.Event.TheVariants as event
use Rattle.kt_base.specs.declared.events.End.{End}
use Rattle.kt_base.specs.Meaning.{Course}
use Rattle.kt_tree.specs.declared.bodies.TextPart.TheVariants as part
use Rattle.kt_types_tree.specs.declared.types.TypeConstructor.{TypeConstructor}
use Rattle.kt_types_tree.specs.declared.types.TypeConstructor.TheVariants as constructor
use Rattle.kt_types_tree.specs.Types.{TypeForm, typed, of, nothing, forms_end}
use Rattle.kt_typed.specs.declared.operators.LocalKind.TheVariants as kind
use Rattle.kt_typed.specs.declared.operators.Width.TheVariants as width
use Rattle.kt_typed.specs.declared.operators.ArithmeticOperator.{ArithmeticOperator}
use Rattle.kt_typed.specs.declared.operators.TypedLiteral.TheVariants as the_literal
use Rattle.kt_typed.specs.declared.operators.TypedOperator.TheVariants as operator
use Rattle.kt_typed.specs.declared.operators.BuiltIn.{BuiltIn}
use Rattle.kt_typed.specs.declared.operators.BuiltIn.TheVariants as the_built_in
use Rattle.kt_typed.specs.declared.headers.DeclarationNumber.TheVariants as number
use Rattle.kt_typed.specs.Bodies as e
use Rattle.kt_typed.specs.Bodies.{ExpressionForm, ExpressionForms, expressions_of, PartForm, parts_of, BlockForm, StatementForm, statements_of, FunForm}
use Rattle.kt_typed.specs.Operators.{LocalForm}
use Rattle.kt_typed.specs.Headers.{FunctionForm}
use Rattle.kt_typed.specs.Units.{UnitForm}

abbrev pub at : Pos
at = record { line = 1; column = 1 }

abbrev pub simple : TypeConstructor → TypeForm
simple c = typed false (of c forms_end)

abbrev pub int_type : TypeForm
int_type = simple constructor.Int

abbrev pub text_type : TypeForm
text_type = simple constructor.String

abbrev pub unit_type : TypeForm
unit_type = simple constructor.Unit

abbrev pub no_type : TypeForm
no_type = typed false nothing

abbrev pub int : ℤ → ExpressionForm
int n = e.literal int_type (the_literal.Int n)

abbrev pub null : ExpressionForm
null = e.literal (typed true nothing) the_literal.Null

abbrev pub yes_literal : ExpressionForm
yes_literal = e.literal (simple constructor.Boolean) (the_literal.Boolean true)

abbrev pub calculated : ArithmeticOperator → ExpressionForm → ExpressionForm → ExpressionForm
calculated o a b = e.binary int_type (operator.Arithmetic o width.Int) a b

abbrev pub call_built_in : BuiltIn → List ExpressionForm → ExpressionForm
call_built_in b es = e.call unit_type (e.call_of (e.built_in b) [] (expressions_of es) false at)

abbrev pub println : ExpressionForm → StatementForm
println a = e.evaluate at (call_built_in the_built_in.Println (a ∷ []))

abbrev pub said : List ℕ → PartForm
said t = e.text (part.Run t)

abbrev pub sentence : List ℕ → ExpressionForm
sentence t = e.template text_type (e.part_then (said t) e.parts_end)

abbrev pub block : List StatementForm → BlockForm
block ss = e.block (statements_of ss) e.no_expression

abbrev pub local_of : TypeForm → LocalForm
local_of t = record { name = codes "x"; kind = kind.Val; declared = t }

-- a body without parameters and captures, whose locals have these types
abbrev pub body : List LocalForm → List StatementForm → FunForm
body locals ss = e.fun at false [] 0 locals unit_type (statements_of ss)

abbrev pub header : List ℕ → FunctionForm
header name =
    record {
      at = at;
      name = name;
      type_parameters = [];
      parameters = [];
      result = unit_type;
      is_suspend = false;
      is_open = false;
      has_body = true;
      overrides = None;
    }

abbrev pub unit_of : List FunctionForm → List FunForm → UnitForm
unit_of headers bodies =
    record {
      headers = record {
        hierarchy = record { classes = []; bounds = [] };
        classes = [];
        functions = headers;
        constants = [];
        order = number.Function 0 ∷ [];
      };
      functions = bodies;
      classes = [];
    }

-- a file that has `main` alone
abbrev pub main : List LocalForm → List StatementForm → UnitForm
main locals ss = unit_of (header (codes "main") ∷ []) (body locals ss ∷ [])

abbrev pub prints : List (List ℕ) → List (Event Lump)
prints [] = []
prints (t ∷ ts) = event.Print t ∷ prints ts

abbrev pub ends : List (List ℕ) → End → Course
ends texts end = record { events = prints texts; end = Some end }
