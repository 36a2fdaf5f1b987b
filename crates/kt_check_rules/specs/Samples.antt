-- Small files, by their trees.
use Rattle.std.specs.Prelude.{ℕ, Bool, true, false, List, [], ◌∷◌, Some, None, codes}
use Rattle.kt_base.specs.declared.refusals.Pos.{Pos}
use Rattle.kt_tree.specs.declared.bodies.Literal.TheVariants as written
use Rattle.kt_tree.specs.declared.bodies.BinaryOperator.TheVariants as o
use Rattle.kt_tree.specs.Types as type
use Rattle.kt_tree.specs.Bodies.{ExpressionTree, literal, name, binary, call, if_else, expressions_end, expression_then, some_expression, no_body, single, block, StatementTree, local, evaluate, StatementTrees, statements_end, statement_then}
use Rattle.kt_tree.specs.Declarations.{DeclarationTree, function, braces}
use Rattle.kt_types_tree.specs.Types.{TypeForm}
use Rattle.kt_typed.specs.Headers.{HeadersForm, FunctionForm}
use Rattle.kt_check_rules.specs.Kinds.{int_type, unit_type}
use Rattle.kt_check_rules.specs.Units.{File}

abbrev pub at : ℕ → ℕ → Pos
at line column = record { line = line; column = column }

abbrev pub number : ℕ → Bool → ExpressionTree
number v long = literal (at 0 0) (written.Number (record { value = Some v; long = long }))

abbrev pub null : ExpressionTree
null = literal (at 0 0) written.Null

abbrev pub print_of : ExpressionTree → ExpressionTree
print_of e = call (at 0 0) (name (at 0 0) (codes "println")) (at 0 0) [] (expression_then e expressions_end)

abbrev pub int_name : type.TypeTree
int_name = type.named (codes "Int") type.types_end

-- a function without parameters
abbrev pub header : List ℕ → TypeForm → FunctionForm
header x t =
    record {
      at = at 1 1;
      name = x;
      type_parameters = [];
      parameters = [];
      result = t;
      is_suspend = false;
      is_open = false;
      has_body = true;
      overrides = None;
    }

abbrev pub function_with : List ℕ → StatementTrees → Pos → DeclarationTree
function_with x ss end =
    function
    (record {
      at = at 1 1;
      modifiers = record { is_override = false; is_open = false; is_abstract = false; is_suspend = false };
      type_parameters = [];
      name = x;
      parameters = [];
      result = None;
      body = Some (braces (block ss end));
    })

abbrev pub headers_with : List FunctionForm → HeadersForm
headers_with fs =
    record {
      hierarchy = record { classes = []; bounds = [] };
      classes = [];
      functions = fs;
      constants = [];
      order = [];
    }

abbrev pub file_with : List DeclarationTree → List FunctionForm → File
file_with ds fs = record { declarations = ds; headers = headers_with fs; classes = λ x. None }

-- `println(1)`
abbrev pub print_one : StatementTree
print_one = evaluate (at 2 5) (print_of (number 1 false))

-- `fun f(): Int {`, `println(1)`, `}`, `fun main() {}`
abbrev pub without_result : File
without_result =
    file_with
    (function_with (codes "f") (statement_then print_one statements_end) (at 3 1)
    ∷ function_with (codes "main") statements_end (at 4 13)
    ∷ [])
    (header (codes "f") int_type ∷ header (codes "main") unit_type ∷ [])

-- `fun main() {`, `val y: Int = 1`, `val x: Int = 1L`, `}`
abbrev pub long_for_int : File
long_for_int =
    file_with
    (function_with (codes "main")
    (statement_then (local (at 2 5) false (codes "y") (Some int_name) (some_expression (number 1 false)))
    (statement_then (local (at 3 5) false (codes "x") (Some int_name) (some_expression (number 1 true)))
    statements_end))
    (at 4 1)
    ∷ [])
    (header (codes "main") unit_type ∷ [])

-- `val x: Int? = null`, `if (x != null) println(x + 1)`, `println(x ?: 5)`
abbrev pub smart_cast : File
smart_cast =
    file_with
    (function_with (codes "main")
    (statement_then (local (at 1 14) false (codes "x") (Some (type.nullable int_name)) (some_expression null))
    (statement_then
    (evaluate (at 1 34)
    (if_else (at 1 34) (binary (at 1 38) o.NotEqual (name (at 1 38) (codes "x")) null)
    (single (evaluate (at 1 49) (print_of (binary (at 0 0) o.Plus (name (at 0 0) (codes "x")) (number 1 false)))))
    no_body))
    (statement_then
    (evaluate (at 1 65) (print_of (binary (at 0 0) o.Elvis (name (at 0 0) (codes "x")) (number 5 false))))
    statements_end)))
    (at 1 82)
    ∷ [])
    (header (codes "main") unit_type ∷ [])
