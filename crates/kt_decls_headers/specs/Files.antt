-- The headers of a file, declaration by declaration in text order.
use Rattle.std.specs.Prelude.{ℕ, false, List, [], ◌∷◌, ◌++◌, ◌+◌, Option, Some, None, length, map}
use Rattle.std.specs.List.{flat_map}
use Rattle.kt_tree.specs.Declarations.{DeclarationTree, function, class, interface, enum, constant, FunctionTree}
use Rattle.kt_types_tree.specs.Hierarchy.{HierarchyForm}
use Rattle.kt_types_builtins.specs.Throwables.{throwables}
use Rattle.kt_typed.specs.declared.headers.DeclarationNumber.{DeclarationNumber}
use Rattle.kt_typed.specs.declared.headers.DeclarationNumber.TheVariants as number
use Rattle.kt_typed.specs.Headers.{ClassForm, ConstantForm, FunctionForm, HeadersForm}
use Rattle.kt_decls_table.specs.Classes.{Classes}
use Rattle.kt_decls_table.specs.Constants.{constant_header}
use Rattle.kt_decls_rules.specs.Tables.{class_named, hierarchy_of, numbered}
use Rattle.kt_decls_inherited.specs.Sights.{places}
use Rattle.kt_decls_headers.specs.Functions.{function_in}
use Rattle.kt_decls_headers.specs.Classes.{class_in, enum_in, interface_in, throwable_in}

abbrev pub if_some : Option ConstantForm → List ConstantForm
if_some None = []
if_some (Some c) = c ∷ []

module _ (classes : Classes) where
  abbrev pub top_function : ℕ → FunctionTree → FunctionForm
  top_function first f =
      function_in classes (numbered first f.type_parameters) (numbered first f.type_parameters) false None f

  -- the functions at top level, where so many type parameters stand before
  abbrev pub functions_from : ℕ → List DeclarationTree → List FunctionForm
  functions_from first [] = []
  functions_from first (function f ∷ rest) =
      top_function first f ∷ functions_from (first + length f.type_parameters) rest
  functions_from first (class c ∷ rest) = functions_from (first + length c.type_parameters) rest
  functions_from first (interface i ∷ rest) = functions_from (first + length i.type_parameters) rest
  functions_from first (enum e ∷ rest) = functions_from (first + 0) rest
  functions_from first (constant c ∷ rest) = functions_from (first + 0) rest

  -- the constants; each that is well formed has a header
  abbrev pub constant_of : DeclarationTree → List ConstantForm
  constant_of (function f) = []
  constant_of (class c) = []
  constant_of (interface i) = []
  constant_of (enum e) = []
  constant_of (constant c) = if_some (constant_header classes c c.annotation)

  abbrev pub constants_of : List DeclarationTree → List ConstantForm
  constants_of ds = flat_map constant_of ds

-- A file is known by its hierarchy, its declarations and their places.
module _ (classes : Classes) (h : HierarchyForm) (ds : List DeclarationTree) (places : List ℕ) where
  -- the classes, where so many rows and so many type parameters stand before
  abbrev pub classes_from : ℕ → ℕ → List DeclarationTree → List ClassForm
  classes_from row first [] = []
  classes_from row first (function f ∷ rest) = classes_from (row + 0) (first + length f.type_parameters) rest
  classes_from row first (class c ∷ rest) =
      class_in classes h ds places row (numbered first c.type_parameters) c
      ∷ classes_from (row + 1) (first + length c.type_parameters) rest
  classes_from row first (interface i ∷ rest) =
      interface_in classes h ds places row (numbered first i.type_parameters) i
      ∷ classes_from (row + 1) (first + length i.type_parameters) rest
  classes_from row first (enum e ∷ rest) = enum_in e ∷ classes_from (row + 1) (first + 0) rest
  classes_from row first (constant c ∷ rest) = classes_from (row + 0) (first + 0) rest

-- the declarations by their numbers, where there are so many functions, rows of classes and constants before
abbrev pub order_from : ℕ → ℕ → ℕ → List DeclarationTree → List DeclarationNumber
order_from functions rows constants [] = []
order_from functions rows constants (function f ∷ ds) =
    number.Function functions ∷ order_from (functions + 1) rows constants ds
order_from functions rows constants (class c ∷ ds) =
    number.Class rows ∷ order_from functions (rows + 1) constants ds
order_from functions rows constants (interface i ∷ ds) =
    number.Class rows ∷ order_from functions (rows + 1) constants ds
order_from functions rows constants (enum e ∷ ds) = number.Class rows ∷ order_from functions (rows + 1) constants ds
order_from functions rows constants (constant c ∷ ds) =
    number.Constant constants ∷ order_from functions rows (constants + 1) ds

abbrev pub headers_in : Classes → HierarchyForm → List DeclarationTree → List ℕ → HeadersForm
headers_in classes h ds places =
    record {
      hierarchy = h;
      classes = map throwable_in throwables ++ classes_from classes h ds places (length throwables) 0 ds;
      functions = functions_from classes 0 ds;
      constants = constants_of classes ds;
      order = order_from 0 (length throwables) 0 ds;
    }

-- The headers of a file.
abbrev pub headers_of : List DeclarationTree → HeadersForm
headers_of ds = headers_in (class_named ds) (hierarchy_of ds) ds (places ds)
