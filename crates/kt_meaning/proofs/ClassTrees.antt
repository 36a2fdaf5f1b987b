-- Headers of the throwables and of small classes, for the worked examples.
use Rattle.std.specs.Prelude.{ℕ, true, false, List, [], ◌∷◌, ◌++◌, map, None, codes}
use Rattle.kt_types_tree.specs.declared.hierarchy.ClassKind.{ClassKind}
use Rattle.kt_types_tree.specs.declared.hierarchy.ClassKind.TheVariants as the_kind
use Rattle.kt_types_tree.specs.declared.types.TypeConstructor.TheVariants as constructor
use Rattle.kt_types_tree.specs.Types.{TypeForm, typed, of, forms_end}
use Rattle.kt_types_tree.specs.Hierarchy.{HeaderForm, SuperForm}
use Rattle.kt_typed.specs.declared.headers.DeclarationNumber.TheVariants as number
use Rattle.kt_typed.specs.Bodies.{FunForm}
use Rattle.kt_typed.specs.Headers.{FunctionForm, ClassForm, PropertyForm, ClassParameterForm}
use Rattle.kt_typed.specs.Units.{UnitForm, ClassBodies}
use Rattle.kt_meaning.proofs.Trees.{at}

abbrev pub above : ℕ → SuperForm
above c = record { class = c; arguments = forms_end }

abbrev pub row : ClassKind → List SuperForm → HeaderForm
row kind supers =
    record {
      kind = kind;
      parameters = 0;
      first_bound = 0;
      supertypes = supers;
      has_to_string = false;
      has_equals = false;
    }

abbrev pub under : ℕ → HeaderForm
under c = row the_kind.Class (above c ∷ [])

-- the throwables by their rows
abbrev pub throwable_rows : List HeaderForm
throwable_rows =
    row the_kind.Class [] ∷ under 0 ∷ under 1 ∷ under 2 ∷ under 2 ∷ under 2 ∷ under 2 ∷ under 2 ∷ under 2 ∷ under 2
    ∷ under 9 ∷ under 9 ∷ []

abbrev pub property : List ℕ → TypeForm → PropertyForm
property name t = record { at = at; name = name; is_variable = false; annotation = t }

-- a class, whose properties are those of its constructor's parameters
abbrev pub class : ClassKind → List ℕ → List ClassParameterForm → List PropertyForm → List FunctionForm → ClassForm
class kind name parameters properties functions =
    record {
      at = at;
      name = name;
      kind = kind;
      is_open = true;
      is_abstract = false;
      type_parameters = [];
      parameters = parameters;
      properties = properties;
      functions = functions;
      entries = [];
      members = [];
      superclass = None;
    }

abbrev pub throwable : List ℕ → ClassForm
throwable name = class the_kind.Class name [] [] []

abbrev pub throwables : List ClassForm
throwables =
    class the_kind.Class (codes "Throwable") []
    (property (codes "message") (typed true (of constructor.String forms_end)) ∷ []) []
    ∷ (throwable (codes "Exception") ∷ throwable (codes "RuntimeException") ∷ throwable (codes "IllegalStateException")
    ∷ throwable (codes "IllegalArgumentException") ∷ throwable (codes "ArithmeticException")
    ∷ throwable (codes "NullPointerException") ∷ throwable (codes "ClassCastException")
    ∷ throwable (codes "NegativeArraySizeException") ∷ throwable (codes "IndexOutOfBoundsException")
    ∷ throwable (codes "ArrayIndexOutOfBoundsException") ∷ throwable (codes "StringIndexOutOfBoundsException") ∷ [])

abbrev pub no_bodies : ClassBodies
no_bodies = record { constructor = None; functions = [] }

-- a file of functions, and of classes that stand behind the throwables
abbrev pub unit_with :
    List FunctionForm → List FunForm → List HeaderForm → List ClassForm → List ClassBodies → UnitForm
unit_with headers bodies rows classes class_bodies =
    record {
      headers = record {
        hierarchy = record { classes = throwable_rows ++ rows; bounds = [] };
        classes = throwables ++ classes;
        functions = headers;
        constants = [];
        order = number.Function 0 ∷ [];
      };
      functions = bodies;
      classes = map (λ c. no_bodies) throwables ++ class_bodies;
    }
