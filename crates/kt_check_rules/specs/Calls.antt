-- Calls (Kotlin specification, "Function calls and property access", "Overload resolution").
use Rattle.std.specs.Option.{option_map}
use Rattle.std.specs.Prelude.{ℕ, zero, suc, Bool, true, false, List, [], ◌∷◌, ◌+◌, ◌==◌, ◌&&◌, length, map, Option, Some, None, ◌≡◌, if◌then◌else◌}
use Rattle.kt_base.specs.declared.refusals.Pos.{Pos}
use Rattle.kt_tree.specs.Types.{TypeTree}
use Rattle.kt_tree.specs.Bodies as tree
use Rattle.kt_tree.specs.Bodies.{ExpressionTrees}
use Rattle.kt_types_tree.specs.declared.types.TypeConstructor.TheVariants as c
use Rattle.kt_types_tree.specs.Types.{TypeForm, typed, parameter, of, or_null, forms_end, form_then}
use Rattle.kt_types_tree.specs.Hierarchy.{HierarchyForm}
use Rattle.kt_typed.specs.declared.headers.DeclaredTypeParameter.{DeclaredTypeParameter}
use Rattle.kt_typed.specs.declared.operators.BuiltIn.TheVariants as built
use Rattle.kt_typed.specs.declared.operators.BuiltInMethod.{BuiltInMethod}
use Rattle.kt_types_builtins.specs.declared.members.MemberType.{MemberType}
use Rattle.kt_types_builtins.specs.declared.members.BuiltInMember.{BuiltInMember}
use Rattle.kt_types_builtins.specs.declared.functions.BuiltInFunction.{BuiltInFunction}
use Rattle.kt_types_builtins.specs.declared.functions.BuiltInFunction.TheVariants as named
use Rattle.kt_types_builtins.specs.Functions.{function_of_name}
use Rattle.kt_check_rules.specs.Builtins.{built_in_member, as_method, result_type, parameter_types, member_type}
use Rattle.kt_typed.specs.Headers.{FunctionForm, ParameterForm}
use Rattle.kt_typed.specs.Bodies.{ExpressionForm, call, call_of, CalleeForm, function, built_in, built_in_method, expressions_of}
use Rattle.kt_flow.specs.Facts.{FactsForm, meet}
use Rattle.kt_check_rules.specs.Choices.{first_some, or_else, then_on}
use Rattle.kt_check_rules.specs.Kinds.{type_of, plain, int_type, unit_type}
use Rattle.kt_check_rules.specs.States.{Context, State, hierarchy, meaning, is_name, with_facts}
use Rattle.kt_check_rules.specs.Literals.{can_print}
use Rattle.kt_check_rules.specs.Access.{asked_of, receiver}
use Rattle.kt_check_rules.specs.Typings.{Rule, Use, as_value, meeting, IsTyped, IsChosen, IsNone, IsThen, GivesOne}

-- what an argument has to be
pub data Wanted : Type 0 where
  -- it meets a type
  of_type : TypeForm → Wanted
  -- one of its types can be printed
  printed : Wanted

-- what can be called, for given type arguments
pub record Callable : Type 0 where
  pub callee : CalleeForm
  pub type_arguments : List TypeForm
  pub wanted : List Wanted
  pub result : TypeForm
  pub suspends : Bool

abbrev pub count : ExpressionTrees → ℕ
count tree.expressions_end = 0
count (tree.expression_then e es) = count es + 1

-- Arguments, from left to right.

abbrev pub Argument : Context → Rule → Wanted → State → ExpressionForm → State → Type 0
Argument K e (of_type t) s u behind = IsTyped K e s (meeting t) u behind
Argument K e printed s u behind = IsChosen (can_print K) e s u behind

abbrev pub ArgumentsRule : Type 1
ArgumentsRule = List Wanted → State → List ExpressionForm → State → Type 0

abbrev pub NoArguments : ArgumentsRule
NoArguments [] s us behind = IsNone s us behind
NoArguments (w ∷ ws) s us behind = ⊥

abbrev pub MoreArguments : Context → Rule → ArgumentsRule → ArgumentsRule
MoreArguments K e es [] s us behind = ⊥
MoreArguments K e es (w ∷ ws) s us behind = IsThen (Argument K e w) (es ws) s us behind

-- Functions that are called by a name: one of the file of that name and number of parameters, else a built-in one. A
-- built-in function has a name that no declaration takes.

abbrev pub wanted_by : ParameterForm → Wanted
wanted_by p = of_type p.annotation

-- a suspend function is called in suspend functions alone
abbrev pub may_call : Context → Bool → Bool
may_call K false = true
may_call K true = K.is_suspend

abbrev pub function_call : ℕ → FunctionForm → Callable
function_call n f =
    record {
      callee = function n;
      type_arguments = [];
      wanted = map wanted_by f.parameters;
      result = f.result;
      suspends = f.is_suspend;
    }

abbrev pub without_type_arguments : List DeclaredTypeParameter → List TypeTree → Option Callable → Option Callable
without_type_arguments [] [] o = o
without_type_arguments _ _ o = None

abbrev pub calling : Context → ℕ → FunctionForm → List TypeTree → Option Callable
calling K n f ts =
    without_type_arguments f.type_parameters ts
    (if may_call K f.is_suspend then Some (function_call n f) else None)

-- the functions of the file, from a number on, called with so many arguments
abbrev pub function_named : Context → ℕ → List FunctionForm → List ℕ → List TypeTree → ℕ → Option Callable
function_named K n [] x ts k = None
function_named K n (f ∷ fs) x ts k =
    if is_name f.name x && length f.parameters == k then calling K n f ts else function_named K (n + 1) fs x ts k

abbrev pub print_nothing : Callable
print_nothing =
    record {
      callee = built_in built.Println;
      type_arguments = [];
      wanted = [];
      result = unit_type;
      suspends = false;
    }

abbrev pub print_value : Callable
print_value =
    record {
      callee = built_in built.Println;
      type_arguments = [];
      wanted = printed ∷ [];
      result = unit_type;
      suspends = false;
    }

abbrev pub make_ints : Callable
make_ints =
    record {
      callee = built_in built.IntArray;
      type_arguments = [];
      wanted = of_type int_type ∷ [];
      result = plain c.IntArray;
      suspends = false;
    }

abbrev pub array_of : TypeForm → TypeForm
array_of t = typed false (of c.Array (form_then (or_null true t) forms_end))

abbrev pub make_nulls : TypeForm → Callable
make_nulls t =
    record {
      callee = built_in built.ArrayOfNulls;
      type_arguments = t ∷ [];
      wanted = of_type int_type ∷ [];
      result = array_of t;
      suspends = false;
    }

-- its elements are of no type parameter
abbrev pub nulls_of : TypeForm → Option Callable
nulls_of (typed n (parameter row place)) = None
nulls_of t = Some (make_nulls t)

-- of the built-in functions, with type arguments and called with so many arguments
abbrev pub function_called : Context → BuiltInFunction → List TypeTree → ℕ → Option Callable
function_called K named.Println [] zero = Some print_nothing
function_called K named.Println [] (suc zero) = Some print_value
function_called K named.IntArray [] (suc zero) = Some make_ints
function_called K named.ArrayOfNulls (t ∷ []) (suc zero) = then_on (meaning K t) nulls_of
function_called K _ ts k = None

abbrev pub built_in_named : Context → List ℕ → List TypeTree → ℕ → Option Callable
built_in_named K x ts k = then_on (function_of_name x) (λ f. function_called K f ts k)

abbrev pub callable : Context → List ℕ → List TypeTree → ℕ → Option Callable
callable K x ts k = or_else (function_named K 0 K.headers.functions x ts k) (built_in_named K x ts k)

-- a call, with the place of the first token of its call suffix
abbrev pub called : Callable → List ExpressionForm → Pos → ExpressionForm
called f us suffix = call f.result (call_of f.callee f.type_arguments (expressions_of us) f.suspends suffix)

pub record Calls (found : Option Callable) (arguments : ArgumentsRule) (suffix : Pos) (s : State) (w : Use)
    (us : List ExpressionForm) (behind : State) : Type 0 where
  pub chosen : Callable
  pub values : List ExpressionForm
  pub end : State
  pub is : found ≡ Some chosen
  pub are : arguments chosen.wanted s values end
  pub gives : GivesOne (called chosen values suffix) end us behind

-- Built-in functions that are called on a receiver.

pub record Method : Type 0 where
  pub name : BuiltInMethod
  pub wanted : List Wanted
  pub result : TypeForm

abbrev pub wanted_of : TypeForm → MemberType → Wanted
wanted_of t p = of_type (member_type t p)

abbrev pub method_with : TypeForm → BuiltInMember → BuiltInMethod → Method
method_with t m f = record { name = f; wanted = map (wanted_of t) (parameter_types m); result = result_type t m }

abbrev pub method_of : TypeForm → BuiltInMember → Option Method
method_of t m = option_map (method_with t m) (as_method m)

-- with so many arguments
abbrev pub taking : ℕ → Method → Option Method
taking k m = if length m.wanted == k then Some m else None

abbrev pub method_call : Bool → ExpressionForm → Method → Option Callable
method_call is_safe u m =
    Some
    (record {
      callee = built_in_method (receiver is_safe u) m.name;
      type_arguments = [];
      wanted = m.wanted;
      result = or_null is_safe m.result;
      suspends = false;
    })

abbrev pub method_named : HierarchyForm → TypeForm → List ℕ → Option Method
method_named h t x = then_on (built_in_member h t x) (method_of t)

abbrev pub method_on : Context → Bool → List ℕ → ℕ → ExpressionForm → Option Callable
method_on K is_safe x k u =
    then_on (then_on (method_named (hierarchy K) (asked_of is_safe (type_of u)) x) (taking k)) (method_call is_safe u)

abbrev pub callable_on : Context → Bool → List ℕ → List TypeTree → ℕ → List ExpressionForm → Option Callable
callable_on K is_safe x [] k us = first_some (method_on K is_safe x k) us
callable_on K is_safe x (t ∷ ts) k us = None

-- behind `?.` the arguments may be left out
abbrev pub maybe_left_out : Bool → FactsForm → FactsForm → FactsForm
maybe_left_out true f g = meet f g
maybe_left_out false f g = g

pub record MethodCalls (K : Context) (e : Rule) (is_safe : Bool) (x : List ℕ) (ts : List TypeTree) (k : ℕ)
    (arguments : ArgumentsRule) (suffix : Pos) (s : State) (w : Use) (us : List ExpressionForm) (behind : State)
    : Type 0 where
  pub receivers : List ExpressionForm
  pub chosen : Callable
  pub values : List ExpressionForm
  pub between : State
  pub end : State
  pub of_what : e s as_value receivers between
  pub is : callable_on K is_safe x ts k receivers ≡ Some chosen
  pub are : arguments chosen.wanted between values end
  pub gives :
      GivesOne (called chosen values suffix)
      (with_facts (maybe_left_out is_safe between.facts end.facts) end)
      us
      behind
