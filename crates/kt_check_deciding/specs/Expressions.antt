-- Expressions, over what comes of their parts.
use Rattle.std.specs.Prelude.{ℕ, Bool, true, false, not, ◌||◌, if◌then◌else◌, List, [], ◌∷◌, Option, Some, None, find, option_map}
use Rattle.kt_base.specs.declared.refusals.Pos.{Pos}
use Rattle.kt_tree.specs.declared.bodies.BinaryOperator.{BinaryOperator}
use Rattle.kt_tree.specs.declared.bodies.BinaryOperator.TheVariants as o
use Rattle.kt_tree.specs.declared.bodies.PrefixOperator.{PrefixOperator}
use Rattle.kt_tree.specs.declared.bodies.PrefixOperator.TheVariants as before
use Rattle.kt_tree.specs.declared.bodies.Literal.{Literal}
use Rattle.kt_types_tree.specs.Types.{TypeForm}
use Rattle.kt_types_builtins.specs.declared.functions.BuiltInFunction.{BuiltInFunction}
use Rattle.kt_types_builtins.specs.declared.functions.BuiltInFunction.TheVariants as function
use Rattle.kt_types_builtins.specs.Functions.{function_of_name}
use Rattle.kt_types_builtins.specs.Throwables.{throwable_of_name}
use Rattle.kt_typed.specs.declared.operators.TypedOperator.{TypedOperator}
use Rattle.kt_typed.specs.declared.operators.TypedOperator.TheVariants as op
use Rattle.kt_typed.specs.Bodies.{ExpressionForm, prefix, binary}
use Rattle.kt_flow.specs.Facts.{meet}
use Rattle.kt_check_rules.specs.Choices.{first_some, pairs}
use Rattle.kt_check_rules.specs.Kinds.{type_of, boolean_type, present_type}
use Rattle.kt_check_rules.specs.States.{Context, State, hierarchy, local_named, with_facts}
use Rattle.kt_check_rules.specs.Typings.{Use, as_value, meeting}
use Rattle.kt_check_rules.specs.Literals.{literal_of, can_print}
use Rattle.kt_check_rules.specs.Names.{named}
use Rattle.kt_check_rules.specs.Operators.{applied, after_test, left_use, value_use, negated}
use Rattle.kt_check_rules.specs.Calls.{Wanted, of_type, printed, Callable, called}
use Rattle.kt_check_deciding.specs.Outcomes.{Outcome, found, none, unbuilt, Reading, reading, Decision, DecisionAt, then_go, gives_some, gives_if, gives_one, later}
use Rattle.kt_check_deciding.specs.Choosing.{typed_by, chosen_by, are_comparable, type_for}

abbrev pub Typings : Type 0
Typings = Decision (List ExpressionForm)

abbrev pub literals : Literal → Typings
literals l s w = gives_if (literal_of w l) s

abbrev pub names : Context → List ℕ → Typings
names K x s w = gives_some (named K s (local_named s.scope x) x) s

-- Operators in front.

abbrev pub negations : Typings → Use → State → Outcome (Reading (List ExpressionForm))
negations e inner s = then_go (e s inner) (λ r. gives_if (first_some negated r.value) r.behind)

abbrev pub nots : Context → Typings → State → Outcome (Reading (List ExpressionForm))
nots K e s =
    then_go (typed_by K e s (meeting boolean_type))
    (λ r. gives_one (prefix boolean_type before.Not r.value) r.behind)

abbrev pub prefixes : Context → PrefixOperator → Typings → (Use → Use) → Typings
prefixes K before.Negate e inner s w = negations e (inner w) s
prefixes K before.Not e inner s w = nots K e s

-- Operators between two operands.

abbrev pub operated : Context → BinaryOperator → List ExpressionForm → List ExpressionForm → Option ExpressionForm
operated K k us vs = first_some (applied (hierarchy K) k) (pairs us vs)

abbrev pub operations : Context → BinaryOperator → Typings → Typings → Typings
operations K k a b s w =
    then_go (a s as_value)
    (λ x. then_go (b x.behind as_value) (λ y. gives_if (operated K k x.value y.value) y.behind))

abbrev pub equated : TypedOperator → (ExpressionForm × ExpressionForm) → ExpressionForm
equated k p = binary boolean_type k p.0 p.1

abbrev pub compared : Context → TypedOperator → List ExpressionForm → List ExpressionForm → Option ExpressionForm
compared K k us vs = option_map (equated k) (find (are_comparable (hierarchy K)) (pairs us vs))

abbrev pub equalities : Context → TypedOperator → Typings → Typings → Typings
equalities K k a b s w =
    then_go (a s as_value)
    (λ x. then_go (b x.behind as_value) (λ y. gives_if (compared K k x.value y.value) y.behind))

abbrev pub connectives : Context → Bool → TypedOperator → Typings → Typings → Typings
connectives K goes_on k a b s w =
    then_go (typed_by K a s (meeting boolean_type))
    (λ x. then_go
    (typed_by K b (with_facts (after_test K goes_on x.value x.behind) x.behind) (meeting boolean_type))
    (λ y. gives_one (binary boolean_type k x.value y.value)
    (with_facts (meet (after_test K (not goes_on) x.value x.behind) y.behind.facts) y.behind)))

abbrev pub elvis_of : ExpressionForm → ExpressionForm → TypeForm → ExpressionForm
elvis_of u v t = binary t op.Elvis u v

abbrev pub elvises : Context → Typings → Typings → Typings
elvises K a b s w =
    then_go (typed_by K a s (left_use w))
    (λ x. then_go (typed_by K b x.behind (value_use w))
    (λ y. gives_if
    (option_map (elvis_of x.value y.value)
    (type_for K w (present_type (hierarchy K) (type_of x.value) ∷ type_of y.value ∷ [])))
    (with_facts (meet x.behind.facts y.behind.facts) y.behind)))

abbrev pub binaries : Bool → Context → BinaryOperator → Typings → Typings → Typings
binaries all K o.Disjunction a b s w = connectives K false op.Disjunction a b s w
binaries all K o.Conjunction a b s w = connectives K true op.Conjunction a b s w
binaries all K o.Equal a b s w = later all (equalities K op.Equal a b) s w
binaries all K o.NotEqual a b s w = later all (equalities K op.NotEqual a b) s w
binaries all K o.Elvis a b s w = later all (elvises K a b) s w
binaries all K k a b s w = operations K k a b s w

-- Calls.

abbrev pub is_there : {A : Type 0} → Option A → Bool
is_there None = false
is_there (Some a) = true

abbrev pub is_later : Option BuiltInFunction → Bool
is_later (Some function.Launch) = true
is_later (Some function.SuspendCoroutine) = true
is_later _ = false

-- what is called by its name and isn't decided yet: a local, the constructor of a throwable, and what suspends
abbrev pub comes_later : State → List ℕ → Bool
comes_later s x =
    is_there (local_named s.scope x) || (is_there (throwable_of_name x) || is_later (function_of_name x))

abbrev pub Arguments : Type 0
Arguments = List Wanted → DecisionAt (List ExpressionForm)

abbrev pub argument : Context → Typings → Wanted → DecisionAt ExpressionForm
argument K e (of_type t) s = typed_by K e s (meeting t)
argument K e printed s = chosen_by (can_print K) e s

abbrev pub no_arguments : Arguments
no_arguments [] s = found (reading [] s)
no_arguments (w ∷ ws) s = none

abbrev pub more_arguments : Context → Typings → Arguments → Arguments
more_arguments K e es [] s = none
more_arguments K e es (w ∷ ws) s =
    then_go (argument K e w s)
    (λ x. then_go (es ws x.behind) (λ y. found (reading (x.value ∷ y.value) y.behind)))

abbrev pub calls : Option Callable → Arguments → Pos → Typings
calls None arguments suffix s w = none
calls (Some f) arguments suffix s w =
    then_go (arguments f.wanted s) (λ r. gives_one (called f r.value suffix) r.behind)

abbrev pub calls_named : Bool → List ℕ → Typings → Typings
calls_named true x d s w = d s w
calls_named false x d s w = if comes_later s x then unbuilt else d s w
