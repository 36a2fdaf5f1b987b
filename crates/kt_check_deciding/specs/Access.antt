-- Strings, type tests, casts, elements, members and their calls, over what comes of their parts.
use Rattle.std.specs.Prelude.{ℕ, Bool, List, [], ◌∷◌, Option, Some, None}
use Rattle.kt_base.specs.declared.refusals.Pos.{Pos}
use Rattle.kt_tree.specs.declared.bodies.TextPart.{TextPart}
use Rattle.kt_tree.specs.declared.bodies.StepOperator.{StepOperator}
use Rattle.kt_tree.specs.declared.bodies.BinaryOperator.{BinaryOperator}
use Rattle.kt_tree.specs.Types.{TypeTree}
use Rattle.kt_types_tree.specs.Types.{TypeForm, or_null}
use Rattle.kt_typed.specs.Bodies.{ExpressionForm, template, type_test, cast, not_null, PartForm, text, printed, parts_of, StatementForm, assign, step, element_target}
use Rattle.kt_check_rules.specs.Choices.{first_some, pairs}
use Rattle.kt_check_rules.specs.Kinds.{type_of, width_of, boolean_type, string_type, present_type, is_testable}
use Rattle.kt_check_rules.specs.States.{Context, State, hierarchy, with_facts}
use Rattle.kt_check_rules.specs.Typings.{as_value}
use Rattle.kt_check_rules.specs.Literals.{can_print}
use Rattle.kt_check_rules.specs.Access.{element_of, member_read}
use Rattle.kt_check_rules.specs.Calls.{Callable, called, callable_on, maybe_left_out}
use Rattle.kt_check_rules.specs.Assignments.{Element, element_at}
use Rattle.kt_check_deciding.specs.Outcomes.{Outcome, found, none, Reading, reading, DecisionAt, then_go, there, only_if, gives_one, gives_if}
use Rattle.kt_check_deciding.specs.Choosing.{typed_by, chosen_by}
use Rattle.kt_check_deciding.specs.Expressions.{Typings, Arguments}
use Rattle.kt_check_deciding.specs.Statements.{NewForm, new_value}

-- Strings.

abbrev pub no_parts : DecisionAt (List PartForm)
no_parts s = found (reading [] s)

abbrev pub parts_then : DecisionAt PartForm → DecisionAt (List PartForm) → DecisionAt (List PartForm)
parts_then one others s =
    then_go (one s) (λ x. then_go (others x.behind) (λ y. found (reading (x.value ∷ y.value) y.behind)))

abbrev pub text_parts : TextPart → DecisionAt PartForm
text_parts r s = found (reading (text r) s)

abbrev pub printed_parts : Context → Typings → DecisionAt PartForm
printed_parts K e s = then_go (chosen_by (can_print K) e s) (λ r. found (reading (printed r.value) r.behind))

abbrev pub templates : DecisionAt (List PartForm) → Typings
templates parts s w = then_go (parts s) (λ r. gives_one (template string_type (parts_of r.value)) r.behind)

-- Type tests and casts.

-- where what is written has a meaning that can be tested
abbrev pub testable : Context → Option TypeForm → Outcome TypeForm
testable K None = none
testable K (Some t) = only_if (is_testable (hierarchy K) t) (found t)

abbrev pub tests : Context → Typings → Bool → Option TypeForm → Typings
tests K e is_negated meant s w =
    then_go (typed_by K e s as_value)
    (λ r. then_go (testable K meant) (λ t. gives_one (type_test boolean_type r.value is_negated t) r.behind))

abbrev pub casts : Context → Typings → Bool → Option TypeForm → Typings
casts K e gives_null meant s w =
    then_go (typed_by K e s as_value)
    (λ r. then_go (testable K meant) (λ t. gives_one (cast (or_null gives_null t) r.value gives_null t) r.behind))

abbrev pub not_nulls : Context → Typings → Typings
not_nulls K e s w =
    then_go (typed_by K e s as_value)
    (λ r. gives_one (not_null (present_type (hierarchy K) (type_of r.value)) r.value) r.behind)

-- Elements and members.

abbrev pub elements : Typings → Typings → Typings
elements a i s w =
    then_go (a s as_value)
    (λ x. then_go (i x.behind as_value) (λ y. gives_if (first_some element_of (pairs x.value y.value)) y.behind))

abbrev pub members : Context → Typings → Bool → List ℕ → Typings
members K e is_safe x s w =
    then_go (e s as_value) (λ r. gives_if (first_some (member_read (hierarchy K) is_safe x) r.value) r.behind)

abbrev pub method_by : Bool → Arguments → Pos → State → Callable → Outcome (Reading (List ExpressionForm))
method_by is_safe arguments suffix s f =
    then_go (arguments f.wanted s)
    (λ r. gives_one (called f r.value suffix) (with_facts (maybe_left_out is_safe s.facts r.behind.facts) r.behind))

abbrev pub method_calls : Context → Typings → Bool → List ℕ → List TypeTree → ℕ → Arguments → Pos → Typings
method_calls K e is_safe x ts k arguments suffix s w =
    then_go (e s as_value)
    (λ r. then_go (there (callable_on K is_safe x ts k r.value)) (method_by is_safe arguments suffix r.behind))

-- Assignments to elements.

abbrev pub element_by : Typings → Typings → DecisionAt Element
element_by a i s =
    then_go (a s as_value)
    (λ x. then_go (i x.behind as_value)
    (λ y. then_go (there (first_some element_at (pairs x.value y.value))) (λ p. found (reading p y.behind))))

abbrev pub element_assigned : Pos → Element → Reading NewForm → Outcome (Reading StatementForm)
element_assigned at p r =
    found (reading (assign at (element_target p.0 p.1) r.value.operator r.value.value) r.behind)

abbrev pub element_assignments : Context → Pos → Typings → Typings → Option BinaryOperator → Typings →
    DecisionAt StatementForm
element_assignments K at a i k e s =
    then_go (element_by a i s)
    (λ p. then_go (new_value K k e p.value.2 p.behind) (element_assigned at p.value))

abbrev pub element_steps : Pos → Typings → Typings → StepOperator → DecisionAt StatementForm
element_steps at a i k s =
    then_go (element_by a i s)
    (λ p. then_go (there (width_of p.value.2))
    (λ width. found (reading (step at (element_target p.value.0 p.value.1) k width) p.behind)))
