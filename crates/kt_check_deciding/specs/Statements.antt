-- Statements and jumps, over what comes of their parts.
use Rattle.std.specs.Prelude.{ℕ, Bool, true, false, List, ◌++◌, Option, Some, None, slice_get, option_map}
use Rattle.kt_base.specs.declared.refusals.Pos.{Pos}
use Rattle.kt_tree.specs.declared.bodies.BinaryOperator.{BinaryOperator}
use Rattle.kt_tree.specs.declared.bodies.StepOperator.{StepOperator}
use Rattle.kt_tree.specs.Types.{TypeTree}
use Rattle.kt_types_tree.specs.Types.{TypeForm}
use Rattle.kt_typed.specs.declared.operators.TypedOperator.{TypedOperator}
use Rattle.kt_typed.specs.declared.operators.Width.{Width}
use Rattle.kt_typed.specs.Operators.{LocalForm}
use Rattle.kt_typed.specs.Bodies as t
use Rattle.kt_typed.specs.Bodies.{ExpressionForm, no_expression, some_expression, BlockForm, StatementForm, declare, assign, step, local_target}
use Rattle.kt_check_rules.specs.Choices.{first_some}
use Rattle.kt_check_rules.specs.Kinds.{type_of, width_of, boolean_type, nothing_type, is_unit}
use Rattle.kt_check_rules.specs.States.{Context, State, hierarchy, meaning, is_free, local_named, next_local, declaring, assigned, with_facts}
use Rattle.kt_check_rules.specs.Typings.{unused, as_value, meeting}
use Rattle.kt_check_rules.specs.Operators.{after_test}
use Rattle.kt_check_rules.specs.Loops.{repeated, in_loop, behind_loop, left_by, maybe_done, noting_break, noting_continue}
use Rattle.kt_check_rules.specs.Assignments.{Combination, combined, may_assign, has_old}
use Rattle.kt_check_rules.specs.Statements.{local_kind, with_value}
use Rattle.kt_check_deciding.specs.Subtypes.{is_below}
use Rattle.kt_check_deciding.specs.Outcomes.{Outcome, found, none, Reading, reading, Decision, DecisionAt, then_go, there, only_if, gives_one, later_at}
use Rattle.kt_check_deciding.specs.Choosing.{typed_by}
use Rattle.kt_check_deciding.specs.Expressions.{Typings}

-- Loops and jumps.

abbrev pub while_state : Context → State → Reading ExpressionForm → State → State
while_state K s c end =
    behind_loop s
    (maybe_done c.behind.facts end.facts
    (left_by c.value (after_test K false c.value c.behind) ++ end.book.breaks))
    c.behind.book
    end.book

abbrev pub whiles : Context → Pos → Typings → Decision BlockForm → DecisionAt StatementForm
whiles K at test body s =
    then_go (typed_by K test (repeated s) (meeting boolean_type))
    (λ c. then_go (body (in_loop (with_facts (after_test K true c.value c.behind) c.behind)) unused)
    (λ x. found (reading (t.while at c.value x.value) (while_state K s c x.behind))))

abbrev pub breaks : Typings
breaks s w = gives_one (t.break nothing_type) (noting_break s)

abbrev pub continues : Typings
continues s w = gives_one (t.continue nothing_type) (noting_continue s)

abbrev pub returns : Context → Typings → Typings
returns K e s w =
    then_go (typed_by K e s (meeting K.result))
    (λ r. gives_one (t.return nothing_type (some_expression r.value)) r.behind)

abbrev pub bare_returns : Context → Typings
bare_returns K s w = only_if (is_unit K.result) (gives_one (t.return nothing_type no_expression) s)

-- Declarations.

abbrev pub typed_locals : Context → Pos → Bool → List ℕ → Option TypeForm → Typings → DecisionAt StatementForm
typed_locals K at var x None e s = none
typed_locals K at var x (Some t) e s =
    then_go (typed_by K e s (meeting t))
    (λ r. found
    (reading (declare at (next_local r.behind) (some_expression r.value)) (with_value var x t r.behind)))

abbrev pub untyped_locals : Context → Pos → Bool → List ℕ → Typings → DecisionAt StatementForm
untyped_locals K at var x e s =
    then_go (typed_by K e s as_value)
    (λ r. found
    (reading (declare at (next_local r.behind) (some_expression r.value))
    (with_value var x (type_of r.value) r.behind)))

abbrev pub bare_locals : Pos → Bool → List ℕ → Option TypeForm → DecisionAt StatementForm
bare_locals at var x None s = none
bare_locals at var x (Some t) s =
    found (reading (declare at (next_local s) no_expression) (declaring x (local_kind var) t s))

abbrev pub bares : Context → Pos → Bool → List ℕ → Option TypeTree → DecisionAt StatementForm
bares K at var x None s = none
bares K at var x (Some t) s = only_if (is_free x s) (bare_locals at var x (meaning K t) s)

abbrev pub initialized : Context → Pos → Bool → List ℕ → Option TypeTree → Typings → DecisionAt StatementForm
initialized K at var x None e s = only_if (is_free x s) (untyped_locals K at var x e s)
initialized K at var x (Some t) e s = only_if (is_free x s) (typed_locals K at var x (meaning K t) e s)

-- Assignments.

pub record NewForm : Type 0 where
  pub operator : Option TypedOperator
  pub value : ExpressionForm

abbrev pub new_form : Option TypedOperator → ExpressionForm → NewForm
new_form f u = record { operator = f; value = u }

abbrev pub combines : Context → TypeForm → Option Combination → State → Outcome (Reading NewForm)
combines K t None s = none
combines K t (Some c) s = only_if (is_below (hierarchy K) c.2 t) (found (reading (new_form (Some c.1) c.0) s))

-- what is assigned to something of a type
abbrev pub new_value : Context → Option BinaryOperator → Typings → TypeForm → DecisionAt NewForm
new_value K None e t s = then_go (typed_by K e s (meeting t)) (λ r. found (reading (new_form None r.value) r.behind))
new_value K (Some k) e t s =
    then_go (e s as_value) (λ r. combines K t (first_some (combined (hierarchy K) k t) r.value) r.behind)

-- a local that has a name
pub record Found : Type 0 where
  pub number : ℕ
  pub local : LocalForm

abbrev pub numbered : ℕ → LocalForm → Found
numbered n l = record { number = n; local = l }

abbrev pub local_at : State → Option ℕ → Option Found
local_at s None = None
local_at s (Some n) = option_map (numbered n) (slice_get s.book.locals n)

abbrev pub local_of : List ℕ → State → Option Found
local_of x s = local_at s (local_named s.scope x)

abbrev pub assigned_to : Pos → Found → Reading NewForm → Outcome (Reading StatementForm)
assigned_to at l r =
    only_if (may_assign l.local.kind l.number r.behind)
    (found
    (reading (assign at (local_target l.number) r.value.operator r.value.value) (assigned l.number r.behind)))

abbrev pub local_assignments : Context → Pos → List ℕ → Option BinaryOperator → Typings → DecisionAt StatementForm
local_assignments K at x k e s =
    then_go (there (local_of x s))
    (λ l. only_if (has_old k l.number s) (then_go (new_value K k e l.local.declared s) (assigned_to at l)))

abbrev pub assignments_to : Bool → Context → Pos → List ℕ → Option BinaryOperator → Typings → DecisionAt StatementForm
assignments_to all K at x None e = local_assignments K at x None e
assignments_to all K at x (Some k) e = later_at all (local_assignments K at x (Some k) e)

abbrev pub stepped : Pos → StepOperator → Found → Option Width → State → Outcome (Reading StatementForm)
stepped at k l None s = none
stepped at k l (Some width) s =
    only_if (may_assign l.local.kind l.number s)
    (found (reading (step at (local_target l.number) k width) (assigned l.number s)))

abbrev pub local_steps : Pos → List ℕ → StepOperator → DecisionAt StatementForm
local_steps at x k s =
    then_go (there (local_of x s))
    (λ l. only_if (s.facts.surely_assigned l.number) (stepped at k l (width_of l.local.declared) s))
