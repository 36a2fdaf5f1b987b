-- Which of several typings counts.
use Rattle.std.specs.Prelude.{Bool, true, ◌||◌, ◌&&◌, List, [], ◌∷◌, Option, Some, find}
use Rattle.kt_types_tree.specs.Types.{TypeForm}
use Rattle.kt_types_tree.specs.Hierarchy.{HierarchyForm}
use Rattle.kt_types.specs.Kinds.{equatable}
use Rattle.kt_types.specs.Null.{bare}
use Rattle.kt_typed.specs.Bodies.{ExpressionForm}
use Rattle.kt_check_rules.specs.Choices.{first_of}
use Rattle.kt_check_rules.specs.Kinds.{type_of, unit_type, is_operand, may_be_null}
use Rattle.kt_check_rules.specs.States.{Context, hierarchy}
use Rattle.kt_check_rules.specs.Typings.{Use, unused, as_value, meeting}
use Rattle.kt_check_rules.specs.Operators.{is_null}
use Rattle.kt_check_deciding.specs.Subtypes.{is_below}
use Rattle.kt_check_deciding.specs.Outcomes.{Decision, DecisionAt, then_go, gives_some}

-- its type is a subtype
abbrev pub meets : HierarchyForm → TypeForm → ExpressionForm → Bool
meets h t u = is_below h (type_of u) t

abbrev pub taken : Context → Use → List ExpressionForm → Option ExpressionForm
taken K (meeting t) us = find (meets (hierarchy K) t) us
taken K as_value us = first_of us
taken K unused us = first_of us

-- the typing that counts for the use
abbrev pub typed_by : Context → Decision (List ExpressionForm) → Decision ExpressionForm
typed_by K e s w = then_go (e s w) (λ r. gives_some (taken K w r.value) r.behind)

-- that which a place allows
abbrev pub chosen_by : (ExpressionForm → Bool) → Decision (List ExpressionForm) → DecisionAt ExpressionForm
chosen_by test e s = then_go (e s as_value) (λ r. gives_some (find test r.value) r.behind)

-- Equality.

abbrev pub is_beside_null : HierarchyForm → ExpressionForm → ExpressionForm → Bool
is_beside_null h u v = is_null u && may_be_null h (type_of v)

abbrev pub are_related : HierarchyForm → TypeForm → TypeForm → Bool
are_related h s t = is_below h (bare s) (bare t) || is_below h (bare t) (bare s)

abbrev pub are_equated : HierarchyForm → ExpressionForm → ExpressionForm → Bool
are_equated h u v = (equatable h (type_of u) && is_operand (type_of v)) && are_related h (type_of u) (type_of v)

abbrev pub are_comparable : HierarchyForm → (ExpressionForm × ExpressionForm) → Bool
are_comparable h (u, v) = (is_beside_null h u v || is_beside_null h v u) || are_equated h u v

-- The type of a whole.

abbrev pub all_below : HierarchyForm → List TypeForm → TypeForm → Bool
all_below h [] t = true
all_below h (s ∷ ss) t = is_below h s t && all_below h ss t

abbrev pub common : HierarchyForm → List TypeForm → Option TypeForm
common h ts = find (all_below h ts) ts

abbrev pub type_for : Context → Use → List TypeForm → Option TypeForm
type_for K (meeting t) ts = Some t
type_for K as_value ts = common (hierarchy K) ts
type_for K unused ts = common (hierarchy K) ts

abbrev pub branch_type : Context → Use → List TypeForm → Option TypeForm
branch_type K unused ts = Some unit_type
branch_type K as_value ts = common (hierarchy K) ts
branch_type K (meeting t) ts = Some t

abbrev pub meets_unit : Context → Use → Bool
meets_unit K (meeting t) = is_below (hierarchy K) unit_type t
meets_unit K as_value = true
meets_unit K unused = true
