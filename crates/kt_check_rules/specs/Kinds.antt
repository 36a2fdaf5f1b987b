-- What typing asks of types.
use Rattle.std.specs.Prelude.{ℕ, zero, suc, Bool, true, false, not, List, [], ◌∷◌, length, slice_get, Option, Some, None, if◌then◌else◌, ◌==◌}
use Rattle.kt_types_tree.specs.declared.types.TypeConstructor.{TypeConstructor}
use Rattle.kt_types_tree.specs.declared.types.TypeConstructor.TheVariants as c
use Rattle.kt_types_tree.specs.Types.{TypeForm, typed, nothing, any, parameter, of, forms_end, or_null}
use Rattle.kt_types_tree.specs.Hierarchy.{HierarchyForm, HeaderForm}
use Rattle.kt_types_order.specs.Below.{IsBelow}
use Rattle.kt_types.specs.Null.{bare}
use Rattle.kt_typed.specs.declared.operators.Width.{Width}
use Rattle.kt_typed.specs.declared.operators.Width.TheVariants as width
use Rattle.kt_typed.specs.Bodies.{ExpressionForm, literal, template, local, captured, this, constant, enum_entry, property, prefix, binary, type_test, cast, not_null, index, call, if_else, when, try_catch, throw, return, break, continue, lambda}
use Rattle.kt_check_rules.specs.Choices.{IsFirst}

abbrev pub plain : TypeConstructor → TypeForm
plain head = typed false (of head forms_end)

abbrev pub int_type : TypeForm
int_type = plain c.Int

abbrev pub long_type : TypeForm
long_type = plain c.Long

abbrev pub boolean_type : TypeForm
boolean_type = plain c.Boolean

abbrev pub char_type : TypeForm
char_type = plain c.Char

abbrev pub string_type : TypeForm
string_type = plain c.String

abbrev pub unit_type : TypeForm
unit_type = plain c.Unit

abbrev pub nothing_type : TypeForm
nothing_type = typed false nothing

-- the type that an expression has at its place
abbrev pub type_of : ExpressionForm → TypeForm
type_of (literal t l) = t
type_of (template t ps) = t
type_of (local t n) = t
type_of (captured t n) = t
type_of (this t) = t
type_of (constant t n) = t
type_of (enum_entry t d n) = t
type_of (property t r p) = t
type_of (prefix t o e) = t
type_of (binary t o a b) = t
type_of (type_test t e not u) = t
type_of (cast t e or_null u) = t
type_of (not_null t e) = t
type_of (index t a i) = t
type_of (call t d) = t
type_of (if_else t e a b) = t
type_of (when t e es) = t
type_of (try_catch t b cs f) = t
type_of (throw t e) = t
type_of (return t e) = t
type_of (break t) = t
type_of (continue t) = t
type_of (lambda t n f) = t

abbrev pub is_nothing : TypeForm → Bool
is_nothing (typed false nothing) = true
is_nothing _ = false

abbrev pub is_unit : TypeForm → Bool
is_unit (typed false (of c.Unit ts)) = true
is_unit _ = false

-- `Nothing` is no operand
abbrev pub is_operand : TypeForm → Bool
is_operand t = not (is_nothing t)

abbrev pub width_of : TypeForm → Option Width
width_of (typed false (of c.Int ts)) = Some width.Int
width_of (typed false (of c.Long ts)) = Some width.Long
width_of _ = None

abbrev pub number_type : Width → TypeForm
number_type width.Int = int_type
number_type width.Long = long_type

abbrev pub bound_or_any : Option TypeForm → TypeForm
bound_or_any None = typed true any
bound_or_any (Some t) = t

-- Whether null is among its values; of a type parameter its bound tells. No way of bounds is longer than all of them; one
-- that doesn't end tells nothing, so null may be.
abbrev pub allows_null : List TypeForm → ℕ → TypeForm → Bool
allows_null bounds k (typed true s) = true
allows_null bounds k (typed false nothing) = false
allows_null bounds k (typed false any) = false
allows_null bounds k (typed false (of c ts)) = false
allows_null bounds zero (typed false (parameter row place)) = true
allows_null bounds (suc k) (typed false (parameter row place)) =
    allows_null bounds k (bound_or_any (slice_get bounds row))

abbrev pub may_be_null : HierarchyForm → TypeForm → Bool
may_be_null h t = allows_null h.bounds (length h.bounds) t

-- what `!= null` and `!!` give: the type without `?`, and `Any` for a type parameter that may be null
abbrev pub present_type : HierarchyForm → TypeForm → TypeForm
present_type h t = if may_be_null h (bare t) then typed false any else bare t

-- basic types and `Unit`
abbrev pub is_basic : TypeConstructor → Bool
is_basic c.Int = true
is_basic c.Long = true
is_basic c.Boolean = true
is_basic c.Char = true
is_basic c.String = true
is_basic c.Unit = true
is_basic _ = false

abbrev pub has_no_parameters : Option HeaderForm → Bool
has_no_parameters None = false
has_no_parameters (Some d) = d.parameters == 0

-- `is`, `as` and `as?` take it: a basic type, `Unit`, or a class without type parameters, with `?` or not
abbrev pub is_testable : HierarchyForm → TypeForm → Bool
is_testable h (typed n (of (c.Class row) ts)) = has_no_parameters (slice_get h.classes row)
is_testable h (typed n (of head ts)) = is_basic head
is_testable h _ = false

abbrev pub AreAllBelow : HierarchyForm → List TypeForm → TypeForm → Type 0
AreAllBelow h [] t = Unit {0}
AreAllBelow h (s ∷ ss) t = IsBelow h s t × AreAllBelow h ss t

-- the one of some types that is above all of them
abbrev pub IsCommon : HierarchyForm → List TypeForm → TypeForm → Type 0
IsCommon h ts t = IsFirst (AreAllBelow h ts) ts t
