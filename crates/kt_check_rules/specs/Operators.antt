-- Operators (Kotlin specification, "Logical disjunction expression" to "Unary prefix expression").
use Rattle.std.specs.Prelude.{Bool, true, false, not, List, [], ◌∷◌, Option, Some, None, ◌≡◌, ◌⊎◌, ◌&&◌, IsTrue, if◌then◌else◌}
use Rattle.kt_tree.specs.declared.bodies.BinaryOperator.{BinaryOperator}
use Rattle.kt_tree.specs.declared.bodies.BinaryOperator.TheVariants as o
use Rattle.kt_tree.specs.declared.bodies.PrefixOperator.TheVariants as before
use Rattle.kt_types_tree.specs.declared.types.TypeConstructor.TheVariants as c
use Rattle.kt_types_tree.specs.Types.{TypeForm, typed, of, or_null}
use Rattle.kt_types_tree.specs.Hierarchy.{HierarchyForm}
use Rattle.kt_types_order.specs.Below.{IsBelow}
use Rattle.kt_typed.specs.declared.operators.Width.{Width}
use Rattle.kt_typed.specs.declared.operators.Width.TheVariants as width
use Rattle.kt_typed.specs.declared.operators.ArithmeticOperator.{ArithmeticOperator}
use Rattle.kt_typed.specs.declared.operators.ArithmeticOperator.TheVariants as arithmetic
use Rattle.kt_typed.specs.declared.operators.BitwiseOperator.{BitwiseOperator}
use Rattle.kt_typed.specs.declared.operators.BitwiseOperator.TheVariants as bitwise
use Rattle.kt_typed.specs.declared.operators.ShiftOperator.{ShiftOperator}
use Rattle.kt_typed.specs.declared.operators.ShiftOperator.TheVariants as shift
use Rattle.kt_typed.specs.declared.operators.ComparisonOperator.{ComparisonOperator}
use Rattle.kt_typed.specs.declared.operators.ComparisonOperator.TheVariants as comparison
use Rattle.kt_typed.specs.declared.operators.Ordered.TheVariants as ordered
use Rattle.kt_typed.specs.declared.operators.TypedLiteral.TheVariants as is
use Rattle.kt_typed.specs.declared.operators.TypedOperator.{TypedOperator}
use Rattle.kt_typed.specs.declared.operators.TypedOperator.TheVariants as op
use Rattle.kt_typed.specs.Bodies.{ExpressionForm, literal, prefix, binary}
use Rattle.kt_flow.specs.Facts.{FactsForm, meet}
use Rattle.kt_check_rules.specs.Choices.{IsFirst, first_some, pairs, then_on}
use Rattle.kt_check_rules.specs.Kinds.{type_of, width_of, number_type, boolean_type, string_type, is_operand, may_be_null, present_type, IsCommon}
use Rattle.kt_types.specs.Kinds.{printable}
use Rattle.kt_types.specs.Kinds.{equatable}
use Rattle.kt_types.specs.Null.{bare}
use Rattle.kt_check_rules.specs.States.{Context, State, hierarchy, with_facts}
use Rattle.kt_check_rules.specs.Learning.{learnt}
use Rattle.kt_check_rules.specs.Typings.{Rule, Use, unused, as_value, meeting, IsTyped, GivesOne, GivesIf}

-- an operation, and the type of what it gives
abbrev pub Operation : Type 0
Operation = TypedOperator × TypeForm

-- `Int` beside `Long` gives `Long`
abbrev pub wider : Width → Width → Width
wider width.Int width.Int = width.Int
wider _ _ = width.Long

abbrev pub on_numbers : Option Width → Option Width → (Width → Operation) → Option Operation
on_numbers (Some v) (Some w) give = Some (give (wider v w))
on_numbers _ _ give = None

abbrev pub computed : ArithmeticOperator → TypeForm → TypeForm → Option Operation
computed a s t = on_numbers (width_of s) (width_of t) (λ w. (op.Arithmetic a w, number_type w))

abbrev pub is_string : TypeForm → Bool
is_string (typed false (of c.String ts)) = true
is_string _ = false

abbrev pub is_character : TypeForm → Bool
is_character (typed false (of c.Char ts)) = true
is_character _ = false

-- a string and what can be printed, else two numbers
abbrev pub added : HierarchyForm → TypeForm → TypeForm → Option Operation
added h s t =
    if is_string s then (if printable h t then Some (op.Concatenate, string_type) else None) else computed
    arithmetic.Plus s t

abbrev pub same_width : BitwiseOperator → Option Width → Option Width → Option Operation
same_width b (Some width.Int) (Some width.Int) = Some (op.Bitwise b width.Int, number_type width.Int)
same_width b (Some width.Long) (Some width.Long) = Some (op.Bitwise b width.Long, number_type width.Long)
same_width b _ _ = None

abbrev pub joined_bits : BitwiseOperator → TypeForm → TypeForm → Option Operation
joined_bits b s t = same_width b (width_of s) (width_of t)

-- the count is an `Int`
abbrev pub by_count : ShiftOperator → Option Width → Option Width → Option Operation
by_count d (Some w) (Some width.Int) = Some (op.Shift d w, number_type w)
by_count d _ _ = None

abbrev pub shifted : ShiftOperator → TypeForm → TypeForm → Option Operation
shifted d s t = by_count d (width_of s) (width_of t)

abbrev pub compared : ComparisonOperator → TypeForm → TypeForm → Option Operation
compared k s t =
    if is_character s && is_character t then Some (op.Compare k ordered.Characters, boolean_type) else
    on_numbers (width_of s) (width_of t) (λ w. (op.Compare k (ordered.Numbers w), boolean_type))

-- the operation that an operator is between two types
abbrev pub operation : HierarchyForm → BinaryOperator → TypeForm → TypeForm → Option Operation
operation h o.Plus s t = added h s t
operation h o.Minus s t = computed arithmetic.Minus s t
operation h o.Times s t = computed arithmetic.Times s t
operation h o.Divide s t = computed arithmetic.Divide s t
operation h o.Remainder s t = computed arithmetic.Remainder s t
operation h o.And s t = joined_bits bitwise.And s t
operation h o.Or s t = joined_bits bitwise.Or s t
operation h o.Xor s t = joined_bits bitwise.Xor s t
operation h o.Shl s t = shifted shift.Shl s t
operation h o.Shr s t = shifted shift.Shr s t
operation h o.Ushr s t = shifted shift.Ushr s t
operation h o.Less s t = compared comparison.Less s t
operation h o.Greater s t = compared comparison.Greater s t
operation h o.LessOrEqual s t = compared comparison.LessOrEqual s t
operation h o.GreaterOrEqual s t = compared comparison.GreaterOrEqual s t
operation h _ s t = None

abbrev pub applied : HierarchyForm → BinaryOperator → (ExpressionForm × ExpressionForm) → Option ExpressionForm
applied h k (u, v) = then_on (operation h k (type_of u) (type_of v)) (λ f. Some (binary f.1 f.0 u v))

-- two operands that are both evaluated, of which the first pair of typings counts that the operator allows
pub record Operations (K : Context) (k : BinaryOperator) (a b : Rule) (s : State) (w : Use)
    (us : List ExpressionForm) (behind : State) : Type 0 where
  pub lefts : List ExpressionForm
  pub rights : List ExpressionForm
  pub between : State
  pub end : State
  pub left : a s as_value lefts between
  pub right : b between as_value rights end
  pub gives : GivesIf (first_some (applied (hierarchy K) k) (pairs lefts rights)) end us behind

-- Equality.

abbrev pub is_null : ExpressionForm → Bool
is_null (literal t is.Null) = true
is_null _ = false

-- `null` beside a type that may be null
abbrev pub IsBesideNull : HierarchyForm → ExpressionForm → ExpressionForm → Type 0
IsBesideNull h u v = IsTrue (is_null u) × IsTrue (may_be_null h (type_of v))

-- without `?` one is a subtype of the other
abbrev pub AreRelated : HierarchyForm → TypeForm → TypeForm → Type 0
AreRelated h s t = IsBelow h (bare s) (bare t) ⊎ IsBelow h (bare t) (bare s)

abbrev pub AreEquated : HierarchyForm → ExpressionForm → ExpressionForm → Type 0
AreEquated h u v = IsTrue (equatable h (type_of u) && is_operand (type_of v)) × AreRelated h (type_of u) (type_of v)

abbrev pub AreComparable : HierarchyForm → (ExpressionForm × ExpressionForm) → Type 0
AreComparable h (u, v) = (IsBesideNull h u v ⊎ IsBesideNull h v u) ⊎ AreEquated h u v

pub record Equalities (K : Context) (k : TypedOperator) (a b : Rule) (s : State) (w : Use)
    (us : List ExpressionForm) (behind : State) : Type 0 where
  pub lefts : List ExpressionForm
  pub rights : List ExpressionForm
  pub between : State
  pub end : State
  pub chosen : ExpressionForm × ExpressionForm
  pub left : a s as_value lefts between
  pub right : b between as_value rights end
  pub first : IsFirst (AreComparable (hierarchy K)) (pairs lefts rights) chosen
  pub gives : GivesOne (binary boolean_type k chosen.0 chosen.1) end us behind

-- Operators that may leave the right side out.

-- what a test gives where it holds, or doesn't
abbrev pub after_test : Context → Bool → ExpressionForm → State → FactsForm
after_test K holds u s = learnt (hierarchy K) s.book.locals holds u s.facts

-- the right side is evaluated where the left is as the first says
pub record Connectives (K : Context) (goes_on : Bool) (k : TypedOperator) (a b : Rule) (s : State) (w : Use)
    (us : List ExpressionForm) (behind : State) : Type 0 where
  pub u : ExpressionForm
  pub v : ExpressionForm
  pub between : State
  pub end : State
  pub left : IsTyped K a s (meeting boolean_type) u between
  pub right : IsTyped K b (with_facts (after_test K goes_on u between) between) (meeting boolean_type) v end
  pub gives :
      GivesOne (binary boolean_type k u v)
      (with_facts (meet (after_test K (not goes_on) u between) end.facts) end)
      us
      behind

-- both sides meet what is expected, the left with `?`
abbrev pub left_use : Use → Use
left_use (meeting t) = meeting (or_null true t)
left_use as_value = as_value
left_use unused = as_value

abbrev pub value_use : Use → Use
value_use (meeting t) = meeting t
value_use as_value = as_value
value_use unused = as_value

-- the type of a whole whose parts have these types: what is expected, else the one that is above all
abbrev pub HasType : Context → Use → List TypeForm → TypeForm → Type 0
HasType K (meeting t) ts u = u ≡ t
HasType K as_value ts u = IsCommon (hierarchy K) ts u
HasType K unused ts u = IsCommon (hierarchy K) ts u

pub record Elvises (K : Context) (a b : Rule) (s : State) (w : Use) (us : List ExpressionForm) (behind : State)
    : Type 0 where
  pub u : ExpressionForm
  pub v : ExpressionForm
  pub whole : TypeForm
  pub between : State
  pub end : State
  pub left : IsTyped K a s (left_use w) u between
  pub right : IsTyped K b between (value_use w) v end
  pub has : HasType K w (present_type (hierarchy K) (type_of u) ∷ type_of v ∷ []) whole
  pub gives : GivesOne (binary whole op.Elvis u v) (with_facts (meet between.facts end.facts) end) us behind

-- which rule an operator has
abbrev pub Binaries : Context → BinaryOperator → Rule → Rule → Rule
Binaries K o.Disjunction a b s w us behind = Connectives K false op.Disjunction a b s w us behind
Binaries K o.Conjunction a b s w us behind = Connectives K true op.Conjunction a b s w us behind
Binaries K o.Equal a b s w us behind = Equalities K op.Equal a b s w us behind
Binaries K o.NotEqual a b s w us behind = Equalities K op.NotEqual a b s w us behind
Binaries K o.Elvis a b s w us behind = Elvises K a b s w us behind
Binaries K k a b s w us behind = Operations K k a b s w us behind

-- Operators in front.

abbrev pub negated_width : ExpressionForm → Option Width → Option ExpressionForm
negated_width u None = None
negated_width u (Some w) = Some (prefix (number_type w) before.Negate u)

abbrev pub negated : ExpressionForm → Option ExpressionForm
negated u = negated_width u (width_of (type_of u))

-- the use is that of the operand
pub record Negations (e : Rule) (inner : Use) (s : State) (w : Use) (us : List ExpressionForm) (behind : State)
    : Type 0 where
  pub operands : List ExpressionForm
  pub end : State
  pub operand : e s inner operands end
  pub gives : GivesIf (first_some negated operands) end us behind

pub record Nots (K : Context) (e : Rule) (s : State) (w : Use) (us : List ExpressionForm) (behind : State)
    : Type 0 where
  pub u : ExpressionForm
  pub end : State
  pub operand : IsTyped K e s (meeting boolean_type) u end
  pub gives : GivesOne (prefix boolean_type before.Not u) end us behind
