-- Type tests, casts, `!!`, elements and members (Kotlin specification, "Type-checking and containment-checking
-- expressions", "Cast expressions", "Postfix operator expressions", "Navigation operators").
use Rattle.std.specs.Option.{option_map}
use Rattle.std.specs.Prelude.{ℕ, Bool, true, false, List, Option, Some, None, ◌≡◌, IsTrue}
use Rattle.kt_types_tree.specs.declared.types.TypeConstructor.TheVariants as c
use Rattle.kt_types_tree.specs.Types.{TypeForm, typed, of, or_null, forms_end, form_then}
use Rattle.kt_typed.specs.declared.operators.TypedProperty.{TypedProperty}
use Rattle.kt_types_tree.specs.Hierarchy.{HierarchyForm}
use Rattle.kt_types_builtins.specs.declared.members.BuiltInMember.{BuiltInMember}
use Rattle.kt_check_rules.specs.Builtins.{built_in_member, as_property, result_type}
use Rattle.kt_typed.specs.Bodies.{ExpressionForm, type_test, cast, not_null, index, property, ReceiverForm, plain, safe}
use Rattle.kt_check_rules.specs.Choices.{first_some, pairs, then_on}
use Rattle.kt_check_rules.specs.Kinds.{type_of, int_type, char_type, boolean_type, present_type, is_testable}
use Rattle.kt_types.specs.Null.{bare}
use Rattle.kt_check_rules.specs.States.{Context, State, hierarchy}
use Rattle.kt_check_rules.specs.Typings.{Rule, Use, as_value, IsTyped, GivesOne, GivesIf}

-- the type is what is written means, where it has a meaning
pub record TypeTests (K : Context) (e : Rule) (is_negated : Bool) (meant : Option TypeForm) (s : State) (w : Use)
    (us : List ExpressionForm) (behind : State) : Type 0 where
  pub u : ExpressionForm
  pub tested : TypeForm
  pub end : State
  pub operand : IsTyped K e s as_value u end
  pub means : meant ≡ Some tested
  pub allowed : IsTrue (is_testable (hierarchy K) tested)
  pub gives : GivesOne (type_test boolean_type u is_negated tested) end us behind

-- `as?` gives null where `as` throws
pub record Casts (K : Context) (e : Rule) (gives_null : Bool) (meant : Option TypeForm) (s : State) (w : Use)
    (us : List ExpressionForm) (behind : State) : Type 0 where
  pub u : ExpressionForm
  pub wanted : TypeForm
  pub end : State
  pub operand : IsTyped K e s as_value u end
  pub means : meant ≡ Some wanted
  pub allowed : IsTrue (is_testable (hierarchy K) wanted)
  pub gives : GivesOne (cast (or_null gives_null wanted) u gives_null wanted) end us behind

pub record NotNulls (K : Context) (e : Rule) (s : State) (w : Use) (us : List ExpressionForm) (behind : State)
    : Type 0 where
  pub u : ExpressionForm
  pub end : State
  pub operand : IsTyped K e s as_value u end
  pub gives : GivesOne (not_null (present_type (hierarchy K) (type_of u)) u) end us behind

-- Elements.

-- of an array
abbrev pub element_type : TypeForm → Option TypeForm
element_type (typed false (of c.IntArray ts)) = Some int_type
element_type (typed false (of c.Array (form_then t forms_end))) = Some t
element_type _ = None

-- of an array, or a character of a string
abbrev pub indexed_type : TypeForm → Option TypeForm
indexed_type (typed false (of c.String ts)) = Some char_type
indexed_type t = element_type t

abbrev pub at_int : {A : Type 0} → TypeForm → Option A → Option A
at_int (typed false (of c.Int ts)) o = o
at_int _ o = None

abbrev pub indexed : ExpressionForm → ExpressionForm → Option TypeForm → Option ExpressionForm
indexed u v None = None
indexed u v (Some t) = Some (index t u v)

abbrev pub element_of : (ExpressionForm × ExpressionForm) → Option ExpressionForm
element_of (u, v) = at_int (type_of v) (indexed u v (indexed_type (type_of u)))

pub record Elements (a i : Rule) (s : State) (w : Use) (us : List ExpressionForm) (behind : State) : Type 0 where
  pub arrays : List ExpressionForm
  pub indices : List ExpressionForm
  pub between : State
  pub end : State
  pub array : a s as_value arrays between
  pub at : i between as_value indices end
  pub gives : GivesIf (first_some element_of (pairs arrays indices)) end us behind

-- Members.

abbrev pub Member : Type 0
Member = TypedProperty × TypeForm

-- the built-in properties
abbrev pub property_of : TypeForm → BuiltInMember → Option Member
property_of t m = option_map (λ p. (p, result_type t m)) (as_property m)

abbrev pub member_of : HierarchyForm → TypeForm → List ℕ → Option Member
member_of h t x = then_on (built_in_member h t x) (property_of t)

-- what a member is asked of: behind `?.` the type without `?`
abbrev pub asked_of : Bool → TypeForm → TypeForm
asked_of true t = bare t
asked_of false t = t

abbrev pub receiver : Bool → ExpressionForm → ReceiverForm
receiver true u = safe u
receiver false u = plain u

abbrev pub read_member : Bool → ExpressionForm → Option Member → Option ExpressionForm
read_member is_safe u None = None
read_member is_safe u (Some p) = Some (property (or_null is_safe p.1) (receiver is_safe u) p.0)

abbrev pub member_read : HierarchyForm → Bool → List ℕ → ExpressionForm → Option ExpressionForm
member_read h is_safe x u = read_member is_safe u (member_of h (asked_of is_safe (type_of u)) x)

pub record Members (K : Context) (e : Rule) (is_safe : Bool) (x : List ℕ) (s : State)
    (w : Use) (us : List ExpressionForm)
    (behind : State) : Type 0 where
  pub receivers : List ExpressionForm
  pub end : State
  pub of_what : e s as_value receivers end
  pub gives : GivesIf (first_some (member_read (hierarchy K) is_safe x) receivers) end us behind
