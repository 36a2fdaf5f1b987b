-- Literals and strings (Kotlin specification, "Constant literals", "String interpolation expressions").
use Rattle.std.specs.Prelude.{ℕ, Bool, true, false, List, Option, Some, None, ◌≡◌, nat_le, pos, if◌then◌else◌}
use Rattle.kt_tree.specs.declared.bodies.TextPart.{TextPart}
use Rattle.kt_tree.specs.declared.bodies.Literal.{Literal}
use Rattle.kt_tree.specs.declared.bodies.Literal.TheVariants as written
use Rattle.kt_tree.specs.Bodies as tree
use Rattle.kt_tree.specs.Bodies.{ExpressionTree}
use Rattle.kt_types_tree.specs.declared.types.TypeConstructor.TheVariants as c
use Rattle.kt_types_tree.specs.Types.{TypeForm, typed, nothing, of}
use Rattle.kt_typed.specs.declared.operators.TypedLiteral.TheVariants as is
use Rattle.kt_typed.specs.Bodies.{ExpressionForm, literal, template, PartForm, text, printed, parts_of}
use Rattle.kt_check_rules.specs.Kinds.{int_type, long_type, boolean_type, char_type, string_type, type_of}
use Rattle.kt_types.specs.Kinds.{printable}
use Rattle.kt_check_rules.specs.States.{Context, State, hierarchy}
use Rattle.kt_check_rules.specs.Typings.{Rule, Use, unused, as_value, meeting, IsChosen, GivesIf, GivesOne}

abbrev pub is_long : TypeForm → Bool
is_long (typed n (of c.Long ts)) = true
is_long _ = false

-- `Long` or `Long?` is expected
abbrev pub wants_long : Use → Bool
wants_long (meeting t) = is_long t
wants_long as_value = false
wants_long unused = false

abbrev pub int_literal : ℕ → ExpressionForm
int_literal v = literal int_type (is.Int (pos v))

abbrev pub long_literal : ℕ → ExpressionForm
long_literal v = literal long_type (is.Long (pos v))

-- A number without `L` is an `Int` up to the greatest one, and a `Long` above that; a `Long` also where one is
-- expected.
abbrev pub number_of : Use → Bool → ℕ → ExpressionForm
number_of w true v = long_literal v
number_of w false v =
    if nat_le v 2147483647 then (if wants_long w then long_literal v else int_literal v) else long_literal v

-- a number above the greatest `Long` has no type
abbrev pub number_if : Use → Bool → Option ℕ → Option ExpressionForm
number_if w long None = None
number_if w long (Some v) = if nat_le v 9223372036854775807 then Some (number_of w long v) else None

abbrev pub literal_of : Use → Literal → Option ExpressionForm
literal_of w (written.Number n) = number_if w n.long n.value
literal_of w (written.Character u) = Some (literal char_type (is.Char u))
literal_of w written.True = Some (literal boolean_type (is.Boolean true))
literal_of w written.False = Some (literal boolean_type (is.Boolean false))
literal_of w written.Null = Some (literal (typed true nothing) is.Null)

abbrev pub Literals : Literal → Rule
Literals l s w us behind = GivesIf (literal_of w l) s us behind

-- A number stands alone, for what is expected of it, also in parentheses and behind one `-`.
abbrev pub behind_minus : ExpressionTree → Use → Use
behind_minus (tree.literal at l) w = w
behind_minus (tree.parenthesized at e) w = behind_minus e w
behind_minus _ w = as_value

-- Parts of a string.

abbrev pub TextParts : TextPart → State → PartForm → State → Type 0
TextParts t s p behind = (p ≡ text t) × (behind ≡ s)

abbrev pub can_print : Context → ExpressionForm → Bool
can_print K u = printable (hierarchy K) (type_of u)

-- an expression that is printed
pub record PrintedParts (K : Context) (e : Rule) (s : State) (p : PartForm) (behind : State) : Type 0 where
  pub value : ExpressionForm
  pub chosen : IsChosen (can_print K) e s value behind
  pub whole : p ≡ printed value

pub record Templates (parts : State → List PartForm → State → Type 0) (s : State) (w : Use)
    (us : List ExpressionForm) (behind : State) : Type 0 where
  pub all : List PartForm
  pub end : State
  pub are : parts s all end
  pub gives : GivesOne (template string_type (parts_of all)) end us behind
