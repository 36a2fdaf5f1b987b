-- The literals of constants.
use Rattle.std.specs.Prelude.{ℕ, Bool, true, false, ◌||◌, nat_le, Option, Some, None, if◌then◌else◌, ◌≡◌}
use Rattle.kt_tree.specs.declared.bodies.Literal.{Literal}
use Rattle.kt_tree.specs.declared.bodies.Literal.TheVariants as literal
use Rattle.kt_tree.specs.declared.declarations.ConstantValue.{ConstantValue}
use Rattle.kt_tree.specs.declared.declarations.ConstantValue.TheVariants as value
use Rattle.kt_types_tree.specs.declared.types.TypeConstructor.{TypeConstructor}
use Rattle.kt_types_tree.specs.declared.types.TypeConstructor.TheVariants as constructor
use Rattle.kt_types_tree.specs.Types.{TypeForm, typed, of, forms_end}

-- a number is a `Long` with `L`, where it is greater than every `Int`, and where a `Long` is expected; one above the
-- greatest `Long` has no type
abbrev pub number_size : Bool → ℕ → TypeConstructor
number_size expects_long n = if expects_long || nat_le 2147483648 n then constructor.Long else constructor.Int

abbrev pub number_value : Bool → Option ℕ → Option TypeConstructor
number_value expects_long None = None
number_value expects_long (Some n) = Some (number_size expects_long n)

abbrev pub unless : Bool → TypeConstructor → Option TypeConstructor
unless true c = None
unless false c = Some c

-- the basic type of a literal, with a `-` before it where so, which only a number has
abbrev pub literal_type : Bool → Bool → Literal → Option TypeConstructor
literal_type expects_long minus (literal.Number n) = number_value (expects_long || n.long) n.value
literal_type expects_long minus (literal.Character c) = unless minus constructor.Char
literal_type expects_long minus literal.True = unless minus constructor.Boolean
literal_type expects_long minus literal.False = unless minus constructor.Boolean
literal_type expects_long minus literal.Null = None

abbrev pub value_type : Bool → ConstantValue → Option TypeConstructor
value_type expects_long (value.Literal minus l) = literal_type expects_long minus l
value_type expects_long (value.Text ps) = Some constructor.String

abbrev pub basic : TypeConstructor → TypeForm
basic c = typed false (of c forms_end)

-- without a written type, and with what it means: the literal has that type
abbrev pub IsConstantOf : Option TypeForm → ConstantValue → Type 0
IsConstantOf None v = (c : TypeConstructor) × (value_type false v ≡ Some c)
IsConstantOf (Some (typed false (of constructor.Long forms_end))) v = value_type true v ≡ Some constructor.Long
IsConstantOf (Some t) v = (c : TypeConstructor) × ((value_type false v ≡ Some c) × (basic c ≡ t))
