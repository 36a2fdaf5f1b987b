-- The headers of constants.
use Rattle.std.specs.Prelude.{ℕ, ℤ, Bool, true, false, List, [], ◌&&◌, ◌||◌, Option, Some, None, nat_le, not, if◌then◌else◌}
use Rattle.std.specs.Int.{Width, w32, w64, cast_signed, int_wrapping_neg}
use Rattle.kt_tree.specs.declared.bodies.Literal.{Literal}
use Rattle.kt_tree.specs.declared.bodies.Literal.TheVariants as written
use Rattle.kt_tree.specs.declared.declarations.ConstantValue.{ConstantValue}
use Rattle.kt_tree.specs.declared.declarations.ConstantValue.TheVariants as value
use Rattle.kt_tree.specs.Types.{TypeTree}
use Rattle.kt_tree.specs.Declarations.{ConstantTree}
use Rattle.kt_types_tree.specs.declared.types.TypeConstructor.{TypeConstructor}
use Rattle.kt_types_tree.specs.declared.types.TypeConstructor.TheVariants as constructor
use Rattle.kt_types_tree.specs.Types.{TypeForm, ShapeForm, typed, nothing, any, parameter, of}
use Rattle.kt_typed.specs.declared.headers.ConstantLiteral.{ConstantLiteral}
use Rattle.kt_typed.specs.declared.headers.ConstantLiteral.TheVariants as literal
use Rattle.kt_typed.specs.Headers.{ConstantForm}
use Rattle.kt_decls_types.specs.References.{resolved, then_on}
use Rattle.kt_decls_rules.specs.Names.{Taken, a_value, is_reserved}
use Rattle.kt_decls_rules.specs.Constants.{basic}
use Rattle.kt_decls_table.specs.Classes.{Classes}
use Rattle.kt_decls_table.specs.Functions.{are_no_forms}

-- the number, with a `-` before it where so
abbrev pub signed : Width → Bool → ℕ → ℤ
signed w minus n = if minus then int_wrapping_neg w (cast_signed w n) else cast_signed w n

abbrev pub number_of : Bool → Bool → ℕ → ConstantLiteral
number_of true minus n = literal.Long (signed w64 minus n)
number_of false minus n = literal.Int (signed w32 minus n)

-- a `Long` where it is one, and where it is greater than every `Int`
abbrev pub number_literal : Bool → Bool → Option ℕ → Option ConstantLiteral
number_literal long minus None = None
number_literal long minus (Some n) = Some (number_of (long || nat_le 2147483648 n) minus n)

-- only a number has a `-` before it
abbrev pub unless : Bool → ConstantLiteral → Option ConstantLiteral
unless minus l = if minus then None else Some l

abbrev pub literal_value : Bool → Bool → Literal → Option ConstantLiteral
literal_value expects_long minus (written.Number n) = number_literal (expects_long || n.long) minus n.value
literal_value expects_long minus (written.Character c) = unless minus (literal.Char c)
literal_value expects_long minus written.True = unless minus (literal.Boolean true)
literal_value expects_long minus written.False = unless minus (literal.Boolean false)
literal_value expects_long minus written.Null = None

-- the value of a constant, where a `Long` is expected or isn't
abbrev pub constant_value : Bool → ConstantValue → Option ConstantLiteral
constant_value expects_long (value.Literal minus l) = literal_value expects_long minus l
constant_value expects_long (value.Text ps) = Some (literal.Text ps)

-- the basic type of a value
abbrev pub constructor_of : ConstantLiteral → TypeConstructor
constructor_of (literal.Int n) = constructor.Int
constructor_of (literal.Long n) = constructor.Long
constructor_of (literal.Boolean b) = constructor.Boolean
constructor_of (literal.Char c) = constructor.Char
constructor_of (literal.Text ps) = constructor.String

abbrev pub is_int : TypeConstructor → Bool
is_int constructor.Int = true
is_int _ = false

abbrev pub is_long : TypeConstructor → Bool
is_long constructor.Long = true
is_long _ = false

abbrev pub is_boolean : TypeConstructor → Bool
is_boolean constructor.Boolean = true
is_boolean _ = false

abbrev pub is_char : TypeConstructor → Bool
is_char constructor.Char = true
is_char _ = false

abbrev pub is_string : TypeConstructor → Bool
is_string constructor.String = true
is_string _ = false

abbrev pub is_value_of : ConstantLiteral → TypeConstructor → Bool
is_value_of (literal.Int n) c = is_int c
is_value_of (literal.Long n) c = is_long c
is_value_of (literal.Boolean b) c = is_boolean c
is_value_of (literal.Char u) c = is_char c
is_value_of (literal.Text ps) c = is_string c

-- whether a type is `Long`
abbrev pub is_long_shape : ShapeForm → Bool
is_long_shape nothing = false
is_long_shape any = false
is_long_shape (parameter row place) = false
is_long_shape (of c ts) = are_no_forms ts && is_long c

abbrev pub is_long_type : TypeForm → Bool
is_long_type (typed n s) = if n then false else is_long_shape s

-- whether a type is that of a value
abbrev pub fits_shape : ConstantLiteral → ShapeForm → Bool
fits_shape l nothing = false
fits_shape l any = false
fits_shape l (parameter row place) = false
fits_shape l (of c ts) = are_no_forms ts && is_value_of l c

abbrev pub fits : ConstantLiteral → TypeForm → Bool
fits l (typed n s) = if n then false else fits_shape l s

abbrev pub form_of : ConstantTree → TypeForm → ConstantLiteral → ConstantForm
form_of c t l = record { at = c.at; name = c.name; annotation = t; value = l }

abbrev pub with_value : ConstantTree → TypeForm → ConstantLiteral → Option ConstantForm
with_value c t l = if fits l t then Some (form_of c t l) else None

-- with what the written type means
abbrev pub typed_header : ConstantTree → TypeForm → Option ConstantForm
typed_header c t = then_on (constant_value (is_long_type t) c.value) (with_value c t)

-- without a written type: that of the value
abbrev pub own_form : ConstantTree → ConstantLiteral → Option ConstantForm
own_form c l = Some (form_of c (basic (constructor_of l)) l)

abbrev pub own_header : ConstantTree → Option ConstantForm
own_header c = then_on (constant_value false c.value) (own_form c)

abbrev pub constant_header : Classes → ConstantTree → Option TypeTree → Option ConstantForm
constant_header classes c None = own_header c
constant_header classes c (Some x) = then_on (resolved classes [] x) (typed_header c)

abbrev pub header_if : Classes → ConstantTree → Bool → Option ConstantForm
header_if classes c fine = if fine then constant_header classes c c.annotation else None

abbrev pub is_fine_name : List ℕ → Bool → Bool
is_fine_name x is_free = is_free && not (is_reserved x)

-- the header of a constant, beside what is taken
abbrev pub top_constant : Classes → (Taken → Bool) → ConstantTree → Option ConstantForm
top_constant classes taken c = header_if classes c (is_fine_name c.name (not (taken (a_value c.name))))
