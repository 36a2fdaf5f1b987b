-- The value of a constant has the type that the rules give it.
use Rattle.std.specs.Prelude.{ℕ, ℤ, Bool, true, false, ◌≡◌, ◌&&◌, ◌||◌, Option, Some, None, nat_le, refl, if◌then◌else◌}
use Rattle.std.specs.Option.{option_map}
use Rattle.std.proofs.Common.{ap, sym, ◌∙◌, subst}
use Rattle.kt_tree.specs.declared.bodies.Literal.{Literal}
use Rattle.kt_tree.specs.declared.bodies.Literal.TheVariants as written
use Rattle.kt_tree.specs.declared.declarations.ConstantValue.{ConstantValue}
use Rattle.kt_tree.specs.declared.declarations.ConstantValue.TheVariants as value
use Rattle.kt_types_tree.specs.declared.types.TypeConstructor.{TypeConstructor}
use Rattle.kt_types_tree.specs.declared.types.TypeConstructor.TheVariants as constructor
use Rattle.kt_types_tree.specs.Types.{TypeForm, ShapeForm, TypeForms, typed, nothing, any, parameter, of, forms_end, form_then}
use Rattle.kt_typed.specs.declared.headers.ConstantLiteral.{ConstantLiteral}
use Rattle.kt_typed.specs.declared.headers.ConstantLiteral.TheVariants as literal
use Rattle.kt_decls_rules.specs.Constants as rules
use Rattle.kt_decls_rules.specs.Constants.{IsConstantOf, basic, value_type, literal_type, number_value, number_size}
use Rattle.kt_decls_table.specs.Constants.{constant_value, literal_value, number_literal, number_of, unless, constructor_of, is_int, is_long, is_boolean, is_char, is_string, is_value_of, is_long_type, fits}

-- The type of the value.

number_type : (long minus : Bool) (n : ℕ) → Some (constructor_of (number_of long minus n)) ≡ Some (if long then constructor.Long else constructor.Int)
number_type true minus n = refl
number_type false minus n = refl

number_typed : (long minus : Bool) (o : Option ℕ) → option_map constructor_of (number_literal long minus o) ≡ number_value long o
number_typed long minus None = refl
number_typed long minus (Some n) = number_type (long || nat_le 2147483648 n) minus n

unless_typed : (minus : Bool) (l : ConstantLiteral) → option_map constructor_of (unless minus l) ≡ rules.unless minus (constructor_of l)
unless_typed true l = refl
unless_typed false l = refl

literal_typed : (expects minus : Bool) (l : Literal) → option_map constructor_of (literal_value expects minus l) ≡ literal_type expects minus l
literal_typed expects minus (written.Number n) = number_typed (expects || n.long) minus n.value
literal_typed expects minus (written.Character c) = unless_typed minus (literal.Char c)
literal_typed expects minus written.True = unless_typed minus (literal.Boolean true)
literal_typed expects minus written.False = unless_typed minus (literal.Boolean false)
literal_typed expects minus written.Null = refl

value_typed : (expects : Bool) (v : ConstantValue) → option_map constructor_of (constant_value expects v) ≡ value_type expects v
value_typed expects (value.Literal minus l) = literal_typed expects minus l
value_typed expects (value.Text ps) = refl

pub type_of_value : (expects : Bool) (v : ConstantValue) (l : ConstantLiteral) → constant_value expects v ≡ Some l → value_type expects v ≡ Some (constructor_of l)
type_of_value expects v l e = sym (value_typed expects v) ∙ ap (option_map constructor_of) e

mapped : (o : Option ConstantLiteral) (k : TypeConstructor) → option_map constructor_of o ≡ Some k → (l : ConstantLiteral) × ((o ≡ Some l) × (constructor_of l ≡ k))
mapped None k e = absurd cc
mapped (Some l) k e = (l, (refl, same (constructor_of l) k e))
  where
    same : (j k : TypeConstructor) → Some j ≡ Some k → j ≡ k
    same j k e = cc

pub value_of_type : (expects : Bool) (v : ConstantValue) (k : TypeConstructor) → value_type expects v ≡ Some k → (l : ConstantLiteral) × ((constant_value expects v ≡ Some l) × (constructor_of l ≡ k))
value_of_type expects v k e = mapped (constant_value expects v) k (value_typed expects v ∙ e)

-- A type is that of the value where it is basic and has the same constructor.

only_int : (c : TypeConstructor) → is_int c ≡ true → constructor.Int ≡ c
only_int constructor.Int e = refl
only_int _ e = absurd cc

only_long : (c : TypeConstructor) → is_long c ≡ true → constructor.Long ≡ c
only_long constructor.Long e = refl
only_long _ e = absurd cc

only_boolean : (c : TypeConstructor) → is_boolean c ≡ true → constructor.Boolean ≡ c
only_boolean constructor.Boolean e = refl
only_boolean _ e = absurd cc

only_char : (c : TypeConstructor) → is_char c ≡ true → constructor.Char ≡ c
only_char constructor.Char e = refl
only_char _ e = absurd cc

only_string : (c : TypeConstructor) → is_string c ≡ true → constructor.String ≡ c
only_string constructor.String e = refl
only_string _ e = absurd cc

constructor_is : (l : ConstantLiteral) (c : TypeConstructor) → is_value_of l c ≡ true → constructor_of l ≡ c
constructor_is (literal.Int n) c e = only_int c e
constructor_is (literal.Long n) c e = only_long c e
constructor_is (literal.Boolean b) c e = only_boolean c e
constructor_is (literal.Char u) c e = only_char c e
constructor_is (literal.Text ps) c e = only_string c e

own_constructor : (l : ConstantLiteral) → is_value_of l (constructor_of l) ≡ true
own_constructor (literal.Int n) = refl
own_constructor (literal.Long n) = refl
own_constructor (literal.Boolean b) = refl
own_constructor (literal.Char u) = refl
own_constructor (literal.Text ps) = refl

fits_own : (l : ConstantLiteral) (k : TypeConstructor) (t : TypeForm) → constructor_of l ≡ k → basic k ≡ t → fits l t ≡ true
fits_own l k t d e = subst (λ u. fits l u ≡ true) (ap basic d ∙ e) (own_constructor l)

-- With a written type.

OfOther : ConstantValue → TypeForm → Type 0
OfOther v t = (c : TypeConstructor) × ((value_type false v ≡ Some c) × (basic c ≡ t))

other_sound : (v : ConstantValue) (l : ConstantLiteral) (c : TypeConstructor) → constant_value false v ≡ Some l → is_value_of l c ≡ true → OfOther v (basic c)
unfolding OfOther
other_sound v l c e is = (constructor_of l, (type_of_value false v l e, ap basic (constructor_is l c is)))

other_complete : (v : ConstantValue) (t : TypeForm) → OfOther v t → (l : ConstantLiteral) × ((constant_value false v ≡ Some l) × (fits l t ≡ true))
unfolding OfOther
other_complete v t is =
    let l = value_of_type false v is.0 is.1.0 in
    (l.0, (l.1.0, fits_own l.0 is.0 t l.1.1 is.1.1))

no_other : (v : ConstantValue) (t : TypeForm) → ((c : TypeConstructor) → basic c ≡ t → ⊥) → OfOther v t → ⊥
unfolding OfOther
no_other v t never is = never is.0 is.1.1

pub fits_if : (t : TypeForm) (v : ConstantValue) (l : ConstantLiteral) → constant_value (is_long_type t) v ≡ Some l → fits l t ≡ true → IsConstantOf (Some t) v
unfolding OfOther
fits_if (typed true s) v l e f = absurd cc
fits_if (typed false nothing) v l e f = absurd cc
fits_if (typed false any) v l e f = absurd cc
fits_if (typed false (parameter row place)) v l e f = absurd cc
fits_if (typed false (of c (form_then t ts))) v l e f = absurd cc
fits_if (typed false (of constructor.Int forms_end)) v l e f = other_sound v l constructor.Int e f
fits_if (typed false (of constructor.Long forms_end)) v l e f = type_of_value true v l e ∙ ap Some (constructor_is l constructor.Long f)
fits_if (typed false (of constructor.Boolean forms_end)) v l e f = other_sound v l constructor.Boolean e f
fits_if (typed false (of constructor.Char forms_end)) v l e f = other_sound v l constructor.Char e f
fits_if (typed false (of constructor.String forms_end)) v l e f = other_sound v l constructor.String e f
fits_if (typed false (of constructor.Unit forms_end)) v l e f = other_sound v l constructor.Unit e f
fits_if (typed false (of constructor.IntArray forms_end)) v l e f = other_sound v l constructor.IntArray e f
fits_if (typed false (of constructor.Array forms_end)) v l e f = other_sound v l constructor.Array e f
fits_if (typed false (of constructor.Continuation forms_end)) v l e f = other_sound v l constructor.Continuation e f
fits_if (typed false (of (constructor.Class row) forms_end)) v l e f = other_sound v l (constructor.Class row) e f
fits_if (typed false (of (constructor.Function suspends) forms_end)) v l e f = other_sound v l (constructor.Function suspends) e f

never_null : (s : ShapeForm) (c : TypeConstructor) → basic c ≡ typed true s → ⊥
never_null s c e = absurd cc

never_nothing : (c : TypeConstructor) → basic c ≡ typed false nothing → ⊥
never_nothing c e = absurd cc

never_any : (c : TypeConstructor) → basic c ≡ typed false any → ⊥
never_any c e = absurd cc

never_parameter : (row place : ℕ) (c : TypeConstructor) → basic c ≡ typed false (parameter row place) → ⊥
never_parameter row place c e = absurd cc

applied : (v : ConstantValue) (d : TypeConstructor) (t : TypeForm) (ts : TypeForms) → OfOther v (typed false (of d (form_then t ts))) → ⊥
applied v d t ts is = no_other v (typed false (of d (form_then t ts))) (λ c e. never_applied d t ts c e) is
  where
    never_applied : (d : TypeConstructor) (t : TypeForm) (ts : TypeForms) (c : TypeConstructor) → basic c ≡ typed false (of d (form_then t ts)) → ⊥
    never_applied d t ts c e = absurd cc

pub only_if_fits : (t : TypeForm) (v : ConstantValue) → IsConstantOf (Some t) v → (l : ConstantLiteral) × ((constant_value (is_long_type t) v ≡ Some l) × (fits l t ≡ true))
unfolding OfOther
only_if_fits (typed true s) v is = absurd (no_other v (typed true s) (never_null s) is)
only_if_fits (typed false nothing) v is = absurd (no_other v (typed false nothing) never_nothing is)
only_if_fits (typed false any) v is = absurd (no_other v (typed false any) never_any is)
only_if_fits (typed false (parameter row place)) v is = absurd (no_other v (typed false (parameter row place)) (never_parameter row place) is)
only_if_fits (typed false (of constructor.Long forms_end)) v is =
    let l = value_of_type true v constructor.Long is in
    (l.0, (l.1.0, fits_own l.0 constructor.Long (basic constructor.Long) l.1.1 refl))
only_if_fits (typed false (of constructor.Int forms_end)) v is = other_complete v (basic constructor.Int) is
only_if_fits (typed false (of constructor.Boolean forms_end)) v is = other_complete v (basic constructor.Boolean) is
only_if_fits (typed false (of constructor.Char forms_end)) v is = other_complete v (basic constructor.Char) is
only_if_fits (typed false (of constructor.String forms_end)) v is = other_complete v (basic constructor.String) is
only_if_fits (typed false (of constructor.Unit forms_end)) v is = other_complete v (basic constructor.Unit) is
only_if_fits (typed false (of constructor.IntArray forms_end)) v is = other_complete v (basic constructor.IntArray) is
only_if_fits (typed false (of constructor.Array forms_end)) v is = other_complete v (basic constructor.Array) is
only_if_fits (typed false (of constructor.Continuation forms_end)) v is = other_complete v (basic constructor.Continuation) is
only_if_fits (typed false (of (constructor.Class row) forms_end)) v is = other_complete v (basic (constructor.Class row)) is
only_if_fits (typed false (of (constructor.Function suspends) forms_end)) v is = other_complete v (basic (constructor.Function suspends)) is
only_if_fits (typed false (of constructor.Long (form_then t ts))) v is = absurd (applied v constructor.Long t ts is)
only_if_fits (typed false (of constructor.Int (form_then t ts))) v is = absurd (applied v constructor.Int t ts is)
only_if_fits (typed false (of constructor.Boolean (form_then t ts))) v is = absurd (applied v constructor.Boolean t ts is)
only_if_fits (typed false (of constructor.Char (form_then t ts))) v is = absurd (applied v constructor.Char t ts is)
only_if_fits (typed false (of constructor.String (form_then t ts))) v is = absurd (applied v constructor.String t ts is)
only_if_fits (typed false (of constructor.Unit (form_then t ts))) v is = absurd (applied v constructor.Unit t ts is)
only_if_fits (typed false (of constructor.IntArray (form_then t ts))) v is = absurd (applied v constructor.IntArray t ts is)
only_if_fits (typed false (of constructor.Array (form_then t ts))) v is = absurd (applied v constructor.Array t ts is)
only_if_fits (typed false (of constructor.Continuation (form_then t ts))) v is = absurd (applied v constructor.Continuation t ts is)
only_if_fits (typed false (of (constructor.Class row) (form_then t ts))) v is = absurd (applied v (constructor.Class row) t ts is)
only_if_fits (typed false (of (constructor.Function suspends) (form_then t ts))) v is = absurd (applied v (constructor.Function suspends) t ts is)
