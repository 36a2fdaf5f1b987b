-- Kinds of values, and where one may stand for another (JVMS SE 8 §4.10.1.2).
use Rattle.std.specs.Prelude.{◌≡◌, ℕ, ◌+◌, ◌==◌, ◌&&◌, Bool, true, false, List, [], ◌∷◌, Option, Some, None, slice_get}
use Rattle.std.specs.List.{list_any}
use Rattle.class_linked.specs.declared.kinds.Kind.{Kind}
use Rattle.class_linked.specs.declared.kinds.Kind.TheVariants.{Top, Int, Long, Null, Object, Fresh, FreshThis}
use Rattle.class_linked.specs.declared.kinds.ValueKind.{ValueKind}
use Rattle.class_linked.specs.declared.kinds.ValueKind.TheVariants as value
use Rattle.class_linked.specs.declared.classes.Linked.{Linked}
use Rattle.class_linked.specs.declared.classes.LinkedClass.{LinkedClass}
use Rattle.class_linked.specs.Numbers.{int_array_class, object_array_class}

-- the kind of a declared value
abbrev pub kind_of : ValueKind → Kind
kind_of value.Int = Int
kind_of value.Long = Long
kind_of value.Bool = Int
kind_of value.Char = Int
kind_of (value.Object c) = Object c

-- ---- classes

abbrev pub class_at : Linked → ℕ → Option LinkedClass
class_at p c = slice_get p.classes c

abbrev pub supers_of : Option LinkedClass → List ℕ
supers_of None = []
supers_of (Some c) = c.supers

-- a class is below another, or is it
abbrev pub is_below : Linked → ℕ → ℕ → Bool
is_below p a b = list_any (λ x. x == b) (supers_of (class_at p a))

-- ---- where a value of the first kind may stand for one of the second; for an interface too only what is below it

abbrev pub fits : Linked → Kind → Kind → Bool
fits p k Top = true
fits p Int Int = true
fits p Long Long = true
fits p Null Null = true
fits p Null (Object c) = true
fits p (Object a) (Object b) = is_below p a b
fits p (Fresh j) (Fresh k) = j == k
fits p FreshThis FreshThis = true
fits p k w = false

-- each kind of one list stands so to that of the other
abbrev pub AllFit : (Kind → Kind → Bool) → List Kind → List Kind → Type 0
AllFit fit [] [] = Unit {0}
AllFit fit (k ∷ ks) (w ∷ ws) = (fit k w ≡ true) × AllFit fit ks ws
AllFit fit [] (w ∷ ws) = ⊥
AllFit fit (k ∷ ks) [] = ⊥

-- the topmost operands are what is wanted
abbrev pub TopFits : Linked → List Kind → List Kind → Type 0
TopFits p [] stack = Unit {0}
TopFits p (w ∷ ws) [] = ⊥
TopFits p (w ∷ ws) (k ∷ ks) = (fits p k w ≡ true) × TopFits p ws ks

-- ---- what a kind is

-- a reference, also one that isn't initialized
abbrev pub is_reference : Kind → Bool
is_reference Null = true
is_reference (Object c) = true
is_reference (Fresh j) = true
is_reference FreshThis = true
is_reference k = false

abbrev pub is_array_class : ℕ → Bool
is_array_class c = list_any (λ x. x == c) (int_array_class ∷ object_array_class ∷ [])

abbrev pub is_array : Kind → Bool
is_array Null = true
is_array (Object c) = is_array_class c
is_array k = false

-- the object that the *new* at an offset made
abbrev pub is_fresh : ℕ → Kind → Bool
is_fresh at (Fresh k) = at == k
is_fresh at k = false

abbrev pub is_fresh_this : Kind → Bool
is_fresh_this FreshThis = true
is_fresh_this k = false

-- ---- units

abbrev pub width : Kind → ℕ
width Long = 2
width k = 1

abbrev pub units : List Kind → ℕ
units [] = 0
units (k ∷ ks) = width k + units ks

-- on the operand stack both take as many units, so that no `long` stands for an unknown kind
abbrev pub operand_fits : Linked → Kind → Kind → Bool
operand_fits p k w = fits p k w && width k == width w

-- the units of local variables: a `long` takes two
abbrev pub spread : List Kind → List Kind
spread [] = []
spread (Long ∷ ks) = Long ∷ Top ∷ spread ks
spread (k ∷ ks) = k ∷ spread ks
