-- What the headers of a unit tell running code of its classes.
use Rattle.std.specs.Prelude.{ℕ, zero, suc, Bool, true, false, ◌&&◌, ◌||◌, ◌==◌, List, [], ◌∷◌, length, map, take, drop, reverse, Option, Some, None, option_map, option_and_then, unwrap_or, slice_get, is_some, pos, find, not}
use Rattle.std.specs.List.{flat_map, list_any, position_from, sum_by}
use Rattle.std.specs.Cmp.Lexicographic.{pointwise}
use Rattle.kt_types_tree.specs.declared.types.TypeConstructor.TheVariants as constructor
use Rattle.kt_types_tree.specs.declared.hierarchy.ClassKind.{ClassKind}
use Rattle.kt_types_tree.specs.declared.hierarchy.ClassKind.TheVariants as kind
use Rattle.kt_types_tree.specs.Types.{TypeForm, typed, of}
use Rattle.kt_types_tree.specs.Hierarchy.{supers_of}
use Rattle.kt_typed.specs.Headers.{ClassForm, FunctionForm, PropertyForm}
use Rattle.kt_typed.specs.Units.{UnitForm}
use Rattle.kt_values.specs.Values as v
use Rattle.kt_values.specs.Values.{Value}
use Rattle.kt_values.specs.Throwables.{throwable_names, qualified}

abbrev pub same_text : List ℕ → List ℕ → Bool
same_text = pointwise ◌==◌

abbrev pub class_at : UnitForm → ℕ → Option ClassForm
class_at u c = slice_get u.headers.classes c

abbrev pub is_interface_kind : ClassKind → Bool
is_interface_kind kind.Interface = true
is_interface_kind _ = false

-- whether a row is an interface
abbrev pub is_interface : UnitForm → ℕ → Bool
is_interface u c =
    unwrap_or (option_map (λ k. is_interface_kind k.kind) (slice_get u.headers.hierarchy.classes c)) false

-- the superclass: the one declared supertype that is no interface
abbrev pub superclass_of : UnitForm → ℕ → Option ℕ
superclass_of u c =
    option_map (λ s. s.class) (find (λ s. not (is_interface u s.class)) (supers_of u.headers.hierarchy c))

-- a throwable that every file has
abbrev pub is_built_in : ℕ → Bool
is_built_in c = is_some (slice_get throwable_names c)

abbrev pub or_nothing : (ℕ → List ℕ) → Option ℕ → List ℕ
or_nothing above None = []
or_nothing above (Some c) = above c

-- a class, its superclass, and so on upwards, at most so many
unfoldable pub upwards : UnitForm → ℕ → ℕ → List ℕ
upwards u zero c = []
upwards u (suc n) c = c ∷ or_nothing (upwards u n) (superclass_of u c)

-- a class and its superclasses, from below
abbrev pub lineage : UnitForm → ℕ → List ℕ
lineage u c = upwards u (length u.headers.classes) c

-- a class is another one, or below it by its declared supertypes, at most so many steps
unfoldable pub is_below_within : UnitForm → ℕ → ℕ → ℕ → Bool
is_below_within u zero c d = c == d
is_below_within u (suc n) c d =
    c == d || list_any (λ s. is_below_within u n s.class d) (supers_of u.headers.hierarchy c)

abbrev pub is_below : UnitForm → ℕ → ℕ → Bool
is_below u c d = is_below_within u (length u.headers.classes) c d

-- Properties. An object has those of its superclasses first, from above, then its own.

abbrev pub own_properties : UnitForm → ℕ → List PropertyForm
own_properties u c = unwrap_or (option_map (λ k. k.properties) (class_at u c)) []

abbrev pub all_properties : UnitForm → ℕ → List PropertyForm
all_properties u c = flat_map (own_properties u) (reverse (lineage u c))

-- the slot of the first property of a class
abbrev pub first_slot : UnitForm → ℕ → ℕ
first_slot u c = sum_by (λ d. length (own_properties u d)) (drop 1 (lineage u c))

-- what stands in a variable of a type before it is assigned, which no program reads
abbrev pub blank : TypeForm → Value
blank (typed false (of constructor.Int ts)) = v.int (pos 0)
blank (typed false (of constructor.Long ts)) = v.long (pos 0)
blank (typed false (of constructor.Boolean ts)) = v.truth false
blank (typed false (of constructor.Char ts)) = v.character 0
blank _ = v.null

-- Functions. Those of one name and one number of parameters that meet in a class are one.

abbrev pub is_member : List ℕ → ℕ → FunctionForm → Bool
is_member name count f = f.has_body && same_text f.name name && (length f.parameters == count)

-- the class and the place there of a body
abbrev pub own_body : UnitForm → List ℕ → ℕ → ℕ → Option (ℕ × ℕ)
own_body u name count c =
    option_and_then (λ k. option_map (λ i. (c, i)) (position_from (is_member name count) 0 k.functions)) (class_at u c)

abbrev pub first_some : {A : Type 0} → Option A → Option A → Option A
first_some (Some a) other = Some a
first_some None other = other

abbrev pub first_body : UnitForm → List ℕ → ℕ → List ℕ → Option (ℕ × ℕ)
first_body u name count [] = None
first_body u name count (c ∷ above) = first_some (own_body u name count c) (first_body u name count above)

-- the body that runs on an object of a class: that of the class, or of its nearest superclass that has one
abbrev pub body_for : UnitForm → List ℕ → ℕ → ℕ → Option (ℕ × ℕ)
body_for u name count c = first_body u name count (lineage u c)

abbrev pub is_data_kind : ClassKind → Bool
is_data_kind kind.DataClass = true
is_data_kind _ = false

abbrev pub is_data : UnitForm → ℕ → Bool
is_data u c = unwrap_or (option_map (λ k. is_data_kind k.kind) (class_at u c)) false

-- what a data class compares and prints: the properties that its parameters declare, which are its first ones
abbrev pub data_properties : UnitForm → ℕ → List PropertyForm
data_properties u c =
    unwrap_or (option_map (λ k. take (length k.parameters) k.properties) (class_at u c)) []

-- Names.

-- the name of a class in class files
abbrev pub class_name : UnitForm → ℕ → List ℕ
class_name u c =
    unwrap_or (option_map qualified (slice_get throwable_names c))
    (unwrap_or (option_map (λ k. k.name) (class_at u c)) [])

-- the class of a name
abbrev pub class_named : UnitForm → List ℕ → Option ℕ
class_named u name =
    first_some (position_from (same_text name) 0 (map qualified throwable_names))
    (position_from (λ k. same_text name k.name) 0 u.headers.classes)

abbrev pub entry_name : UnitForm → ℕ → ℕ → Option (List ℕ)
entry_name u c ordinal =
    option_and_then (λ k. option_map (λ e. e.name) (slice_get k.entries ordinal)) (class_at u c)
