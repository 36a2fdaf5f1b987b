-- What is left of a type in a descriptor of a class file.
use Rattle.std.specs.Prelude.{ℕ, zero, suc, Bool, true, false, List, ◌+◌, Option, Some, None, length, map, slice_get, if◌then◌else◌}
use Rattle.kt_types_tree.specs.declared.types.TypeConstructor.{TypeConstructor}
use Rattle.kt_types_tree.specs.declared.types.TypeConstructor.TheVariants as constructor
use Rattle.kt_types_tree.specs.Types.{TypeForm, TypeForms, typed, nothing, any, parameter, of, forms_end, form_then}

-- A primitive type, `java/lang/Object`, the one class of all types with this constructor (of a primitive type its box),
-- or the interface of functions with so many parameters.
pub data Erased : Type 0 where
  primitive : TypeConstructor → Erased
  object : Erased
  reference : TypeConstructor → Erased
  functional : ℕ → Erased

abbrev pub is_primitive : TypeConstructor → Bool
is_primitive constructor.Int = true
is_primitive constructor.Long = true
is_primitive constructor.Boolean = true
is_primitive constructor.Char = true
is_primitive _ = false

abbrev pub count_of : TypeForms → ℕ
count_of forms_end = 0
count_of (form_then t ts) = count_of ts + 1

-- the result of a function type is its last argument; a suspend function takes a continuation more
abbrev pub erased_constructor : TypeConstructor → TypeForms → Erased
erased_constructor (constructor.Function true) ts = functional (count_of ts)
erased_constructor (constructor.Function false) forms_end = functional 0
erased_constructor (constructor.Function false) (form_then t ts) = functional (count_of ts)
erased_constructor c ts = reference c

abbrev pub boxed : Erased → Erased
boxed (primitive c) = reference c
boxed e = e

abbrev pub or_object : (TypeForm → Erased) → Option TypeForm → Erased
or_object erase None = object
or_object erase (Some t) = boxed (erase t)

-- a type parameter is erased as its bound, within so many steps, and never to a primitive type
abbrev pub erased_within : List TypeForm → ℕ → TypeForm → Erased
erased_within bounds zero t = object
erased_within bounds (suc steps) (typed n nothing) = object
erased_within bounds (suc steps) (typed n any) = object
erased_within bounds (suc steps) (typed n (parameter row place)) =
    or_object (erased_within bounds steps) (slice_get bounds row)
erased_within bounds (suc steps) (typed true (of c ts)) = erased_constructor c ts
erased_within bounds (suc steps) (typed false (of c ts)) =
    if is_primitive c then primitive c else erased_constructor c ts

abbrev pub erased : List TypeForm → TypeForm → Erased
erased bounds t = erased_within bounds (length bounds + 1) t

-- a function whose result is `Unit` gives nothing
abbrev pub erased_result : List TypeForm → TypeForm → Erased
erased_result bounds (typed false (of constructor.Unit ts)) = primitive constructor.Unit
erased_result bounds t = erased bounds t

pub record Descriptor : Type 0 where
  pub parameters : List Erased
  pub result : Erased

-- a suspend function gives an object
abbrev pub descriptor_of : List TypeForm → Bool → List TypeForm → TypeForm → Descriptor
descriptor_of bounds true ts t = record { parameters = map (erased bounds) ts; result = object }
descriptor_of bounds false ts t = record { parameters = map (erased bounds) ts; result = erased_result bounds t }
