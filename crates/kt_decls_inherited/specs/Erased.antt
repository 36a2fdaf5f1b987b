-- Erased types and descriptors as definitions match on them.
use Rattle.std.specs.Prelude.{Bool, true, false, List, Option, Some, None, map, option_map, if◌then◌else◌}
use Rattle.kt_types_tree.specs.declared.types.TypeConstructor.{TypeConstructor}
use Rattle.kt_types_tree.specs.declared.types.TypeConstructor.TheVariants as constructor
use Rattle.kt_types_tree.specs.Types.{TypeForm, ShapeForm, TypeForms, typed, nothing, any, parameter, of}
use Rattle.kt_decls_rules.specs.Erasure as rules
use Rattle.kt_decls_rules.specs.Erasure.{Erased, primitive, object, reference, functional, is_primitive, erased_constructor, erased_result}
use Rattle.kt_decls_inherited.specs.declared.erasing.ErasedType.{ErasedType}
use Rattle.kt_decls_inherited.specs.declared.erasing.ErasedType.TheVariants as erased
use Rattle.kt_decls_inherited.specs.declared.erasing.Descriptor.{Descriptor}

abbrev pub erased_form : ErasedType → Erased
erased_form (erased.Primitive c) = primitive c
erased_form erased.Object = object
erased_form (erased.Reference c) = reference c
erased_form (erased.Functional n) = functional n

abbrev pub descriptor_form : Descriptor → rules.Descriptor
descriptor_form d = record { parameters = map erased_form d.parameters; result = erased_form d.result }

-- a type constructor with its arguments, behind which a `?` stands or doesn't
abbrev pub erased_of : Bool → TypeConstructor → TypeForms → Erased
erased_of true c ts = erased_constructor c ts
erased_of false c ts = if is_primitive c then primitive c else erased_constructor c ts

-- a result of type `Unit` gives nothing

abbrev pub is_unit : TypeConstructor → Bool
is_unit constructor.Unit = true
is_unit _ = false

abbrev pub is_unit_shape : ShapeForm → Bool
is_unit_shape nothing = false
is_unit_shape any = false
is_unit_shape (parameter row place) = false
is_unit_shape (of c ts) = is_unit c

abbrev pub gives_nothing : TypeForm → Bool
gives_nothing (typed n s) = if n then false else is_unit_shape s

abbrev pub result_if : List TypeForm → Bool → TypeForm → Erased
result_if bounds true t = object
result_if bounds false t = erased_result bounds t
