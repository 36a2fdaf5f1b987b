-- Which types can be printed, compared with `==`, and shared between coroutines.
use Rattle.std.specs.Prelude.{ℕ, Bool, true, false, ◌||◌, ◌&&◌, List, Option, Some, None, slice_get}
use Rattle.kt_types_tree.specs.declared.types.TypeConstructor.{TypeConstructor}
use Rattle.kt_types_tree.specs.declared.types.TypeConstructor.TheVariants as constructor
use Rattle.kt_types_tree.specs.declared.hierarchy.ClassKind.{ClassKind}
use Rattle.kt_types_tree.specs.declared.hierarchy.ClassKind.TheVariants as kind
use Rattle.kt_types_tree.specs.Types.{TypeForm, ShapeForm, TypeForms, typed, nothing, any, parameter, of, forms_end, form_then}
use Rattle.kt_types_tree.specs.Hierarchy.{HeaderForm, HierarchyForm}

abbrev pub is_enum : ClassKind → Bool
is_enum kind.Enum = true
is_enum kind.Class = false
is_enum kind.DataClass = false
is_enum kind.Interface = false

abbrev pub is_data : ClassKind → Bool
is_data kind.DataClass = true
is_data kind.Class = false
is_data kind.Enum = false
is_data kind.Interface = false

-- a class that has a row, and passes the test
abbrev pub passes : (HeaderForm → Bool) → Option HeaderForm → Bool
passes test None = false
passes test (Some c) = test c

-- a basic type, `Unit`, or a class that passes the test
abbrev pub basic_or : HierarchyForm → (HeaderForm → Bool) → TypeConstructor → Bool
basic_or h test constructor.Int = true
basic_or h test constructor.Long = true
basic_or h test constructor.Boolean = true
basic_or h test constructor.Char = true
basic_or h test constructor.String = true
basic_or h test constructor.Unit = true
basic_or h test constructor.IntArray = false
basic_or h test constructor.Array = false
basic_or h test constructor.Continuation = false
basic_or h test (constructor.Class c) = passes test (slice_get h.classes c)
basic_or h test (constructor.Function s) = false

abbrev pub class_prints : HeaderForm → Bool
class_prints c = is_enum c.kind || is_data c.kind || c.has_to_string

-- a basic type, `Unit`, an enum, a data class, a class that has a `toString` of the unit, each with `?` or without;
-- and `Nothing?`
abbrev pub printable : HierarchyForm → TypeForm → Bool
printable h (typed n nothing) = n
printable h (typed n any) = false
printable h (typed n (parameter row place)) = false
printable h (typed n (of c ts)) = basic_or h class_prints c

abbrev pub class_equates : HeaderForm → Bool
class_equates c = is_enum c.kind || is_data c.kind || c.has_equals

-- a basic type, `Unit`, an enum, a data class, a class that has an `equals` of the unit, each with `?` or without
abbrev pub equatable : HierarchyForm → TypeForm → Bool
equatable h (typed n nothing) = false
equatable h (typed n any) = false
equatable h (typed n (parameter row place)) = false
equatable h (typed n (of c ts)) = basic_or h class_equates c

abbrev pub or_false : Option Bool → Bool
or_false None = false
or_false (Some b) = b

-- what the flags say of a row
abbrev pub flag : List Bool → ℕ → Bool
flag flags row = or_false (slice_get flags row)

abbrev pub class_is_enum : HeaderForm → Bool
class_is_enum c = is_enum c.kind

-- a basic type, `Unit` and an enum; a plain class and a continuation whose arguments are shareable
abbrev pub constructor_shareable : HierarchyForm → List Bool → TypeConstructor → Bool → Bool
constructor_shareable h plain constructor.Int arguments = true
constructor_shareable h plain constructor.Long arguments = true
constructor_shareable h plain constructor.Boolean arguments = true
constructor_shareable h plain constructor.Char arguments = true
constructor_shareable h plain constructor.String arguments = true
constructor_shareable h plain constructor.Unit arguments = true
constructor_shareable h plain constructor.IntArray arguments = false
constructor_shareable h plain constructor.Array arguments = false
constructor_shareable h plain constructor.Continuation arguments = arguments
constructor_shareable h plain (constructor.Class c) arguments =
    passes class_is_enum (slice_get h.classes c) || (flag plain c && arguments)
constructor_shareable h plain (constructor.Function s) arguments = false

-- where the flags say which classes are plain and which type parameters, by the rows of their bounds, count as shareable
abbrev mutual
  pub shareable : HierarchyForm → List Bool → List Bool → TypeForm → Bool
  shareable h plain parameters (typed n s) = shape_shareable h plain parameters s

  pub shape_shareable : HierarchyForm → List Bool → List Bool → ShapeForm → Bool
  shape_shareable h plain parameters nothing = true
  shape_shareable h plain parameters any = false
  shape_shareable h plain parameters (parameter row place) = flag parameters row
  shape_shareable h plain parameters (of c ts) = constructor_shareable h plain c (all_shareable h plain parameters ts)

  pub all_shareable : HierarchyForm → List Bool → List Bool → TypeForms → Bool
  all_shareable h plain parameters forms_end = true
  all_shareable h plain parameters (form_then t ts) =
      shareable h plain parameters t && all_shareable h plain parameters ts
