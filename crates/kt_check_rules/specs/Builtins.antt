-- Built-in members and functions, by the tables of what every program has.
use Rattle.std.specs.Prelude.{ℕ, true, false, List, [], ◌∷◌, ◌++◌, Option, Some, None, if◌then◌else◌}
use Rattle.kt_types_tree.specs.declared.types.TypeConstructor.TheVariants as c
use Rattle.kt_types_tree.specs.Types.{TypeForm, typed, of, or_null, form_then}
use Rattle.kt_types_tree.specs.Hierarchy.{HierarchyForm}
use Rattle.kt_types.specs.Kinds.{printable}
use Rattle.kt_types_builtins.specs.declared.members.Receiver.{Receiver}
use Rattle.kt_types_builtins.specs.declared.members.Receiver.TheVariants as on
use Rattle.kt_types_builtins.specs.declared.members.MemberType.{MemberType}
use Rattle.kt_types_builtins.specs.declared.members.MemberType.TheVariants as type
use Rattle.kt_types_builtins.specs.declared.members.BuiltInMember.{BuiltInMember}
use Rattle.kt_types_builtins.specs.declared.members.BuiltInMember.TheVariants as member
use Rattle.kt_types_builtins.specs.Members.{member_row, member_of}
use Rattle.kt_typed.specs.declared.operators.TypedProperty.{TypedProperty}
use Rattle.kt_typed.specs.declared.operators.TypedProperty.TheVariants as property
use Rattle.kt_typed.specs.declared.operators.BuiltInMethod.{BuiltInMethod}
use Rattle.kt_typed.specs.declared.operators.BuiltInMethod.TheVariants as method
use Rattle.kt_check_rules.specs.Choices.{first_some}
use Rattle.kt_check_rules.specs.Kinds.{plain, int_type, long_type, char_type, string_type, unit_type}

-- what a type is as a receiver; enums and throwables are told by the hierarchy
abbrev pub own_receiver : TypeForm → List Receiver
own_receiver (typed false (of c.Int ts)) = on.Int ∷ []
own_receiver (typed false (of c.Long ts)) = on.Long ∷ []
own_receiver (typed false (of c.Char ts)) = on.Char ∷ []
own_receiver (typed false (of c.String ts)) = on.String ∷ []
own_receiver (typed false (of c.IntArray ts)) = on.Array ∷ []
own_receiver (typed false (of c.Array ts)) = on.Array ∷ []
own_receiver (typed false (of c.Continuation ts)) = on.Continuation ∷ []
own_receiver _ = []

-- a type that can be printed is one too, with `?` or not
abbrev pub receivers : HierarchyForm → TypeForm → List Receiver
receivers h t = own_receiver t ++ (if printable h t then on.Printable ∷ [] else [])

-- the member of a type that is written so
abbrev pub built_in_member : HierarchyForm → TypeForm → List ℕ → Option BuiltInMember
built_in_member h t x = first_some (λ r. member_of r x) (receivers h t)

abbrev pub type_argument : TypeForm → TypeForm
type_argument (typed n (of d (form_then t ts))) = t
type_argument t = t

-- the type of a parameter or a result, of a member of a type
abbrev pub member_type : TypeForm → MemberType → TypeForm
member_type t type.Int = int_type
member_type t type.Long = long_type
member_type t type.Char = char_type
member_type t type.String = string_type
member_type t type.NullableString = or_null true string_type
member_type t type.Unit = unit_type
member_type t type.Throwable = plain (c.Class 0)
member_type t type.Argument = type_argument t

-- a member is a property or a function
abbrev pub as_property : BuiltInMember → Option TypedProperty
as_property member.ArraySize = Some property.Size
as_property member.StringLength = Some property.Length
as_property member.CharCode = Some property.Code
as_property member.EntryName = Some property.EntryName
as_property member.EntryOrdinal = Some property.Ordinal
as_property member.Message = Some (property.Declared 0 0)
as_property _ = None

abbrev pub as_method : BuiltInMember → Option BuiltInMethod
as_method member.StringSubstring = Some method.Substring
as_method member.IntToLong = Some method.ToLong
as_method member.IntToChar = Some method.ToChar
as_method member.IntInverse = Some method.Inv
as_method member.LongToInt = Some method.ToInt
as_method member.LongInverse = Some method.Inv
as_method member.Resume = Some method.Resume
as_method member.ResumeWithException = Some method.ResumeWithException
as_method member.ToString = Some method.ToString
as_method _ = None

abbrev pub result_type : TypeForm → BuiltInMember → TypeForm
result_type t m = member_type t (member_row m).result

abbrev pub or_empty : {A : Type 0} → Option (List A) → List A
or_empty None = []
or_empty (Some xs) = xs

abbrev pub parameter_types : BuiltInMember → List MemberType
parameter_types m = or_empty (member_row m).parameters
