-- The members of built-in types: one row each.
use Rattle.std.specs.Prelude.{ℕ, Bool, List, [], ◌∷◌, Option, Some, None, find, ◌==◌, ◌&&◌, codes}
use Rattle.std.specs.Option.{option_map}
use Rattle.std.specs.Cmp.Lexicographic.{pointwise}
use denote.Enum.Bare.{sameb}
use Rattle.kt_types_builtins.specs.contracts.members.Receiver as receiver_kind
use Rattle.kt_types_builtins.specs.declared.members.Receiver.{Receiver}
use Rattle.kt_types_builtins.specs.declared.members.Receiver.TheVariants as on
use Rattle.kt_types_builtins.specs.declared.members.MemberType.{MemberType}
use Rattle.kt_types_builtins.specs.declared.members.MemberType.TheVariants as type
use Rattle.kt_types_builtins.specs.declared.members.BuiltInMember.{BuiltInMember}
use Rattle.kt_types_builtins.specs.declared.members.BuiltInMember.TheVariants as member
use Rattle.kt_types_builtins.specs.declared.members.MemberRow.{MemberRow}

-- of what it is a member, how it is written, the types of its parameters where it is a function, the type of its result
pub record Row : Type 0 where
  pub receiver : Receiver
  pub name : List ℕ
  pub parameters : Option (List MemberType)
  pub result : MemberType

abbrev pub row : Receiver → List ℕ → Option (List MemberType) → MemberType → Row
row r n ps t = record { receiver = r; name = n; parameters = ps; result = t }

abbrev pub shown_row : MemberRow → Row
shown_row m = row m.receiver m.name.now (option_map (λ ps. ps.now) m.parameters) m.result

abbrev pub member_row : BuiltInMember → Row
member_row member.ArraySize = row on.Array (codes "size") None type.Int
member_row member.StringLength = row on.String (codes "length") None type.Int
member_row member.StringSubstring = row on.String (codes "substring") (Some (type.Int ∷ type.Int ∷ [])) type.String
member_row member.IntToLong = row on.Int (codes "toLong") (Some []) type.Long
member_row member.IntToChar = row on.Int (codes "toChar") (Some []) type.Char
member_row member.IntInverse = row on.Int (codes "inv") (Some []) type.Int
member_row member.LongToInt = row on.Long (codes "toInt") (Some []) type.Int
member_row member.LongInverse = row on.Long (codes "inv") (Some []) type.Long
member_row member.CharCode = row on.Char (codes "code") None type.Int
member_row member.Resume = row on.Continuation (codes "resume") (Some (type.Argument ∷ [])) type.Unit
member_row member.ResumeWithException =
    row on.Continuation (codes "resumeWithException") (Some (type.Throwable ∷ [])) type.Unit
member_row member.EntryName = row on.Enum (codes "name") None type.String
member_row member.EntryOrdinal = row on.Enum (codes "ordinal") None type.Int
member_row member.Message = row on.Throwable (codes "message") None type.NullableString
member_row member.ToString = row on.Printable (codes "toString") (Some []) type.String

unfoldable pub members : List BuiltInMember
members = member.ArraySize ∷ member.StringLength ∷ member.StringSubstring ∷ member.IntToLong ∷ member.IntToChar
    ∷ member.IntInverse ∷ member.LongToInt ∷ member.LongInverse ∷ member.CharCode ∷ member.Resume
    ∷ member.ResumeWithException ∷ member.EntryName ∷ member.EntryOrdinal ∷ member.Message ∷ member.ToString ∷ []

unfoldable pub same_receiver : Receiver → Receiver → Bool
same_receiver = sameb receiver_kind.the_type

abbrev pub is_written : BuiltInMember → Receiver → List ℕ → Bool
is_written m receiver name = same_receiver (member_row m).receiver receiver && pointwise ◌==◌ (member_row m).name name

-- the member of a receiver that is written so
unfoldable pub member_of : Receiver → List ℕ → Option BuiltInMember
member_of receiver name = find (λ m. is_written m receiver name) members
