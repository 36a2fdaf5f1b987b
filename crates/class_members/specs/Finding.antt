-- Members found by an index.
use Rattle.std.specs.Prelude.{◌≡◌, ℕ, List, [], ◌∷◌, Option, Some, None, slice_get}
use Rattle.class_headers.specs.declared.headers.Header.{Header}
use Rattle.class_index.specs.declared.members.MemberIndex.{MemberIndex}
use Rattle.class_index.specs.declared.members.MemberKey.{MemberKey}
use Rattle.class_index.specs.Members.{key_in, member_in, place_in}
use Rattle.class_members.specs.Members.{found_in, own_member_of}
use Rattle.class_members.specs.declared.members.MemberKind.{MemberKind}

-- the index says what each class declares
abbrev pub FindsMembers : List Header → MemberKind → MemberIndex → Type 0
FindsMembers hs kind index = (c : ℕ) (name descriptor : List ℕ) →
    member_in index c name descriptor ≡ own_member_of kind name descriptor (slice_get hs c)

-- the first of these classes that has a member of a key, and its place there
abbrev pub first_at : MemberIndex → MemberKey → List ℕ → Option (ℕ × ℕ)
first_at index key [] = None
first_at index key (c ∷ cs) = found_in c (place_in index c key) (first_at index key cs)

abbrev pub first_of_key : MemberIndex → List ℕ → Option MemberKey → Option (ℕ × ℕ)
first_of_key index classes None = None
first_of_key index classes (Some key) = first_at index key classes

abbrev pub first_by : MemberIndex → List ℕ → List ℕ → List ℕ → Option (ℕ × ℕ)
first_by index classes name descriptor = first_of_key index classes (key_in index name descriptor)
