-- Indices by which classes and members are found.
use Rattle.std.specs.Prelude.{◌≡◌, ℕ, Bool, true, false, List, Option, Some, None, slice_get}
use Rattle.class_index.specs.declared.members.MemberIndex.{MemberIndex}
use Rattle.class_index.specs.declared.texts.TextIndex.{TextIndex}
use Rattle.class_index.specs.Members.{member_in}
use Rattle.class_index.specs.Texts.{number_in}
use Rattle.class_headers.specs.declared.headers.Header.{Header}
use Rattle.class_headers.specs.Places.{number_of, own_field, own_method, own_virtual}

-- what a class has, where it is there
abbrev pub own_of : (Header → Option ℕ) → Option Header → Option ℕ
own_of own None = None
own_of own (Some h) = own h

-- what was found before, and else what is found here
abbrev pub or_own : Option ℕ → Bool → Option ℕ → Option ℕ
or_own (Some place) here found = Some place
or_own None true found = found
or_own None false found = None

abbrev pub FindsNames : List Header → TextIndex → Type 0
FindsNames hs numbers = (name : List ℕ) → number_in numbers name ≡ number_of hs name

abbrev pub FindsFields : List Header → MemberIndex → Type 0
FindsFields hs index = (c : ℕ) (name descriptor : List ℕ) →
    member_in index c name descriptor ≡ own_of (λ h. own_field h name descriptor) (slice_get hs c)

abbrev pub FindsMethods : List Header → MemberIndex → Type 0
FindsMethods hs index = (c : ℕ) (name descriptor : List ℕ) →
    member_in index c name descriptor ≡ own_of (λ h. own_method h name descriptor) (slice_get hs c)

abbrev pub FindsVirtuals : List Header → MemberIndex → Type 0
FindsVirtuals hs index = (c : ℕ) (name descriptor : List ℕ) →
    member_in index c name descriptor ≡ own_of (λ h. own_virtual h name descriptor) (slice_get hs c)

-- the indices of a table say what its headers say
pub record IsIndexed (hs : List Header) (numbers : TextIndex) (fields methods virtuals : MemberIndex) : Type 0 where
  pub by_name : FindsNames hs numbers
  pub by_field : FindsFields hs fields
  pub by_method : FindsMethods hs methods
  pub by_virtual : FindsVirtuals hs virtuals
