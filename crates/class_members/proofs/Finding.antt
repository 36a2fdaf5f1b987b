-- What is found by an index is what the classes declare.
use Rattle.std.proofs.Common.{◌≡◌, refl, ap, ◌∙◌, ℕ, List, [], ◌∷◌, Option, Some, None}
use Rattle.std.specs.Prelude.{slice_get}
use Rattle.class_headers.specs.declared.headers.Header.{Header}
use Rattle.class_headers.specs.Indexed.{FindsFields, FindsMethods, FindsVirtuals, own_of}
use Rattle.class_headers.specs.Places.{own_field, own_method, own_virtual}
use Rattle.class_index.specs.declared.members.MemberIndex.{MemberIndex}
use Rattle.class_index.specs.declared.members.MemberKey.{MemberKey}
use Rattle.class_index.specs.Members.{key_in, then_place}
use Rattle.class_members.specs.Members.{first_member, found_in, own_member_of}
use Rattle.class_members.specs.Finding.{FindsMembers, first_by, first_of_key}
use Rattle.class_members.specs.declared.members.MemberKind.{MemberKind}
use Rattle.class_members.specs.declared.members.MemberKind.TheVariants as kind

pub fields_found : (hs : List Header) (index : MemberIndex) → FindsFields hs index → FindsMembers hs kind.Field index
fields_found hs index f c n d = f c n d ∙ same (slice_get hs c)
  where
    same : (o : Option Header) → own_of (λ h. own_field h n d) o ≡ own_member_of kind.Field n d o
    same None = refl
    same (Some h) = refl

pub methods_found : (hs : List Header) (index : MemberIndex) → FindsMethods hs index → FindsMembers hs kind.Method index
methods_found hs index f c n d = f c n d ∙ same (slice_get hs c)
  where
    same : (o : Option Header) → own_of (λ h. own_method h n d) o ≡ own_member_of kind.Method n d o
    same None = refl
    same (Some h) = refl

pub virtuals_found : (hs : List Header) (index : MemberIndex) → FindsVirtuals hs index → FindsMembers hs kind.Virtual index
virtuals_found hs index f c n d = f c n d ∙ same (slice_get hs c)
  where
    same : (o : Option Header) → own_of (λ h. own_virtual h n d) o ≡ own_member_of kind.Virtual n d o
    same None = refl
    same (Some h) = refl

module _ (hs : List Header) (k : MemberKind) (index : MemberIndex) (n d : List ℕ) where
  in_turn : (o : Option MemberKey) → ((c : ℕ) → then_place index c o ≡ own_member_of k n d (slice_get hs c)) → (cs : List ℕ) → first_of_key index cs o ≡ first_member hs k n d cs
  in_turn None each [] = refl
  in_turn None each (c ∷ cs) =
      in_turn None each cs ∙ ap (λ o. found_in c o (first_member hs k n d cs)) (each c)
  in_turn (Some key) each [] = refl
  in_turn (Some key) each (c ∷ cs) =
      ap (found_in c (then_place index c (Some key))) (in_turn (Some key) each cs)
      ∙ ap (λ o. found_in c o (first_member hs k n d cs)) (each c)

  pub first_found : (cs : List ℕ) → FindsMembers hs k index → first_by index cs n d ≡ first_member hs k n d cs
  first_found cs f = in_turn (key_in index n d) (λ c. f c n d) cs
