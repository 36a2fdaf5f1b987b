-- Whether functions that meet in a class agree, by what is seen of them and by their descriptors.
use Rattle.std.specs.Prelude.{Bool, true, List, [], ◌∷◌, ◌≡◌, Option}
use Rattle.std.specs.List.{list_any}
use Rattle.kt_types_tree.specs.Hierarchy.{HierarchyForm}
use Rattle.kt_decls_rules.specs.Erasure.{Descriptor}
use Rattle.kt_decls_rules.specs.ClassRules.{HaveSameParameters, HasResultBelow}
use Rattle.kt_decls_inherited.specs.Sights.{SightForm}
use Rattle.kt_decls_methods.specs.Describing.{AreDescriptor}

-- what two functions agree in, but for their descriptors
pub record AgreeSeen (h : HierarchyForm) (a b : SightForm) : Type 0 where
  pub same_parameters : HaveSameParameters a.signature b.signature
  pub same_suspend : a.is_suspend ≡ b.is_suspend
  pub first_serves : a.has_body ≡ true → HasResultBelow h a.signature b.signature
  pub second_serves : b.has_body ≡ true → HasResultBelow h b.signature a.signature

abbrev pub AgreesWithSeen : HierarchyForm → SightForm → List SightForm → Type 0
AgreesWithSeen h a [] = Unit {0}
AgreesWithSeen h a (b ∷ bs) = AgreeSeen h a b × AgreesWithSeen h a bs

abbrev pub DoSeenAgree : HierarchyForm → List SightForm → Type 0
DoSeenAgree h [] = Unit {0}
DoSeenAgree h (m ∷ ms) = AgreesWithSeen h m ms × DoSeenAgree h ms

-- each two descriptors are one
abbrev pub DoDescriptorsAgree : List (Option Descriptor) → Type 0
DoDescriptorsAgree [] = Unit {0}
DoDescriptorsAgree (d ∷ ds) = AreDescriptor d ds × DoDescriptorsAgree ds

-- where there are some, one has a body
abbrev pub has_seen_body : List SightForm → Bool
has_seen_body [] = true
has_seen_body (m ∷ ms) = list_any (λ s. s.has_body) (m ∷ ms)
