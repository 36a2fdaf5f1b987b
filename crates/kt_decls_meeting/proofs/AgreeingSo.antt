-- What is told by what is seen of functions is told of the functions.
use Rattle.std.specs.Prelude.{ℕ, Bool, true, false, List, [], ◌∷◌, ◌+◌, ◌-◌, ◌<◌, ◌≡◌, ◌↔◌, ◌||◌, IsTrue, drop, length, map, refl, take, Result, Ok, Err, IfOk}
use Rattle.std.specs.List.{list_any}
use Rattle.std.proofs.Common.{arith, ap, sym, ◌∙◌, subst}
use Rattle.std.proofs.lemmas.List.{length-map, take_rest}
use Rattle.kt_base.specs.declared.errors.NoMemory.{NoMemory}
use Rattle.kt_types_tree.specs.Hierarchy.{HierarchyForm}
use Rattle.kt_decls_rules.specs.Members.{Member}
use Rattle.kt_decls_rules.specs.ClassRules.{AgreesWithAll, DoAllAgree, has_body_if_any}
use Rattle.kt_decls_inherited.specs.Sights.{SightForm, sight_form, sight_of}
use Rattle.kt_decls_inherited.specs.declared.sights.Sight.{Sight}
use Rattle.kt_decls_inherited.specs.Descriptors.{descriptor_in}
use Rattle.kt_decls_methods.specs.Describing.{AreDescriptor}
use Rattle.kt_decls_meeting.specs.Agreeing.{AgreesWithSeen, DoSeenAgree, DoDescriptorsAgree, has_seen_body}

clash : (b : Bool) → b ≡ true → b ≡ false → ⊥
clash true d e = absurd cc
clash false d e = absurd cc

module _ (h : HierarchyForm) where
  with_all : (a : Member) (ms : List Member) → AgreesWithSeen h (sight_of a) (map sight_of ms) → AreDescriptor a.descriptor (map descriptor_in ms) → AgreesWithAll h a ms
  with_all a [] s d = tt
  with_all a (m ∷ ms) s d =
      (record { same_parameters = s.0.same_parameters; same_suspend = s.0.same_suspend; same_descriptor = d.0; first_serves = s.0.first_serves; second_serves = s.0.second_serves }, with_all a ms s.1 d.1)

  with_seen : (a : Member) (ms : List Member) → AgreesWithAll h a ms → AgreesWithSeen h (sight_of a) (map sight_of ms)
  with_seen a [] w = tt
  with_seen a (m ∷ ms) w =
      (record { same_parameters = w.0.same_parameters; same_suspend = w.0.same_suspend; first_serves = w.0.first_serves; second_serves = w.0.second_serves }, with_seen a ms w.1)

  with_descriptors : (a : Member) (ms : List Member) → AgreesWithAll h a ms → AreDescriptor a.descriptor (map descriptor_in ms)
  with_descriptors a [] w = tt
  with_descriptors a (m ∷ ms) w = (w.0.same_descriptor, with_descriptors a ms w.1)

  all_agree : (ms : List Member) → DoSeenAgree h (map sight_of ms) → DoDescriptorsAgree (map descriptor_in ms) → DoAllAgree h ms
  all_agree [] s d = tt
  all_agree (m ∷ ms) s d = (with_all m ms s.0 d.0, all_agree ms s.1 d.1)

  all_seen : (ms : List Member) → DoAllAgree h ms → DoSeenAgree h (map sight_of ms)
  all_seen [] w = tt
  all_seen (m ∷ ms) w = (with_seen m ms w.0, all_seen ms w.1)

  all_descriptors : (ms : List Member) → DoAllAgree h ms → DoDescriptorsAgree (map descriptor_in ms)
  all_descriptors [] w = tt
  all_descriptors (m ∷ ms) w = (with_descriptors m ms w.0, all_descriptors ms w.1)

any_body : (ms : List Member) → list_any (λ (s : SightForm). s.has_body) (map sight_of ms) ≡ list_any (λ (m : Member). m.has_body) ms
any_body [] = refl
any_body (m ∷ ms) = ap (λ b. m.has_body || b) (any_body ms)

same_body : (ms : List Member) → has_seen_body (map sight_of ms) ≡ has_body_if_any ms
same_body [] = refl
same_body (m ∷ ms) = any_body (m ∷ ms)

-- one alone has one descriptor
few_agree : (ms : List Member) → length ms < 2 → DoDescriptorsAgree (map descriptor_in ms)
few_agree [] less = tt
few_agree (m ∷ []) less = (tt, tt)
few_agree (m ∷ k ∷ ms) less = absurd (omega arith)

pub few_told : (found : List Sight) → length found < 2 → length (map sight_form found) < 2
few_told found less = subst (λ (n : ℕ). n < 2) (sym (length-map found sight_form)) less

-- what is asked of the functions that meet
abbrev Meet : HierarchyForm → Bool → List Member → Type 0
Meet h needs ms = DoAllAgree h ms × (needs ≡ true → has_body_if_any ms ≡ true)

abbrev MeetSeen : HierarchyForm → Bool → List SightForm → Type 0
MeetSeen h needs ss = DoSeenAgree h ss × (needs ≡ true → has_seen_body ss ≡ true)

module _ (h k : HierarchyForm) (same : k ≡ h) (needs : Bool) (ms : List Member) (found : List SightForm) (are : found ≡ map sight_of ms) (fine : Bool) (told : IsTrue fine ↔ MeetSeen k needs found) where
  told_so : IsTrue fine ↔ MeetSeen h needs (map sight_of ms)
  told_so =
      subst (λ (l : List SightForm). IsTrue fine ↔ MeetSeen h needs l) are
      (subst (λ (g : HierarchyForm). IsTrue fine ↔ MeetSeen g needs found) same told)

  whole : IsTrue fine → DoDescriptorsAgree (map descriptor_in ms) → Meet h needs ms
  whole t d = let s = told_so.0 t in (all_agree h ms s.0 d, λ n. sym (same_body ms) ∙ s.1 n)

  back : Meet h needs ms → IsTrue fine
  back w = told_so.1 (all_seen h ms w.0, λ n. same_body ms ∙ w.1 n)

  pub not_fine : fine ≡ false → IsTrue false ↔ Meet h needs ms
  not_fine off = ((λ t. absurd (clash false t refl)), (λ w. absurd (clash fine (back w) off)))

  few : length found < 2 → length ms < 2
  few less = subst (λ (n : ℕ). n < 2) (length-map ms sight_of) (subst (λ (l : List SightForm). length l < 2) are less)

  pub one_alone : fine ≡ true → length found < 2 → IsTrue true ↔ Meet h needs ms
  one_alone held less = ((λ t. whole held (few_agree ms (few less))), (λ w. refl))

  pub all_told : fine ≡ true → (r : Result Bool NoMemory) → IfOk r (λ yes. IsTrue yes ↔ DoDescriptorsAgree (map descriptor_in ms)) → IfOk r (λ yes. IsTrue yes ↔ Meet h needs ms)
  all_told held (Ok b) one = ((λ t. whole held (one.0 t)), (λ w. one.1 (all_descriptors h ms w.0)))
  all_told held (Err e) one = tt

-- what stands behind an element
pub rest_of : {X : Type 0} (P : List X → Type 0) (xs : List X) (i j : ℕ) → j ≡ i + 1 → P (take (length xs - j) (drop j xs)) → P (drop (i + 1) xs)
rest_of P xs i j e p = subst (λ (k : ℕ). P (drop k xs)) e (subst P (take_rest xs j) p)
