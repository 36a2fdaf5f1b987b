-- A function obeys the rules of overriding where the tests say so.
use Rattle.std.specs.Prelude.{ℕ, Bool, true, false, List, ◌++◌, ◌<◌, ◌&&◌, ◌==◌, ◌≡◌, ◌↔◌, Option, None, IsTrue, length, map, refl, Result, Ok, Err, IfOk}
use Rattle.std.proofs.Common.{arith, sym, ◌∙◌, subst}
use Rattle.std.proofs.lemmas.List.{length-map}
use Rattle.kt_base.specs.declared.errors.NoMemory.{NoMemory}
use Rattle.kt_tree.specs.Declarations.{DeclarationTree, FunctionTree}
use Rattle.kt_typed.specs.declared.headers.DeclaredTypeParameter.{DeclaredTypeParameter}
use Rattle.kt_types_tree.specs.Hierarchy.{HierarchyForm}
use Rattle.kt_decls_hierarchy.specs.Drafts.{Classes}
use Rattle.kt_decls_rules.specs.Tables.{class_named, hierarchy_of}
use Rattle.kt_decls_inherited.specs.Known as known
use Rattle.kt_decls_inherited.proofs.AsRuled.{same_signature}
use Rattle.kt_decls_rules.specs.Members.{Member, Signature, first_descriptor, inherited, members_of_any, signature_of}
use Rattle.kt_decls_rules.specs.ClassRules.{HaveDescriptor, above}
use Rattle.kt_decls_inherited.specs.Sights.{SightForm, all_sights, sight_form, sight_of}
use Rattle.kt_decls_inherited.specs.declared.sights.Sight.{Sight}
use Rattle.kt_decls_inherited.specs.Descriptors.{descriptor_in}
use Rattle.kt_decls_methods.specs.Describing.{AreFirst}
use Rattle.kt_decls_methods.specs.Overriding.{DoesOverride, OverridesWell}
use Rattle.kt_decls_methods.proofs.Seen.{all_first, all_seen, any_seen, few_first, seen_all}

clash : (b : Bool) → b ≡ true → b ≡ false → ⊥
clash true d e = absurd cc
clash false d e = absurd cc

module _ (ds : List DeclarationTree) (row : ℕ) (scope : List DeclaredTypeParameter) (f : FunctionTree) (found : List SightForm) (are : found ≡ map sight_of (above ds row f)) where
  does : DoesOverride (hierarchy_of ds) f.modifiers (signature_of ds scope f) found → DoesOverride (hierarchy_of ds) f.modifiers (signature_of ds scope f) (map sight_of (above ds row f))
  does o = subst (DoesOverride (hierarchy_of ds) f.modifiers (signature_of ds scope f)) are o

  whole : DoesOverride (hierarchy_of ds) f.modifiers (signature_of ds scope f) found → HaveDescriptor (first_descriptor (above ds row f) None) (above ds row f) → OverridesWell ds row scope f
  whole o d =
      let all = does o in
      (all.0 ∙ any_seen (above ds row f), (all_seen (hierarchy_of ds) f.modifiers.is_suspend (signature_of ds scope f) (above ds row f) all.1, d))

  back : OverridesWell ds row scope f → DoesOverride (hierarchy_of ds) f.modifiers (signature_of ds scope f) found
  back w =
      subst (DoesOverride (hierarchy_of ds) f.modifiers (signature_of ds scope f)) (sym are)
      (w.0 ∙ sym (any_seen (above ds row f)), seen_all (hierarchy_of ds) f.modifiers.is_suspend (signature_of ds scope f) (above ds row f) w.1.0)

  module _ (fine : Bool) (told : IsTrue fine ↔ DoesOverride (hierarchy_of ds) f.modifiers (signature_of ds scope f) found) where
    pub not_fine : fine ≡ false → IsTrue false ↔ OverridesWell ds row scope f
    not_fine off = ((λ t. absurd (clash false t refl)), (λ w. absurd (clash fine (told.1 (back w)) off)))

    few : length found < 2 → length (above ds row f) < 2
    few less = subst (λ (n : ℕ). n < 2) (length-map (above ds row f) sight_of) (subst (λ (l : List SightForm). length l < 2) are less)

    pub one_alone : fine ≡ true → length found < 2 → IsTrue true ↔ OverridesWell ds row scope f
    one_alone held less = ((λ t. whole (told.0 held) (few_first (above ds row f) (few less))), (λ w. refl))

    pub all_told : fine ≡ true → (r : Result Bool NoMemory) → IfOk r (λ held. IsTrue held ↔ AreFirst (map descriptor_in (above ds row f))) → IfOk r (λ held. IsTrue held ↔ OverridesWell ds row scope f)
    all_told is (Ok held) one = (
      λ t. whole (told.0 is) ((all_first (above ds row f)).0 (one.0 t)),
      λ w. one.1 ((all_first (above ds row f)).1 w.1.1),
    )
    all_told is (Err e) one = tt

pub those_told : (ds : List DeclarationTree) (scope : List DeclaredTypeParameter) (f : FunctionTree) (found : List SightForm) (h : HierarchyForm) → h ≡ hierarchy_of ds → (g : Option Signature) → g ≡ signature_of ds scope f → (b : Bool) → (IsTrue b ↔ DoesOverride h f.modifiers g found) → IsTrue b ↔ DoesOverride (hierarchy_of ds) f.modifiers (signature_of ds scope f) found
those_told ds scope f found h same g is b told =
    subst (λ (k : HierarchyForm). IsTrue b ↔ DoesOverride k f.modifiers (signature_of ds scope f) found) same
    (subst (λ (s : Option Signature). IsTrue b ↔ DoesOverride h f.modifiers s found) is told)

pub signature_known : (ds : List DeclarationTree) (classes : Classes) → ((y : List ℕ) → classes y ≡ class_named ds y) → (scope : List DeclaredTypeParameter) (f : FunctionTree) → known.signature_of classes scope f ≡ signature_of ds scope f
signature_known ds classes names scope f = (λ i. known.signature_of (λ y. names y i) scope f) ∙ same_signature ds scope f

pub seen_above : (ds : List DeclarationTree) (row : ℕ) (f : FunctionTree) (x : List ℕ) (n : ℕ) (found : List SightForm) → found ≡ all_sights ds x n row → x ≡ f.name → n ≡ length f.parameters → found ≡ map sight_of (above ds row f)
seen_above ds row f x n found is named counted = is ∙ (λ i. all_sights ds (named i) (counted i) row)

pub few_told : (found : List Sight) → length found < 2 → length (map sight_form found) < 2
few_told found less = subst (λ (n : ℕ). n < 2) (sym (length-map found sight_form)) less

pub first_told : (ds : List DeclarationTree) (row : ℕ) (f : FunctionTree) (x : List ℕ) (n : ℕ) → x ≡ f.name → n ≡ length f.parameters → (r : Result Bool NoMemory) → IfOk r (λ all. IsTrue all ↔ AreFirst (map descriptor_in (inherited ds x n row ++ members_of_any x n))) → IfOk r (λ all. IsTrue all ↔ AreFirst (map descriptor_in (above ds row f)))
first_told ds row f x n named counted r told =
    subst (λ (k : ℕ). IfOk r (λ all. IsTrue all ↔ AreFirst (map descriptor_in (inherited ds f.name k row ++ members_of_any f.name k)))) counted
    (subst (λ (y : List ℕ). IfOk r (λ all. IsTrue all ↔ AreFirst (map descriptor_in (inherited ds y n row ++ members_of_any y n)))) named told)
