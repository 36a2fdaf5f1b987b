-- What is told by what is seen of functions is told of the functions.
use Rattle.std.specs.Prelude.{ℕ, zero, suc, Bool, true, false, List, [], ◌∷◌, ◌++◌, ◌<◌, ◌≡◌, ◌↔◌, Option, Some, None, length, map, refl}
use Rattle.std.proofs.Common.{arith, ap, sym, ◌∙◌}
use Rattle.kt_types_tree.specs.Hierarchy.{HierarchyForm}
use Rattle.kt_decls_rules.specs.Erasure.{Descriptor}
use Rattle.kt_decls_rules.specs.Members.{Member, Signature, first_descriptor}
use Rattle.kt_decls_rules.specs.ClassRules.{HaveDescriptor, HaveSameDescriptor, OverridesAll, Overrides, is_any_there}
use Rattle.kt_decls_inherited.specs.Sights.{SightForm, sight_of}
use Rattle.kt_decls_inherited.specs.Descriptors.{descriptor_in}
use Rattle.kt_decls_methods.specs.Describing.{AreDescriptor, AreFirst}
use Rattle.kt_decls_methods.specs.Overriding.{OverridesSight, OverridesSights, is_any_sight}

pub any_seen : (ms : List Member) → is_any_sight (map sight_of ms) ≡ is_any_there ms
any_seen [] = refl
any_seen (m ∷ ms) = refl

module _ (h : HierarchyForm) (s : Bool) (g : Option Signature) where
  pub all_seen : (ms : List Member) → OverridesSights h s g (map sight_of ms) → OverridesAll h s g ms
  all_seen [] o = tt
  all_seen (m ∷ ms) o = (record { may = o.0.may; same_parameters = o.0.same_parameters; result_below = o.0.result_below; same_suspend = o.0.same_suspend }, all_seen ms o.1)

  pub seen_all : (ms : List Member) → OverridesAll h s g ms → OverridesSights h s g (map sight_of ms)
  seen_all [] o = tt
  seen_all (m ∷ ms) o = (record { may = o.0.may; same_parameters = o.0.same_parameters; result_below = o.0.result_below; same_suspend = o.0.same_suspend }, seen_all ms o.1)

to_functions : (d : Option Descriptor) (ms : List Member) → AreDescriptor d (map descriptor_in ms) → HaveDescriptor d ms
to_functions d [] a = tt
to_functions d (m ∷ ms) a = (a.0, to_functions d ms a.1)

of_functions : (d : Option Descriptor) (ms : List Member) → HaveDescriptor d ms → AreDescriptor d (map descriptor_in ms)
of_functions d [] a = tt
of_functions d (m ∷ ms) a = (a.0, of_functions d ms a.1)

pub all_first : (ms : List Member) → AreFirst (map descriptor_in ms) ↔ HaveDescriptor (first_descriptor ms None) ms
all_first [] = ((λ a. tt), (λ a. tt))
all_first (m ∷ ms) = (to_functions m.descriptor (m ∷ ms), of_functions m.descriptor (m ∷ ms))

with_itself : (d : Option Descriptor) → HaveSameDescriptor d d
with_itself None = tt
with_itself (Some d) = refl

-- one alone has one descriptor
pub few_first : (ms : List Member) → length ms < 2 → HaveDescriptor (first_descriptor ms None) ms
few_first [] less = tt
few_first (m ∷ []) less = (with_itself m.descriptor, tt)
few_first (m ∷ k ∷ ms) less = absurd (omega arith)
