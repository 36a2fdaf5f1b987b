-- Ways without a choice.
use Rattle.std.specs.Prelude.{ℕ, List, Some, ◌≡◌, ◌↔◌, slice_get}
use Rattle.kt_types_tree.specs.Types.{TypeForms, forms_end}
use Rattle.kt_types_tree.specs.Hierarchy.{SuperForm, HierarchyForm}
use Rattle.kt_types_order.specs.Climbing.{Climbs}

-- the wanted class isn't above this one
abbrev pub LeadsNowhere : HierarchyForm → ℕ → ℕ → Type 0
LeadsNowhere h c wanted = (all others : TypeForms) → Climbs h c all wanted others → ⊥

-- nor above one of several supertypes but that at a place
abbrev pub NowhereBut : HierarchyForm → List SuperForm → ℕ → ℕ → Type 0
NowhereBut h ss k wanted =
    (i : ℕ) (s : SuperForm) → slice_get ss i ≡ Some s → (i ≡ k → ⊥) → LeadsNowhere h s.class wanted

-- from two classes without arguments the same is found of the wanted class
abbrev pub LeadsSame : HierarchyForm → ℕ → ℕ → ℕ → Type 0
LeadsSame h c d wanted = (others : TypeForms) → Climbs h c forms_end wanted others ↔ Climbs h d forms_end wanted others
