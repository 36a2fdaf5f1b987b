-- One step up.
use Rattle.std.specs.Prelude.{ℕ, zero, suc, Bool, false, List, [], ◌-◌, ◌≤◌, ◌≡◌, refl}
use Rattle.std.specs.List.{list_any}
use Rattle.std.proofs.Common.{arith, ap, ◌∙◌}
use Rattle.kt_tree.specs.Declarations.{DeclarationTree}
use Rattle.kt_types_tree.specs.Hierarchy.{SuperForm, HierarchyForm, supers_of}
use Rattle.kt_decls_rules.specs.Names.{is_name}
use Rattle.kt_decls_inherited.specs.Properties.{properties_up, all_up}

module _ (h : HierarchyForm) (ds : List DeclarationTree) (places : List ℕ) (x : List ℕ) where
  pub none_up : (k row : ℕ) → k ≡ 0 → false ≡ list_any (is_name x) (properties_up h ds places k row)
  unfolding properties_up
  none_up zero row e = refl
  none_up (suc k) row e = absurd (omega arith)

  one_up : (k row : ℕ) → all_up h ds places k (supers_of h row) ≡ properties_up h ds places (suc k) row
  unfolding properties_up
  one_up k row = refl

  pub some_up : (k row : ℕ) (ss : List SuperForm) (found : Bool) → 1 ≤ k → ss ≡ supers_of h row → found ≡ list_any (is_name x) (all_up h ds places (k - 1) ss) → found ≡ list_any (is_name x) (properties_up h ds places k row)
  some_up zero row ss found more same e = absurd (omega arith)
  some_up (suc k) row ss found more same e =
      let one : suc k - 1 ≡ k = omega arith in
      e ∙ ap (list_any (is_name x)) ((λ i. all_up h ds places (one i) (same i)) ∙ one_up k row)
