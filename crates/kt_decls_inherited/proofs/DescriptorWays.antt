-- One step up.
use Rattle.std.specs.Prelude.{ℕ, zero, suc, List, [], ◌-◌, ◌≤◌, ◌≡◌, Option, option_map, map, refl, Result, Ok, Err, IfOk}
use Rattle.std.proofs.Common.{arith, ◌∙◌}
use Rattle.kt_base.specs.declared.errors.NoMemory.{NoMemory}
use Rattle.kt_tree.specs.Declarations.{DeclarationTree}
use Rattle.kt_types_tree.specs.Hierarchy.{SuperForm, HierarchyForm, supers_of}
use Rattle.kt_decls_hierarchy.specs.Drafts.{Classes}
use Rattle.kt_decls_rules.specs.Erasure as rules
use Rattle.kt_decls_inherited.specs.declared.erasing.Descriptor.{Descriptor}
use Rattle.kt_decls_inherited.specs.Erased.{descriptor_form}
use Rattle.kt_decls_inherited.specs.Descriptors.{descriptors_up, all_up}

module _ (classes : Classes) (h : HierarchyForm) (ds : List DeclarationTree) (places : List ℕ) (x : List ℕ) (n : ℕ) where
  pub none_up : (k row : ℕ) → k ≡ 0 → [] ≡ descriptors_up classes h ds places x n k row
  unfolding descriptors_up
  none_up zero row e = refl
  none_up (suc k) row e = absurd (omega arith)

  one_up : (k row : ℕ) → all_up classes h ds places x n k (supers_of h row) ≡ descriptors_up classes h ds places x n (suc k) row
  unfolding descriptors_up
  one_up k row = refl

  pub some_up : (k row : ℕ) (ss : List SuperForm) (found : List (Option rules.Descriptor)) → 1 ≤ k → ss ≡ supers_of h row → found ≡ all_up classes h ds places x n (k - 1) ss → found ≡ descriptors_up classes h ds places x n k row
  some_up zero row ss found more same e = absurd (omega arith)
  some_up (suc k) row ss found more same e =
      let one : suc k - 1 ≡ k = omega arith in
      e ∙ ((λ i. all_up classes h ds places x n (one i) (same i)) ∙ one_up k row)

  pub up_told : (k row : ℕ) (ss : List SuperForm) (r : Result (List (Option Descriptor)) NoMemory) → 1 ≤ k → ss ≡ supers_of h row → IfOk r (λ found. map (option_map descriptor_form) found ≡ all_up classes h ds places x n (k - 1) ss) → IfOk r (λ found. map (option_map descriptor_form) found ≡ descriptors_up classes h ds places x n k row)
  up_told k row ss (Ok found) more same e = some_up k row ss (map (option_map descriptor_form) found) more same e
  up_told k row ss (Err z) more same e = tt
