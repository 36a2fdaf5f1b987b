-- One step up.
use Rattle.std.specs.Prelude.{ℕ, zero, suc, Bool, true, false, List, [], ◌∷◌, ◌-◌, ◌≤◌, ◌≡◌, Option, Some, None, is_some, refl, Result, Ok, Err, IfOk}
use Rattle.std.proofs.Common.{arith, ap, sym, ◌∙◌, subst}
use Rattle.kt_base.specs.declared.errors.NoMemory.{NoMemory}
use Rattle.kt_tree.specs.Declarations.{DeclarationTree}
use Rattle.kt_types_tree.specs.Hierarchy.{SuperForm, HierarchyForm, supers_of}
use Rattle.kt_typed.specs.declared.headers.Overridden.{Overridden}
use Rattle.kt_decls_headers.specs.Overridden.{first_by, first_up, or_else}

module _ (h : HierarchyForm) (ds : List DeclarationTree) (places : List ℕ) (x : List ℕ) (n : ℕ) where
  pub none_up : (k row : ℕ) → k ≡ 0 → None ≡ first_up h ds places x n k row
  unfolding first_up
  none_up zero row e = refl
  none_up (suc k) row e = absurd (omega arith)

  one_up : (k row : ℕ) → first_by h ds places x n (first_up h ds places x n k) (supers_of h row) ≡ first_up h ds places x n (suc k) row
  unfolding first_up
  one_up k row = refl

  pub some_up : (k row : ℕ) (ss : List SuperForm) (r : Result (Option Overridden) NoMemory) → 1 ≤ k → ss ≡ supers_of h row → IfOk r (λ found. found ≡ first_by h ds places x n (first_up h ds places x n (k - 1)) ss) → IfOk r (λ found. found ≡ first_up h ds places x n k row)
  some_up zero row ss r more same e = absurd (omega arith)
  some_up (suc k) row ss (Err z) more same e = tt
  some_up (suc k) row ss (Ok found) more same e =
      let one : suc k - 1 ≡ k = omega arith in
      e ∙ ((λ i. first_by h ds places x n (first_up h ds places x n (one i)) (same i)) ∙ one_up k row)

pub found_first : (o : Option Overridden) (rest : Option Overridden) → is_some o ≡ true → o ≡ or_else o rest
found_first None rest e = absurd cc
found_first (Some f) rest e = refl

pub none_first : (o : Option Overridden) (rest : Option Overridden) → is_some o ≡ false → rest ≡ or_else o rest
none_first None rest e = refl
none_first (Some f) rest e = absurd cc
