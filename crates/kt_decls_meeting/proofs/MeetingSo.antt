-- What a class has from above breaks no rule of the class where the tests say so.
use Rattle.std.specs.Prelude.{ℕ, Bool, true, false, List, ◌||◌, ◌≡◌, ◌↔◌, IsTrue, Result, Ok, Err, IfOk}
use Rattle.std.proofs.Common.{sym, ◌∙◌}
use Rattle.kt_base.specs.declared.errors.NoMemory.{NoMemory}
use Rattle.kt_tree.specs.Declarations.{DeclarationTree}
use Rattle.kt_decls_bounds.proofs.Deciding.{always}
use Rattle.kt_decls_rules.specs.Tables.{declares, hierarchy_of}
use Rattle.kt_decls_rules.specs.Members.{inherited}
use Rattle.kt_decls_rules.specs.ClassRules.{DoAllAgree, IsFineAbove, has_body_if_any, is_generated}

clash : (b : Bool) → b ≡ true → b ≡ false → ⊥
clash true d e = absurd cc
clash false d e = absurd cc

module _ (ds : List DeclarationTree) (row : ℕ) (needs is_data : Bool) (d : DeclarationTree) (x : List ℕ) (n : ℕ) (own : Bool) (is : own ≡ (declares x n d || is_generated is_data x n)) where
  pub has_own : own ≡ true → IsTrue true ↔ IsFineAbove ds row needs is_data d x n
  has_own e =
      always (record { agree = λ none. absurd (clash own e (is ∙ none)); bodies = λ _ none. absurd (clash own e (is ∙ none)) })

  pub has_none : own ≡ false → (r : Result Bool NoMemory) → IfOk r (λ yes. IsTrue yes ↔ (DoAllAgree (hierarchy_of ds) (inherited ds x n row) × (needs ≡ true → has_body_if_any (inherited ds x n row) ≡ true))) → IfOk r (λ yes. IsTrue yes ↔ IsFineAbove ds row needs is_data d x n)
  has_none e (Ok b) told = (
    (λ t. let w = told.0 t in record { agree = λ _. w.0; bodies = λ need _. w.1 need }),
    (λ f. told.1 (f.agree (sym is ∙ e), λ need. f.bodies need (sym is ∙ e))),
  )
  has_none e (Err z) told = tt
