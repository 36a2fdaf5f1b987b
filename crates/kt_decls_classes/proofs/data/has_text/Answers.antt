use Rattle.std.proofs.Common.{◌≡◌, Bool, true, sym, ◌∙◌}
use Rattle.std.specs.Prelude.{IsTrue, ◌↔◌}
use Rattle.kt_decls_bounds.proofs.Deciding.{always}
use Rattle.kt_decls_classes.proofs.data.has_text.Goals as goal

same_truth : (a b : Bool) → a ≡ b → IsTrue a ↔ (b ≡ true)
same_truth a b e = ((λ t. sym e ∙ t), (λ t. e ∙ t))

pub returns-in-None : goal.returns-in-None
returns-in-None c = rw c.in-None.is (always tt)

pub returns-in-Some : goal.returns-in-Some
returns-in-Some c = rw c.in-Some.is (same_truth c.has_both.result _ c.has_both.ensures)
