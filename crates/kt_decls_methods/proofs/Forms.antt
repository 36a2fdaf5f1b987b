-- Types are one behind the other where their forms are.
use Rattle.std.specs.Prelude.{Bool, List, [], ◌∷◌, ◌≡◌, ◌↔◌, IsTrue, refl}
use Rattle.std.proofs.Common.{ap, sym, ◌∙◌}
use Rattle.kt_types_tree.specs.Types.{TypeForm, TypeForms, forms_of, forms_end, form_then}

back : TypeForms → List TypeForm
back forms_end = []
back (form_then t ts) = t ∷ back ts

back_is : (ts : List TypeForm) → back (forms_of ts) ≡ ts
unfolding back
back_is [] = refl
back_is (t ∷ ts) = ap (λ us. t ∷ us) (back_is ts)

pub forms_told : (b : Bool) (ts us : List TypeForm) → (IsTrue b ↔ (forms_of ts ≡ forms_of us)) → IsTrue b ↔ (ts ≡ us)
forms_told b ts us told = ((λ t. sym (back_is ts) ∙ (ap back (told.0 t) ∙ back_is us)), (λ e. told.1 (ap forms_of e)))
