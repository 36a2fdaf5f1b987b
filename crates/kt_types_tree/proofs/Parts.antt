-- What is known of a list by cases on its length.
use Rattle.std.proofs.Common.{Bool, true, false, ◌≡◌, refl, sym, ◌∙◌, ◌<◌, ◌≤◌, List, [], ◌∷◌, length, map, arith}
use Rattle.std.specs.Prelude.{IsTrue, ◌↔◌}
use Rattle.kt_types_tree.specs.declared.types.KtType.{KtType}
use Rattle.kt_types_tree.specs.Types.{forms_of, type_form}

pub yes : {A : Type 0} → A → IsTrue true ↔ A
yes a = ((λ _. a), (λ _. refl))

pub no : {A : Type 0} → (A → ⊥) → IsTrue false ↔ A
no f = ((λ h. cc), (λ a. absurd (f a)))

pub not_both : {b : Bool} → IsTrue b → b ≡ false → ⊥
not_both h e = let f : true ≡ false = sym h ∙ e in cc

pub both_empty : (ts us : List KtType) → length ts < 1 → length us < 1 → forms_of (map type_form ts) ≡ forms_of (map type_form us)
both_empty [] [] h g = refl
both_empty [] (u ∷ us) h g = absurd (omega arith)
both_empty (t ∷ ts) us h g = absurd (omega arith)

pub more_there : (ts us : List KtType) → length ts < 1 → 1 ≤ length us → forms_of (map type_form ts) ≡ forms_of (map type_form us) → ⊥
more_there [] [] h g e = omega arith
more_there [] (u ∷ us) h g e = cc
more_there (t ∷ ts) us h g e = omega arith

pub more_here : (ts us : List KtType) → 1 ≤ length ts → length us < 1 → forms_of (map type_form ts) ≡ forms_of (map type_form us) → ⊥
more_here [] us h g e = omega arith
more_here (t ∷ ts) [] h g e = cc
more_here (t ∷ ts) (u ∷ us) h g e = omega arith
