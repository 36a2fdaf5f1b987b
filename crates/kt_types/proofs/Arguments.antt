-- Arguments in their places.
use Rattle.std.proofs.Common.{ℕ, suc, zero, ◌≡◌, refl, ap, List, [], ◌∷◌, map, Some, None}
use Rattle.std.specs.Prelude.{slice_get, false}
use Rattle.kt_types_tree.specs.declared.types.KtType.{KtType}
use Rattle.kt_types_tree.specs.Types.{ShapeForm, TypeForms, typed, form_then, forms_of, type_form, argument_at, substituted, substituted_all}

pub argument_there : (ts : List KtType) (place : ℕ) (a : KtType) (s : ShapeForm) → slice_get ts place ≡ Some a → argument_at (forms_of (map type_form ts)) place s ≡ type_form a
argument_there [] place a s h = cc
argument_there (t ∷ ts) zero a s h = cc
argument_there (t ∷ ts) (suc place) a s h = argument_there ts place a s h

pub no_argument : (ts : List KtType) (place : ℕ) (s : ShapeForm) → slice_get ts place ≡ None → argument_at (forms_of (map type_form ts)) place s ≡ typed false s
no_argument [] place s h = refl
no_argument (t ∷ ts) zero s h = cc
no_argument (t ∷ ts) (suc place) s h = no_argument ts place s h

pub substituted_map : (w : TypeForms) (ts : List KtType) → substituted_all w (forms_of (map type_form ts)) ≡ forms_of (map (λ t. substituted w (type_form t)) ts)
substituted_map w [] = refl
substituted_map w (t ∷ ts) = ap (form_then (substituted w (type_form t))) (substituted_map w ts)
