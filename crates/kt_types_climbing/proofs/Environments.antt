-- Types read under arguments.
use Rattle.std.proofs.Common.{ℕ, suc, zero, Bool, true, false, ◌≡◌, refl, ◌<◌, ◌≤◌, ◌∙◌, sym, ap, List, [], ◌∷◌, length, map, Some, None, arith}
use Rattle.std.specs.Prelude.{◌||◌, slice_get}
use Rattle.kt_types_tree.specs.declared.types.KtType.{KtType}
use Rattle.kt_types_tree.specs.Types.{TypeForm, TypeForms, ShapeForm, typed, parameter, forms_end, form_then, forms_of, type_form, or_null, argument_at, substituted_shape}
use Rattle.kt_types_climbing.specs.Reading.{read, read_all}

pub or_or : (k n m : Bool) → ((k || n) || m) ≡ (k || (n || m))
or_or true n m = refl
or_or false n m = refl

pub or_null_twice : (n m : Bool) (t : TypeForm) → or_null m (or_null n t) ≡ or_null (n || m) t
or_null_twice n m (typed k s) = ap (λ b. typed b s) (or_or k n m)

-- null may be put in before or after
pub read_flag : (ls : List TypeForms) (n m : Bool) (s : ShapeForm) → or_null m (read ls (typed n s)) ≡ read ls (typed (n || m) s)
read_flag [] n m s = refl
read_flag (all ∷ rest) n m s = or_null_twice n m (substituted_shape (read_all rest all) s)

pub read_none : (ls : List TypeForms) → read_all ls forms_end ≡ forms_end
read_none [] = refl
read_none (all ∷ rest) = refl

pub read_more : (ls : List TypeForms) (t : TypeForm) (ts : TypeForms) → read_all ls (form_then t ts) ≡ form_then (read ls t) (read_all ls ts)
read_more [] t ts = refl
read_more (all ∷ rest) t ts = refl

-- each alone
pub read_map : (ls : List TypeForms) (ts : List KtType) → read_all ls (forms_of (map type_form ts)) ≡ forms_of (map (λ t. read ls (type_form t)) ts)
read_map ls [] = read_none ls
read_map ls (t ∷ ts) = read_more ls (type_form t) (forms_of (map type_form ts)) ∙ ap (form_then (read ls (type_form t))) (read_map ls ts)

argument_map : (f : KtType → TypeForm) (ts : List KtType) (place : ℕ) (a : KtType) (s : ShapeForm) → slice_get ts place ≡ Some a → argument_at (forms_of (map f ts)) place s ≡ f a
argument_map f [] place a s h = cc
argument_map f (t ∷ ts) zero a s h = cc
argument_map f (t ∷ ts) (suc place) a s h = argument_map f ts place a s h

no_argument_map : (f : KtType → TypeForm) (ts : List KtType) (place : ℕ) (s : ShapeForm) → slice_get ts place ≡ None → argument_at (forms_of (map f ts)) place s ≡ typed false s
no_argument_map f [] place s h = refl
no_argument_map f (t ∷ ts) zero s h = cc
no_argument_map f (t ∷ ts) (suc place) s h = no_argument_map f ts place s h

-- a parameter is read as its argument is under what stands behind
pub read_argument : (ls : List TypeForms) (ts : List KtType) (n : Bool) (row place : ℕ) (a : KtType) → slice_get ts place ≡ Some a → read (forms_of (map type_form ts) ∷ ls) (typed n (parameter row place)) ≡ or_null n (read ls (type_form a))
read_argument ls ts n row place a h = ap (or_null n) (ap (λ w. argument_at w place (parameter row place)) (read_map ls ts) ∙ argument_map (λ t. read ls (type_form t)) ts place a (parameter row place) h)

pub read_no_argument : (ls : List TypeForms) (ts : List KtType) (n : Bool) (row place : ℕ) → slice_get ts place ≡ None → read (forms_of (map type_form ts) ∷ ls) (typed n (parameter row place)) ≡ typed n (parameter row place)
read_no_argument ls ts n row place h = ap (or_null n) (ap (λ w. argument_at w place (parameter row place)) (read_map ls ts) ∙ no_argument_map (λ t. read ls (type_form t)) ts place (parameter row place) h)

pub both_empty : (ls ms : List TypeForms) (ts us : List KtType) → length ts < 1 → length us < 1 → read_all ls (forms_of (map type_form ts)) ≡ read_all ms (forms_of (map type_form us))
both_empty ls ms [] [] h g = read_none ls ∙ sym (read_none ms)
both_empty ls ms [] (u ∷ us) h g = absurd (omega arith)
both_empty ls ms (t ∷ ts) us h g = absurd (omega arith)

pub more_there : (ls ms : List TypeForms) (ts us : List KtType) → length ts < 1 → 1 ≤ length us → read_all ls (forms_of (map type_form ts)) ≡ read_all ms (forms_of (map type_form us)) → ⊥
more_there ls ms [] [] h g e = omega arith
more_there ls ms [] (u ∷ us) h g e = let f = read_none ls in let k = read_more ms (type_form u) (forms_of (map type_form us)) in cc
more_there ls ms (t ∷ ts) us h g e = omega arith

pub more_here : (ls ms : List TypeForms) (ts us : List KtType) → 1 ≤ length ts → length us < 1 → read_all ls (forms_of (map type_form ts)) ≡ read_all ms (forms_of (map type_form us)) → ⊥
more_here ls ms ts us h g e = more_there ms ls us ts g h (sym e)
