-- Erased types are one where their forms are.
use Rattle.std.specs.Prelude.{List, [], ◌∷◌, ◌<◌, ◌≤◌, ◌≡◌, length, ◌↔◌, IsTrue, Bool, true, false, ◌&&◌, map, refl}
use Rattle.std.proofs.Common.{arith, ap, sym, ◌∙◌}
use Rattle.kt_decls_rules.specs.Erasure as rules
use Rattle.kt_decls_rules.specs.Erasure.{Erased, primitive, object, reference, functional}
use Rattle.kt_decls_inherited.specs.declared.erasing.ErasedType.{ErasedType}
use Rattle.kt_decls_inherited.specs.declared.erasing.ErasedType.TheVariants as erased
use Rattle.kt_decls_inherited.specs.declared.erasing.Descriptor.{Descriptor}
use Rattle.kt_decls_inherited.specs.Erased.{erased_form, descriptor_form}

back : Erased → ErasedType
back (primitive c) = erased.Primitive c
back object = erased.Object
back (reference c) = erased.Reference c
back (functional n) = erased.Functional n

back_is : (e : ErasedType) → back (erased_form e) ≡ e
unfolding back
back_is (erased.Primitive c) = refl
back_is erased.Object = refl
back_is (erased.Reference c) = refl
back_is (erased.Functional n) = refl

all_back : (es : List ErasedType) → map back (map erased_form es) ≡ es
all_back [] = refl
all_back (e ∷ es) = λ i. back_is e i ∷ all_back es i

same_results : (a b : Descriptor) → descriptor_form a ≡ descriptor_form b → a.result ≡ b.result
same_results a b e = sym (back_is a.result) ∙ (ap (λ (d : rules.Descriptor). back d.result) e ∙ back_is b.result)

same_parameters : (a b : Descriptor) → descriptor_form a ≡ descriptor_form b → a.parameters ≡ b.parameters
same_parameters a b e = sym (all_back a.parameters) ∙ (ap (λ (d : rules.Descriptor). map back d.parameters) e ∙ all_back b.parameters)

pub same_then : (a b : Descriptor) (x y : Bool) → (IsTrue x ↔ (a.result ≡ b.result)) → x ≡ true → (IsTrue y ↔ (a.parameters ≡ b.parameters)) → IsTrue y ↔ (descriptor_form a ≡ descriptor_form b)
same_then a b x y one t two = (
  λ u. λ i. record { parameters = map erased_form (two.0 u i); result = erased_form (one.0 t i) },
  λ e. two.1 (same_parameters a b e),
)

clash : (b : Bool) → b ≡ true → b ≡ false → ⊥
clash true d e = absurd cc
clash false d e = absurd cc

pub other_then : (a b : Descriptor) (x : Bool) → (IsTrue x ↔ (a.result ≡ b.result)) → x ≡ false → IsTrue false ↔ (descriptor_form a ≡ descriptor_form b)
other_then a b x one off = ((λ t. absurd (clash false t refl)), (λ e. absurd (clash x (one.1 (same_results a b e)) off)))

pub both_empty : (ts us : List ErasedType) → length ts < 1 → length us < 1 → ts ≡ us
both_empty [] [] h g = refl
both_empty [] (u ∷ us) h g = absurd (omega arith)
both_empty (t ∷ ts) us h g = absurd (omega arith)

pub more_there : (ts us : List ErasedType) → length ts < 1 → 1 ≤ length us → ts ≡ us → ⊥
more_there [] [] h g e = omega arith
more_there [] (u ∷ us) h g e = cc
more_there (t ∷ ts) us h g e = omega arith

pub more_here : (ts us : List ErasedType) → 1 ≤ length ts → length us < 1 → ts ≡ us → ⊥
more_here [] us h g e = omega arith
more_here (t ∷ ts) [] h g e = cc
more_here (t ∷ ts) (u ∷ us) h g e = omega arith
