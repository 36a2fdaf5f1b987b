-- Names and descriptors among ASCII texts.
use Rattle.std.proofs.Common.{◌≡◌, ◌↔◌, ℕ, zero, suc, ◌<◌, Bool, true, false, List, [], ◌∷◌, get_or, refl, sym, subst, arith, nat_lt}
use Rattle.std.proofs.lemmas.Bool.{and_parts, ltb-true}
use Rattle.jvm_pool.specs.Descriptors.{IsOfField, IsOfMethod}
use Rattle.jvm_pool_bytes.specs.Names.{is_ascii, is_field_descriptor, is_method_descriptor}
use Rattle.jvm_pool_bytes.proofs.DescriptorKinds.{descriptor_kinds}
use Rattle.jvm_pool_reader.specs.declared.texts.Kind.{Kind}
use Rattle.jvm_pool_reader.specs.declared.texts.Kind.TheVariants as kind
use Rattle.jvm_pool_reader.specs.DescriptorKind.{is_descriptor}

same_bool : (a b : Bool) → (a ≡ true → b ≡ true) → (b ≡ true → a ≡ true) → a ≡ b
same_bool true b to from = sym (to refl)
same_bool false true to from = from refl
same_bool false false to from = refl

pub field_is : (k : Kind) (name text : List ℕ) (b : Bool) → name ≡ text → is_ascii text ≡ true
    → (b ≡ true) ↔ IsOfField name → k ≡ kind.Field → b ≡ is_descriptor k text
field_is k name text b is ascii judged one =
    let k = (descriptor_kinds text ascii).0 in
    subst (λ (j : Kind). b ≡ is_descriptor j text) (sym one)
    (same_bool b (is_field_descriptor text) (λ t. k.1 (subst IsOfField is (judged.0 t)))
    (λ t. judged.1 (subst IsOfField (sym is) (k.0 t))))

pub method_is : (k : Kind) (name text : List ℕ) (b : Bool) → name ≡ text → is_ascii text ≡ true
    → (b ≡ true) ↔ IsOfMethod name → k ≡ kind.Method → b ≡ is_descriptor k text
method_is k name text b is ascii judged one =
    let k = (descriptor_kinds text ascii).1 in
    subst (λ (j : Kind). b ≡ is_descriptor j text) (sym one)
    (same_bool b (is_method_descriptor text) (λ t. k.1 (subst IsOfMethod is (judged.0 t)))
    (λ t. judged.1 (subst IsOfMethod (sym is) (k.0 t))))

below_128 : (n : ℕ) → nat_lt n 128 ≡ true → n < 128
below_128 n h = ltb-true n 128 h

pub ascii_each : (text : List ℕ) → is_ascii text ≡ true → (i : ℕ) → get_or text i 0 < 128
ascii_each [] h i = omega arith
ascii_each (u ∷ text) h zero = below_128 u (and_parts (nat_lt u 128) (is_ascii text) h).0
ascii_each (u ∷ text) h (suc i) = ascii_each text (and_parts (nat_lt u 128) (is_ascii text) h).1 i

-- a text that isn't ASCII is no descriptor
pub not_ascii : (k : Kind) (text : List ℕ) → is_ascii text ≡ false → false ≡ is_descriptor k text
not_ascii kind.Field text h = rw h refl
not_ascii kind.Method text h = rw h refl
