-- Whether a text is a descriptor.
use Rattle.std.proofs.Common.{◌≡◌, ◌↔◌, ◌==◌, ℕ, ◌<◌, Bool, false, List, [], ◌∷◌, length, drop, Option, Some, None, option_map, All, refl, sym, ap, ◌∙◌, arith, true≢false}
use Rattle.std.specs.Prelude.{IsTrue}
use Rattle.std.proofs.lemmas.Bool.{eqb-true, eq-eqb}
use Rattle.jvm_pool.specs.declared.descriptors.FieldType.{FieldType}
use Rattle.jvm_pool.specs.Descriptors.{spelled_result, IsFieldType, IsResult, IsOfField, IsOfMethod}
use Rattle.jvm_pool.specs.DescriptorReading.{first_type}
use Rattle.jvm_pool.proofs.DescriptorLaws.{closed, no_type, not_only, only, types_same}

-- the type that stands before what stands behind it
pub before : (found : Option (FieldType × List ℕ)) (rest : List ℕ) → Some rest ≡ option_map (λ found. found.1) found → (t : FieldType) × (found ≡ Some (t, rest))
before None rest h = absurd cc
before (Some (t, behind)) rest h = let same : rest ≡ behind = cc in (t, ap (λ b. Some (t, b)) (sym same))

pub nothing_before : (found : Option (FieldType × List ℕ)) → None ≡ option_map (λ found. found.1) found → found ≡ None
nothing_before None h = refl
nothing_before (Some x) h = absurd cc

empty_or : (rest : List ℕ) → (0 < length rest → ⊥) → length rest ≡ 0
empty_or [] never = refl
empty_or (b ∷ rest) never = absurd (never (omega arith))

tested : (n : ℕ) (b : Bool) (p : Type 0) → b ≡ (n == 0) → (n ≡ 0 → p) → (p → n ≡ 0) → IsTrue b ↔ p
tested n b p is forth back = (λ t. forth (eqb-true n 0 (sym is ∙ t)), λ x. is ∙ eq-eqb n 0 (back x))

-- the bytes are a field's descriptor where a type is at their front and nothing behind it
pub empty_is_field : (bytes rest : List ℕ) (b : Bool) → Some rest ≡ option_map (λ found. found.1) (first_type bytes) → b ≡ (length rest == 0) → IsTrue b ↔ IsOfField bytes
empty_is_field bytes rest b h is =
    let p = before (first_type bytes) rest h in
    tested (length rest) b (IsOfField bytes) is (λ none. let o = only bytes rest p.0 p.1 none in (p.0, o.0, o.1)) (λ f. empty_or rest (λ some. not_only bytes rest p.0 p.1 some f.0 f.1 f.2))

pub no_field : (bytes : List ℕ) → None ≡ option_map (λ found. found.1) (first_type bytes) → IsTrue false ↔ IsOfField bytes
no_field bytes h = (λ t. absurd (true≢false (sym t)), λ f. absurd (no_type bytes (nothing_before (first_type bytes) h) f.0 f.1 f.2))

-- a method's descriptor, by the types and the result behind its `(`
pub is_method : (bytes rest : List ℕ) (types : List FieldType) (r : Option FieldType) → All IsFieldType types → bytes ≡ closed types rest → IsResult r → rest ≡ spelled_result r → IsOfMethod (40 ∷ bytes)
is_method bytes rest types r all is fits e = (types, r, all, fits, ap (λ l. 40 ∷ l) (is ∙ ap (closed types) e))

pub method_result : (bytes rest : List ℕ) (types : List FieldType) (m : IsOfMethod (40 ∷ bytes)) → All IsFieldType types → bytes ≡ closed types rest → rest ≡ spelled_result m.1
method_result bytes rest types m all is =
    let inner : bytes ≡ closed m.0 (spelled_result m.1) = ap (drop 1) m.4 in
    (types_same types m.0 rest (spelled_result m.1) all m.2 (sym is ∙ inner)).1

pub method_closed : (bytes : List ℕ) (m : IsOfMethod (40 ∷ bytes)) → bytes ≡ closed m.0 (spelled_result m.1)
method_closed bytes m = ap (drop 1) m.4
