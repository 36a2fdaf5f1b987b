-- Which texts are descriptors.
use Rattle.std.proofs.Common.{◌≡◌, ℕ, zero, suc, ◌≤◌, Bool, true, false, ◌&&◌, ◌||◌, cond, List, [], ◌∷◌, ◌++◌, length, Option, Some, None, refl, sym, ap, ◌∙◌, append_assoc, arith, true≢false, ◌⊎◌, inl, inr}
use Rattle.std.specs.Prelude.{◌==◌, All, codes}
use Rattle.std.specs.List.{flat_map}
use Rattle.std.specs.Cmp.Lexicographic.{bytes_decides}
use Rattle.std.proofs.lemmas.Bool.{and_parts, eqb-true, eq-eqb}
use Rattle.std.proofs.lemmas.List.{append-nil}
use Rattle.std.proofs.lemmas.List.Elements.{All-tail}
use Rattle.jvm_pool.specs.declared.descriptors.FieldType.{FieldType}
use Rattle.jvm_pool.specs.DescriptorReading.{first_type}
use Rattle.jvm_pool.specs.Descriptors.{spelled_type, spelled_result, IsFieldType, IsResult, IsOfMethod}
use Rattle.jvm_pool.specs.Entries.{same_text}
use Rattle.jvm_pool.proofs.DescriptorLaws.{only, type_shorter}
use Rattle.jvm_pool.proofs.Types.{type_takes, type_again}
use Rattle.jvm_pool_bytes.specs.Names.{is_ascii, is_last, is_result, behind_type, are_parameters, opened}
use Rattle.jvm_pool_bytes.specs.Laws.{DescriptorKinds}

both : (a b : Bool) → a ≡ true → b ≡ true → (a && b) ≡ true
both true b p q = q
both false b p q = p

one_of : (a b : Bool) → (a || b) ≡ true → (a ≡ true) ⊎ (b ≡ true)
one_of true b h = inl refl
one_of false b h = inr h

or_second : (a b : Bool) → b ≡ true → (a || b) ≡ true
or_second true b h = refl
or_second false b h = h

more_types : (t : FieldType) (ts : List FieldType) → IsFieldType t → All IsFieldType ts → All IsFieldType (t ∷ ts)
more_types t ts first others zero d below = first
more_types t ts first others (suc i) d below = others i d (omega (arith, below))

no_types : All IsFieldType []
no_types i d below = absurd (omega (arith, below))

first_fits : (t : FieldType) (ts : List FieldType) → All IsFieldType (t ∷ ts) → IsFieldType t
first_fits t ts h = h zero t (omega arith)

-- ---- one type

last_found : (text : List ℕ) → is_last (first_type text) ≡ true → (t : FieldType) × IsFieldType t × (text ≡ spelled_type t)
last_found text h = by (first_type text) refl h
  where
    by : (o : Option (FieldType × List ℕ)) → first_type text ≡ o → is_last o ≡ true
        → (t : FieldType) × IsFieldType t × (text ≡ spelled_type t)
    by None is h = absurd (true≢false (sym h))
    by (Some x) is h = let p = only text x.1 x.0 is (eqb-true (length x.1) 0 h) in (x.0, p.0, p.1)

last_again : (text : List ℕ) (t : FieldType) → IsFieldType t → text ≡ spelled_type t → is_last (first_type text) ≡ true
last_again text t fits is =
    ap (λ (o : Option (FieldType × List ℕ)). is_last o)
    (ap first_type (is ∙ sym (append-nil (spelled_type t))) ∙ type_again t [] fits)

-- ---- the result

result_found : (text : List ℕ) → is_result text ≡ true → (r : Option FieldType) × IsResult r × (text ≡ spelled_result r)
result_found text h = by (one_of (same_text text (codes "V")) (is_last (first_type text)) h)
  where
    by : (same_text text (codes "V") ≡ true) ⊎ (is_last (first_type text) ≡ true)
        → (r : Option FieldType) × IsResult r × (text ≡ spelled_result r)
    by (inl is) = (None, tt, (bytes_decides text (codes "V")).0 is)
    by (inr is) = let t = last_found text is in (Some t.0, t.1, t.2)

result_again : (text : List ℕ) (r : Option FieldType) → IsResult r → text ≡ spelled_result r → is_result text ≡ true
result_again text None fits is =
    ap (λ (b : Bool). b || is_last (first_type text)) ((bytes_decides text (codes "V")).1 is)
result_again text (Some t) fits is =
    or_second (same_text text (codes "V")) (is_last (first_type text)) (last_again text t fits is)

-- ---- parameters

abbrev closed : List FieldType → List ℕ → List ℕ
closed ts rest = flat_map spelled_type ts ++ codes ")" ++ rest

closed_more : (t : FieldType) (ts : List FieldType) (rest : List ℕ) → closed (t ∷ ts) rest ≡ spelled_type t ++ closed ts rest
closed_more t ts rest =
    ap (λ (l : List ℕ). l ++ rest) (append_assoc (spelled_type t) (flat_map spelled_type ts) (codes ")"))
    ∙ append_assoc (spelled_type t) (flat_map spelled_type ts ++ codes ")") rest

pub record Parameters (bytes : List ℕ) : Type 0 where
  pub types : List FieldType
  pub fit : All IsFieldType types
  pub rest : List ℕ
  pub bytes_are : bytes ≡ closed types rest
  pub result : is_result rest ≡ true

none_left : (b : ℕ) (rest : List ℕ) → (b == 41) ≡ true → is_result rest ≡ true → Parameters (b ∷ rest)
none_left b rest is h = record {
  types = [];
  fit = no_types;
  rest = rest;
  bytes_are = ap (λ (n : ℕ). n ∷ rest) (eqb-true b 41 is);
  result = h;
}

parameters_found : (n : ℕ) (bytes : List ℕ) → are_parameters n bytes ≡ true → Parameters bytes
unfolding are_parameters
parameters_found n [] h = absurd (true≢false (sym h))
parameters_found zero (b ∷ rest) h = by (b == 41) refl h
  where
    by : (c : Bool) → (b == 41) ≡ c → cond c (is_result rest) false ≡ true → Parameters (b ∷ rest)
    by true is h = none_left b rest is h
    by false is h = absurd (true≢false (sym h))
parameters_found (suc n) (b ∷ rest) h =
    by (b == 41) refl h (first_type (b ∷ rest)) refl (λ more g. parameters_found n more g)
  where
    further : (o : Option (FieldType × List ℕ)) → first_type (b ∷ rest) ≡ o → behind_type o (are_parameters n) ≡ true
        → ((more : List ℕ) → are_parameters n more ≡ true → Parameters more) → Parameters (b ∷ rest)
    further None is h later = absurd (true≢false (sym h))
    further (Some x) is h later =
        let p = later x.1 h in
        let t = type_takes (b ∷ rest) x.0 x.1 is in
        record {
          types = x.0 ∷ p.types;
          fit = more_types x.0 p.types t.1 p.fit;
          rest = p.rest;
          bytes_are = t.0 ∙ ap (λ (l : List ℕ). spelled_type x.0 ++ l) p.bytes_are ∙ sym (closed_more x.0 p.types p.rest);
          result = p.result;
        }

    by : (c : Bool) → (b == 41) ≡ c → cond c (is_result rest) (behind_type (first_type (b ∷ rest)) (are_parameters n)) ≡ true
        → (o : Option (FieldType × List ℕ)) → first_type (b ∷ rest) ≡ o
        → ((more : List ℕ) → are_parameters n more ≡ true → Parameters more) → Parameters (b ∷ rest)
    by true is h o found later = none_left b rest is h
    by false is h o found later = further (first_type (b ∷ rest)) refl h later

some_none : (o : Option (FieldType × List ℕ)) (x : FieldType × List ℕ) → o ≡ None → o ≡ Some x → ⊥
some_none o x p q = absurd cc

parameters_again : (n : ℕ) (bytes : List ℕ) (ts : List FieldType) (rest : List ℕ) → bytes ≡ closed ts rest
    → All IsFieldType ts → is_result rest ≡ true → length bytes ≤ n → are_parameters n bytes ≡ true
unfolding are_parameters
parameters_again n [] [] rest is fit h enough = absurd cc
parameters_again zero (b ∷ bytes) [] rest is fit h enough = absurd (omega (arith, enough))
parameters_again (suc n) (b ∷ bytes) [] rest is fit h enough =
    let first : b ≡ 41 = cc in
    let others : bytes ≡ rest = cc in
    ap (λ (c : Bool). cond c (is_result bytes) (behind_type (first_type (b ∷ bytes)) (are_parameters n))) (eq-eqb b 41 first)
    ∙ ap is_result others ∙ h
parameters_again n [] (t ∷ ts) rest is fit h enough =
    let found : first_type [] ≡ Some (t, closed ts rest) =
    ap first_type (is ∙ closed_more t ts rest) ∙ type_again t (closed ts rest) (first_fits t ts fit) in
    absurd cc
parameters_again zero (b ∷ bytes) (t ∷ ts) rest is fit h enough = absurd (omega (arith, enough))
parameters_again (suc n) (b ∷ bytes) (t ∷ ts) rest is fit h enough =
    let found : first_type (b ∷ bytes) ≡ Some (t, closed ts rest) =
    ap first_type (is ∙ closed_more t ts rest) ∙ type_again t (closed ts rest) (first_fits t ts fit) in
    let shorter = type_shorter (b ∷ bytes) (closed ts rest) t found in
    let later = parameters_again n (closed ts rest) ts rest refl (All-tail IsFieldType t ts fit) h (omega (arith, shorter, enough)) in
    by (b == 41) refl found later
  where
    by : (c : Bool) → (b == 41) ≡ c → first_type (b ∷ bytes) ≡ Some (t, closed ts rest)
        → are_parameters n (closed ts rest) ≡ true
        → cond c (is_result bytes) (behind_type (first_type (b ∷ bytes)) (are_parameters n)) ≡ true
    by true at found later =
        let none : first_type (b ∷ bytes) ≡ None = ap (λ (k : ℕ). first_type (k ∷ bytes)) (eqb-true b 41 at) in
        absurd (some_none (first_type (b ∷ bytes)) (t, closed ts rest) none found)
    by false at found later =
        ap (λ (o : Option (FieldType × List ℕ)). behind_type o (are_parameters n)) found ∙ later

-- ---- both kinds

method_found : (text : List ℕ) → opened text ≡ true → IsOfMethod text
method_found [] h = absurd (true≢false (sym h))
method_found (b ∷ rest) h =
    let q = and_parts (b == 40) (are_parameters (length rest) rest) h in
    let p = parameters_found (length rest) rest q.1 in
    let r = result_found p.rest p.result in (
      p.types,
      r.0,
      p.fit,
      r.1,
      ap (λ (n : ℕ). n ∷ rest) (eqb-true b 40 q.0) ∙ ap (λ (l : List ℕ). 40 ∷ l) (p.bytes_are ∙ ap (closed p.types) r.2),
    )

method_again : (text : List ℕ) → IsOfMethod text → opened text ≡ true
method_again [] m = absurd (no_text m.4)
  where
    no_text : [] ≡ 40 ∷ closed m.0 (spelled_result m.1) → ⊥
    no_text e = absurd cc
method_again (b ∷ rest) m =
    let whole : b ∷ rest ≡ 40 ∷ closed m.0 (spelled_result m.1) = m.4 in
    let first : b ≡ 40 = cc in
    let others : rest ≡ closed m.0 (spelled_result m.1) = cc in
    both (b == 40) (are_parameters (length rest) rest) (eq-eqb b 40 first)
    (parameters_again (length rest) rest m.0 (spelled_result m.1) others m.2
    (result_again (spelled_result m.1) m.1 m.3 refl) (omega arith))

pub descriptor_kinds : DescriptorKinds
descriptor_kinds text ascii = (
  (
    (λ h. last_found text (and_parts (is_ascii text) (is_last (first_type text)) h).1),
    (λ f. both (is_ascii text) (is_last (first_type text)) ascii (last_again text f.0 f.1 f.2)),
  ),
  (
    (λ h. method_found text (and_parts (is_ascii text) (opened text) h).1),
    (λ m. both (is_ascii text) (opened text) ascii (method_again text m)),
  ),
)
