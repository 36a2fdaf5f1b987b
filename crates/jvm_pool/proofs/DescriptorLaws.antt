-- Descriptors: each has one spelling, and each spelling is of one descriptor.
use Rattle.std.proofs.Common.{◌≡◌, Bor, ℕ, ◌<◌, false, List, [], ◌∷◌, ◌++◌, length, length-append, drop, codes, Option, Some, None, Result, Err, All, refl, sym, ap, subst, ◌∙◌, append_assoc, arith, true≢false}
use Rattle.std.specs.List.{flat_map}
use Rattle.std.specs.Str.{IsAscii}
use Rattle.std.proofs.lemmas.List.{append-nil, drop_at, nil_from_length}
use Rattle.std.proofs.lemmas.List.Elements.{All-tail}
use Rattle.std.proofs.lemmas.Grind.{flat_map-append}
use Rattle.std.proofs.lemmas.Str.{IsAscii-drop}
use Rattle.jvm_pool.specs.declared.descriptors.FieldType.{FieldType}
use Rattle.jvm_pool.specs.declared.descriptors.FieldType.TheVariants as type
use Rattle.jvm_pool.specs.declared.descriptors.Descriptor.{Descriptor}
use Rattle.jvm_pool.specs.declared.descriptors.Descriptor.TheVariants as descriptor
use Rattle.jvm_pool.specs.declared.errors.DescriptorErr.{DescriptorErr}
use Rattle.jvm_pool.specs.declared.errors.DescriptorErr.TheVariants as error
use Rattle.jvm_pool.specs.Descriptors.{spelled, spelled_type, spelled_result, IsFieldType, IsResult, IsDescriptor, IsSameDescriptor}
use Rattle.jvm_pool.specs.DescriptorReading.{first_type, begins_with, Answers, SpellsNone}
use Rattle.jvm_pool.proofs.Fronts.{pair_is}
use Rattle.jvm_pool.proofs.Types.{type_takes, type_again}

-- ---- errors

pub answers_bad : (e : DescriptorErr) (found : Option (FieldType × List ℕ)) → Answers {A = FieldType × Bor (List ℕ)} (λ x. (x.0, x.1.now)) (Err e) found → e ≡ error.Bad → found ≡ None
answers_bad error.Bad found h is = h
answers_bad error.NoMemory found h is = absurd cc

pub err_is : {T : Type 0} (r : Result T DescriptorErr) (y e : DescriptorErr) → r ≡ Err y → y ≡ e → r ≡ Err error.Bad → e ≡ error.Bad
err_is {T} r y e first same bad =
    let both : ◌≡◌ {A = Result T DescriptorErr} (Err y) (Err error.Bad) = sym first ∙ bad in
    let b : y ≡ error.Bad = cc in
    sym same ∙ b

-- ---- one type

whole_type : (t : FieldType) (bytes : List ℕ) → IsFieldType t → bytes ≡ spelled_type t → first_type bytes ≡ Some (t, [])
whole_type t bytes is e = ap first_type (e ∙ sym (append-nil (spelled_type t))) ∙ type_again t [] is

no_some : {A : Type 0} (o : Option A) (x : A) → o ≡ None → o ≡ Some x → ⊥
no_some {A} o x p q = let e : ◌≡◌ {A = Option A} None (Some x) = sym p ∙ q in cc

pub no_type : (bytes : List ℕ) → first_type bytes ≡ None → (t : FieldType) → IsFieldType t → bytes ≡ spelled_type t → ⊥
no_type bytes none t is e = no_some (first_type bytes) (t, []) none (whole_type t bytes is e)

pub not_only : (bytes rest : List ℕ) (t : FieldType) → first_type bytes ≡ Some (t, rest) → 0 < length rest → (u : FieldType) → IsFieldType u → bytes ≡ spelled_type u → ⊥
not_only bytes rest t found some u is e =
    let same = pair_is (first_type bytes) t u rest [] found (whole_type u bytes is e) in
    omega (arith, ap length same.1)

pub only : (bytes rest : List ℕ) (t : FieldType) → first_type bytes ≡ Some (t, rest) → length rest ≡ 0 → IsFieldType t × (bytes ≡ spelled_type t)
only bytes rest t found none =
    let r = type_takes bytes t rest found in
    (r.1, r.0 ∙ ap (λ l. spelled_type t ++ l) (nil_from_length rest none) ∙ append-nil (spelled_type t))

pub type_some : (t : FieldType) → 0 < length (spelled_type t)
type_some type.Int = omega arith
type_some type.Long = omega arith
type_some type.Bool = omega arith
type_some type.Char = omega arith
type_some (type.Class name) = omega arith
type_some type.IntArray = omega arith
type_some type.ObjectArray = omega arith

pub not_open : (t : FieldType) (bytes : List ℕ) → IsFieldType t → 40 ∷ bytes ≡ spelled_type t → ⊥
not_open t bytes is e = no_some (first_type (40 ∷ bytes)) (t, []) refl (whole_type t (40 ∷ bytes) is e)

one_type : (t u : FieldType) → IsFieldType t → IsFieldType u → spelled_type t ≡ spelled_type u → t ≡ u
one_type t u p q e = (pair_is (first_type (spelled_type t)) t u [] [] (whole_type t (spelled_type t) p refl) (whole_type u (spelled_type t) q e)).0

-- ---- types that a `)` ends

abbrev pub closed : List FieldType → List ℕ → List ℕ
closed types rest = flat_map spelled_type types ++ codes ")" ++ rest

types-head : (t : FieldType) (ts : List FieldType) → All IsFieldType (t ∷ ts) → IsFieldType t
types-head t ts h = h 0 t (omega arith)

first_of_closed : (t : FieldType) (ts : List FieldType) (rest : List ℕ) → All IsFieldType (t ∷ ts) → first_type (closed (t ∷ ts) rest) ≡ Some (t, closed ts rest)
first_of_closed t ts rest h =
    ap first_type (ap (λ l. l ++ rest) (append_assoc (spelled_type t) (flat_map spelled_type ts) (codes ")")) ∙ append_assoc (spelled_type t) (flat_map spelled_type ts ++ codes ")") rest)
    ∙ type_again t (closed ts rest) (types-head t ts h)

first_of_types : (t : FieldType) (ts : List FieldType) (rest : List ℕ) → All IsFieldType (t ∷ ts) → first_type (flat_map spelled_type (t ∷ ts) ++ rest) ≡ Some (t, flat_map spelled_type ts ++ rest)
first_of_types t ts rest h =
    ap first_type (append_assoc (spelled_type t) (flat_map spelled_type ts) rest) ∙ type_again t (flat_map spelled_type ts ++ rest) (types-head t ts h)

none_at_close : (rest : List ℕ) → first_type (41 ∷ rest) ≡ None
none_at_close rest = refl

-- what stands behind types that others begin with
pub types_behind : (ps qs : List FieldType) (rest more : List ℕ) → All IsFieldType ps → All IsFieldType qs → flat_map spelled_type ps ++ rest ≡ closed qs more
    → (us : List FieldType) × All IsFieldType us × (rest ≡ closed us more) × (qs ≡ ps ++ us)
types_behind [] qs rest more p q e = (qs, q, e, refl)
types_behind (t ∷ ps) [] rest more p q e =
    absurd (no_some (first_type (flat_map spelled_type (t ∷ ps) ++ rest)) (t, flat_map spelled_type ps ++ rest) (ap first_type e ∙ none_at_close more) (first_of_types t ps rest p))
types_behind (t ∷ ps) (u ∷ qs) rest more p q e =
    let same = pair_is (first_type (flat_map spelled_type (t ∷ ps) ++ rest)) t u (flat_map spelled_type ps ++ rest) (closed qs more) (first_of_types t ps rest p) (ap first_type e ∙ first_of_closed u qs more q) in
    let r = types_behind ps qs rest more (All-tail IsFieldType t ps p) (All-tail IsFieldType u qs q) same.1 in
    (r.0, r.1, r.2, ap (λ v. v ∷ qs) (sym same.0) ∙ ap (λ l. t ∷ l) r.3)

pub types_same : (ps qs : List FieldType) (a b : List ℕ) → All IsFieldType ps → All IsFieldType qs → closed ps a ≡ closed qs b → (ps ≡ qs) × (a ≡ b)
types_same ps qs a b p q e =
    let r = types_behind ps qs (41 ∷ a) b p q (sym (append_assoc (flat_map spelled_type ps) (codes ")") a) ∙ e) in
    by r.0 r.1 r.2 r.3
  where
    by : (us : List FieldType) → All IsFieldType us → 41 ∷ a ≡ closed us b → qs ≡ ps ++ us → (ps ≡ qs) × (a ≡ b)
    by [] fits rest all = let tails : a ≡ b = cc in (sym (append-nil ps) ∙ sym all, tails)
    by (u ∷ us) fits rest all = absurd (no_some (first_type (41 ∷ a)) (u, closed us b) (none_at_close a) (ap first_type rest ∙ first_of_closed u us b fits))

-- where neither a type nor a `)` is at the front of what is left, no types that a `)` ends are spelled
pub not_closed : (ps : List FieldType) (rest bytes : List ℕ) → All IsFieldType ps → flat_map spelled_type ps ++ rest ≡ bytes → first_type rest ≡ None → begins_with 41 rest ≡ false
    → (types : List FieldType) (more : List ℕ) → All IsFieldType types → bytes ≡ closed types more → ⊥
not_closed ps rest bytes p read none apart types more q e =
    let r = types_behind ps types rest more p q (read ∙ e) in
    by r.0 r.1 r.2
  where
    by : (us : List FieldType) → All IsFieldType us → rest ≡ closed us more → ⊥
    by [] fits is = true≢false (sym (ap (begins_with 41) is) ∙ apart)
    by (u ∷ us) fits is = no_some (first_type rest) (u, closed us more) none (ap first_type is ∙ first_of_closed u us more fits)

-- one type further
pub types_further : (ps : List FieldType) (rest bytes behind : List ℕ) (t : FieldType) → flat_map spelled_type ps ++ rest ≡ bytes → first_type rest ≡ Some (t, behind)
    → flat_map spelled_type (ps ++ t ∷ []) ++ behind ≡ bytes
types_further ps rest bytes behind t read found =
    let r = type_takes rest t behind found in
    let one : flat_map spelled_type (ps ++ t ∷ []) ≡ flat_map spelled_type ps ++ spelled_type t =
    flat_map-append spelled_type ps (t ∷ []) ∙ ap (λ l. flat_map spelled_type ps ++ l) (append-nil (spelled_type t)) in
    ap (λ l. l ++ behind) one ∙ append_assoc (flat_map spelled_type ps) (spelled_type t) behind ∙ ap (λ l. flat_map spelled_type ps ++ l) (sym r.0) ∙ read

pub type_shorter : (rest behind : List ℕ) (t : FieldType) → first_type rest ≡ Some (t, behind) → length behind < length rest
type_shorter rest behind t found =
    let r = type_takes rest t behind found in
    omega (arith, ap length r.0, length-append (spelled_type t) behind, type_some t)

pub type_ascii : (rest behind : List ℕ) (t : FieldType) → first_type rest ≡ Some (t, behind) → IsAscii rest → IsAscii behind
type_ascii rest behind t found ascii =
    let r = type_takes rest t behind found in
    let is : drop (length (spelled_type t)) rest ≡ behind = ap (drop (length (spelled_type t))) r.0 ∙ drop_at (spelled_type t) behind (length (spelled_type t)) refl in
    subst IsAscii is (IsAscii-drop rest (length (spelled_type t)) ascii)

-- ---- a method

pub not_method : (bytes : List ℕ) (ps : List FieldType) (rest : List ℕ) → All IsFieldType ps → bytes ≡ closed ps rest
    → ((r : Option FieldType) → IsResult r → rest ≡ spelled_result r → ⊥) → SpellsNone (40 ∷ bytes)
not_method bytes ps rest p is none (descriptor.Field t) fits e = not_open t bytes fits e
not_method bytes ps rest p is none (descriptor.Method qs r) fits e =
    let inner : bytes ≡ closed qs.items (spelled_result r) = ap (drop 1) e in
    none r fits.1 (types_same ps qs.items rest (spelled_result r) p fits.0 (sym is ∙ inner)).1

one_result : (r s : Option FieldType) → IsResult r → IsResult s → spelled_result r ≡ spelled_result s → r ≡ s
one_result None None p q e = refl
one_result None (Some t) p q e = absurd (no_some (first_type (86 ∷ [])) (t, []) refl (whole_type t (86 ∷ []) q e))
one_result (Some t) None p q e = absurd (no_some (first_type (86 ∷ [])) (t, []) refl (whole_type t (86 ∷ []) p (sym e)))
one_result (Some t) (Some u) p q e = ap (λ v. Some v) (one_type t u p q e)

pub one_descriptor : (d e : Descriptor) → IsDescriptor d → IsDescriptor e → spelled d ≡ spelled e → IsSameDescriptor d e
one_descriptor (descriptor.Field t) (descriptor.Field u) p q h = one_type t u p q h
one_descriptor (descriptor.Field t) (descriptor.Method us s) p q h = not_open t (closed us.items (spelled_result s)) p (sym h)
one_descriptor (descriptor.Method ts r) (descriptor.Field u) p q h = not_open u (closed ts.items (spelled_result r)) q h
one_descriptor (descriptor.Method ts r) (descriptor.Method us s) p q h =
    let same = types_same ts.items us.items (spelled_result r) (spelled_result s) p.0 q.0 (ap (drop 1) h) in
    (same.0, one_result r s p.1 q.1 same.1)
