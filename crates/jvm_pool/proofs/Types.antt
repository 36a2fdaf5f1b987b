-- A type that is read is spelled so, and a type that is spelled is read.
use Rattle.std.proofs.Common.{◌≡◌, ℕ, ◌+◌, ◌<◌, Bool, true, false, not, cond, eqb, List, [], ◌∷◌, ◌++◌, length, length-append, get_or, take, drop, codes, Option, Some, None, refl, sym, ap, subst, ◌∙◌, append_assoc, ◌==◌, nat_lt, arith}
use Rattle.std.specs.List.{list_all, position, position_or_len}
use Rattle.std.proofs.lemmas.Bool.{eqb-true, eq-eqb, lt-ltb, and_parts}
use Rattle.std.proofs.lemmas.Bool.Decides.{nat_tests}
use Rattle.std.proofs.lemmas.List.{take_at, drop_at, drop_more, take-append-drop}
use Rattle.std.proofs.lemmas.List.Quantifiers.{position-Some}
use Rattle.std.proofs.lemmas.List.Sums.{AllPass-from_list_all, position_or_len_is}
use Rattle.std.proofs.Math.Seq.{get_or-append_seam}
use Rattle.std.proofs.Math.ListN.{get_or-append}
use Rattle.jvm_pool.specs.declared.descriptors.FieldType.{FieldType}
use Rattle.jvm_pool.specs.declared.descriptors.FieldType.TheVariants as type
use Rattle.jvm_pool.specs.Descriptors.{is_class_name, is_name_byte, spelled_type, IsFieldType}
use Rattle.jvm_pool.specs.DescriptorReading.{behind_prefix, class_before, first_class, array_of, first_array, base_type, class_type, with_rest, first_type}
use Rattle.jvm_pool.proofs.Prefixes.{behind_takes}
use Rattle.jvm_pool.proofs.Fronts.{pair_is}

-- ---- a class name

chosen : (b : Bool) (name rest front behind : List ℕ) → cond {A = Option (List ℕ × List ℕ)} b (Some (front, behind)) None ≡ Some (name, rest) → (b ≡ true) × (front ≡ name) × (behind ≡ rest)
chosen true name rest front behind h = let same = pair_is {A = List ℕ} (Some (front, behind)) front name behind rest refl h in (refl, same.0, same.1)
chosen false name rest front behind h = absurd cc

class_found : (bytes name rest : List ℕ) (end : ℕ) → position (λ b. b == 59) bytes ≡ Some end → class_before bytes (Some end) ≡ Some (name, rest) → (bytes ≡ name ++ 59 ∷ rest) × (is_class_name name ≡ true)
class_found bytes name rest end at h =
    let p = position-Some (λ b. b == 59) bytes end 0 at in
    let c = chosen (is_class_name (take end bytes)) name rest (take end bytes) (drop (end + 1) bytes) h in
    let last : drop end bytes ≡ 59 ∷ drop (end + 1) bytes = drop_more bytes end 0 p.0 ∙ ap (λ x. x ∷ drop (end + 1) bytes) (eqb-true (get_or bytes end 0) 59 p.1) in
    let whole : bytes ≡ take end bytes ++ 59 ∷ drop (end + 1) bytes = sym (take-append-drop end bytes) ∙ ap (λ l. take end bytes ++ l) last in
    (whole ∙ ap (λ l. l ++ 59 ∷ drop (end + 1) bytes) c.1 ∙ ap (λ l. name ++ 59 ∷ l) c.2, ap is_class_name (sym c.1) ∙ c.0)

class_takes : (bytes name rest : List ℕ) → first_class bytes ≡ Some (name, rest) → (bytes ≡ name ++ 59 ∷ rest) × (is_class_name name ≡ true)
class_takes bytes name rest h = by (position (λ b. b == 59) bytes) refl h
  where
    by : (o : Option ℕ) → position (λ b. b == 59) bytes ≡ o → class_before bytes o ≡ Some (name, rest) → (bytes ≡ name ++ 59 ∷ rest) × (is_class_name name ≡ true)
    by None at found = absurd cc
    by (Some end) at found = class_found bytes name rest end at found

not_semicolon : (b : ℕ) → is_name_byte b ≡ true → eqb b 59 ≡ false
not_semicolon b h = grind (arith, nat_tests)

first_semicolon : (name rest : List ℕ) → is_class_name name ≡ true → position (λ b. b == 59) (name ++ 59 ∷ rest) ≡ Some (length name)
first_semicolon name rest is =
    let l = name ++ 59 ∷ rest in
    let names = AllPass-from_list_all is_name_byte name (and_parts (list_all is_name_byte name) _ is).0 in
    let before = λ (k : ℕ) (lt : k < length name). not_semicolon (get_or l k 0) (ap is_name_byte (get_or-append name (59 ∷ rest) 0 k lt) ∙ names k 0 lt) in
    let here = λ (lt : length name < length l). eq-eqb (get_or l (length name) 0) 59 (get_or-append_seam name 59 rest 0) in
    let found : position_or_len (λ b. b == 59) l ≡ length name = position_or_len_is (λ b. b == 59) l (length name) 0 (omega (arith, length-append name (59 ∷ rest))) before here in
    let within : nat_lt (length name) (length l) ≡ true = lt-ltb (length name) (length l) (omega (arith, length-append name (59 ∷ rest))) in
    ap (λ n. cond (nat_lt n (length l)) (Some n) None) found ∙ ap (λ b. cond b (Some (length name)) None) within

class_again : (name rest : List ℕ) → is_class_name name ≡ true → first_class (name ++ 59 ∷ rest) ≡ Some (name, rest)
class_again name rest is =
    let l = name ++ 59 ∷ rest in
    let at : position (λ b. b == 59) l ≡ Some (length name) = first_semicolon name rest is in
    let front : take (length name) l ≡ name = take_at name (59 ∷ rest) (length name) refl in
    let behind : drop (length name + 1) l ≡ rest =
    ap (drop (length name + 1)) (sym (append_assoc name (59 ∷ []) rest)) ∙ drop_at (name ++ 59 ∷ []) rest (length name + 1) (length-append name (59 ∷ [])) in
    let test : is_class_name (take (length name) l) ≡ true = ap is_class_name front ∙ is in
    ap (class_before l) at ∙ ap (λ (b : Bool). cond {A = Option (List ℕ × List ℕ)} b (Some (take (length name) l, drop (length name + 1) l)) None) test ∙ ap (λ (f : List ℕ). let o : Option (List ℕ × List ℕ) = Some (f, drop (length name + 1) l) in o) front ∙ ap (λ (b : List ℕ). let o : Option (List ℕ × List ℕ) = Some (name, b) in o) behind

-- ---- a type

class_type_takes : (bytes : List ℕ) (t : FieldType) (rest : List ℕ) → class_type (first_class bytes) ≡ Some (t, rest) → (76 ∷ bytes ≡ spelled_type t ++ rest) × IsFieldType t
class_type_takes bytes t rest h = by (first_class bytes) refl h
  where
    by : (o : Option (List ℕ × List ℕ)) → first_class bytes ≡ o → class_type o ≡ Some (t, rest) → (76 ∷ bytes ≡ spelled_type t ++ rest) × IsFieldType t
    by None at found = absurd cc
    by (Some (name, behind)) at found =
        let same = pair_is (Some (type.Class name, behind)) (type.Class name) t behind rest refl found in
        let c = class_takes bytes name behind at in
        let spelled : 76 ∷ bytes ≡ spelled_type (type.Class name) ++ behind = ap (λ l. 76 ∷ l) (c.0 ∙ sym (append_assoc name (59 ∷ []) behind)) in
        (spelled ∙ ap (λ u. spelled_type u ++ behind) same.0 ∙ ap (λ l. spelled_type t ++ l) same.1, subst IsFieldType same.0 c.1)

array_takes : (bytes : List ℕ) (t : FieldType) (rest : List ℕ) → first_array bytes ≡ Some (t, rest) → (91 ∷ bytes ≡ spelled_type t ++ rest) × IsFieldType t
array_takes bytes t rest h = by (behind_prefix (codes "I") bytes) (behind_prefix (codes "Ljava/lang/Object;") bytes) refl refl h
  where
    by : (o p : Option (List ℕ)) → behind_prefix (codes "I") bytes ≡ o → behind_prefix (codes "Ljava/lang/Object;") bytes ≡ p → array_of o p ≡ Some (t, rest) → (91 ∷ bytes ≡ spelled_type t ++ rest) × IsFieldType t
    by (Some behind) p one two found =
        let same = pair_is (Some (type.IntArray, behind)) type.IntArray t behind rest refl found in
        let spelled : 91 ∷ bytes ≡ spelled_type type.IntArray ++ behind = ap (λ l. 91 ∷ l) (behind_takes (codes "I") bytes behind one) in
        (spelled ∙ ap (λ u. spelled_type u ++ behind) same.0 ∙ ap (λ l. spelled_type t ++ l) same.1, subst IsFieldType same.0 tt)
    by None (Some behind) one two found =
        let same = pair_is (Some (type.ObjectArray, behind)) type.ObjectArray t behind rest refl found in
        let spelled : 91 ∷ bytes ≡ spelled_type type.ObjectArray ++ behind = ap (λ l. 91 ∷ l) (behind_takes (codes "Ljava/lang/Object;") bytes behind two) in
        (spelled ∙ ap (λ u. spelled_type u ++ behind) same.0 ∙ ap (λ l. spelled_type t ++ l) same.1, subst IsFieldType same.0 tt)
    by None None one two found = absurd cc

base_takes : (b : ℕ) (bytes : List ℕ) (t : FieldType) (rest : List ℕ) → with_rest bytes (base_type b) ≡ Some (t, rest) → (b ∷ bytes ≡ spelled_type t ++ rest) × IsFieldType t
base_takes b bytes t rest h = grind (arith, nat_tests)

pub type_takes : (bytes : List ℕ) (t : FieldType) (rest : List ℕ) → first_type bytes ≡ Some (t, rest) → (bytes ≡ spelled_type t ++ rest) × IsFieldType t
type_takes [] t rest h = absurd cc
type_takes (b ∷ bytes) t rest h = by (eqb b 76) (eqb b 91) refl refl h
  where
    by : (class array : Bool) → eqb b 76 ≡ class → eqb b 91 ≡ array → cond class (class_type (first_class bytes)) (cond array (first_array bytes) (with_rest bytes (base_type b))) ≡ Some (t, rest) → (b ∷ bytes ≡ spelled_type t ++ rest) × IsFieldType t
    by true array is other found = let r = class_type_takes bytes t rest found in (ap (λ x. x ∷ bytes) (eqb-true b 76 is) ∙ r.0, r.1)
    by false true not is found = let r = array_takes bytes t rest found in (ap (λ x. x ∷ bytes) (eqb-true b 91 is) ∙ r.0, r.1)
    by false false not other found = base_takes b bytes t rest found

pub type_again : (t : FieldType) (rest : List ℕ) → IsFieldType t → first_type (spelled_type t ++ rest) ≡ Some (t, rest)
type_again type.Int rest is = refl
type_again type.Long rest is = refl
type_again type.Bool rest is = refl
type_again type.Char rest is = refl
type_again type.IntArray rest is = refl
type_again type.ObjectArray rest is = refl
type_again (type.Class name) rest is = ap (λ l. class_type (first_class l)) (append_assoc name (59 ∷ []) rest) ∙ ap class_type (class_again name rest is)
