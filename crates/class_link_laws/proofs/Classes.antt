-- Linked classes by their numbers.
use Rattle.std.proofs.Common.{◌≡◌, ℕ, zero, suc, ◌+◌, ◌<◌, ◌⊎◌, inl, inr, refl, sym, ap, subst, ◌∙◌, List, [], ◌∷◌, ◌++◌, map, take, length, length-append, Some, arith}
use Rattle.std.specs.Prelude.{slice_get}
use Rattle.std.proofs.lemmas.List.{length-map}
use Rattle.std.proofs.lemmas.Option.{slice_get_within}
use Rattle.jvm_class_types.specs.Seen.{class_seen, method_seen}
use Rattle.jvm_class_types.specs.declared.classes.ClassFile.{ClassFile}
use Rattle.jvm_runtime.specs.Classes.{runtime_classes}
use Rattle.class_headers.specs.declared.headers.Header.{Header}
use Rattle.class_headers.specs.Headers.{file_header, method_header, own_headers}
use Rattle.class_members.specs.declared.hierarchy.Hierarchy.{Hierarchy}
use Rattle.class_linked.specs.Numbers.{first_file_class}
use Rattle.class_linked.specs.declared.classes.LinkedClass.{LinkedClass}
use Rattle.class_link.specs.Classes.{file_class, file_classes, file_method, linked_of, own_class, own_classes, own_method}
use Rattle.class_tables.specs.Objects.{object_fields}
use Rattle.class_link_laws.specs.Closed.{fields_of, methods_of}
use Rattle.class_link_laws.proofs.Lists.{get_append, get_before, get_behind, map_get, some_at, some_is, take_front}

own_at : (h : Hierarchy) (c : ℕ) (os : List Header) (i : ℕ) (k : LinkedClass) → slice_get (own_classes h c os) i ≡ Some k → (o : Header) × (slice_get os i ≡ Some o) × (k ≡ own_class h (c + i) o)
own_at h c [] i k e = cc
own_at h c (o ∷ os) zero k e = (o, refl, sym (some_is e) ∙ ap (λ n. own_class h n o) (let q : c ≡ c + 0 = omega arith in q))
own_at h c (o ∷ os) (suc i) k e =
    let r = own_at h (c + 1) os i k e in
    (r.0, r.1, r.2 ∙ ap (λ n. own_class h n r.0) (let q : (c + 1) + i ≡ c + suc i = omega arith in q))

file_at : (h : Hierarchy) (c : ℕ) (fs : List ClassFile) (i : ℕ) (k : LinkedClass) → slice_get (file_classes h c fs) i ≡ Some k → (f : ClassFile) × (slice_get fs i ≡ Some f) × (k ≡ file_class h (c + i) f)
file_at h c [] i k e = cc
file_at h c (f ∷ fs) zero k e = (f, refl, sym (some_is e) ∙ ap (λ n. file_class h n f) (let q : c ≡ c + 0 = omega arith in q))
file_at h c (f ∷ fs) (suc i) k e =
    let r = file_at h (c + 1) fs i k e in
    (r.0, r.1, r.2 ∙ ap (λ n. file_class h n r.0) (let q : (c + 1) + i ≡ c + suc i = omega arith in q))

own_long : (h : Hierarchy) (c : ℕ) (os : List Header) → length (own_classes h c os) ≡ length os
own_long h c [] = refl
own_long h c (o ∷ os) = ap suc (own_long h (c + 1) os)

file_long : (h : Hierarchy) (c : ℕ) (fs : List ClassFile) → length (file_classes h c fs) ≡ length fs
file_long h c [] = refl
file_long h c (f ∷ fs) = ap suc (file_long h (c + 1) fs)

pub own_count : length own_headers ≡ first_file_class
unfolding own_headers runtime_classes
own_count = refl

module _ (h : Hierarchy) (files : List ClassFile) (shape : h.headers ≡ own_headers ++ map file_header (map class_seen files)) where
  abbrev own : List Header
  own = take first_file_class h.headers

  own_is : own ≡ own_headers
  own_is = ap (take first_file_class) shape ∙ take_front own_headers (map file_header (map class_seen files)) first_file_class own_count

  pub as_long : length (linked_of h files).classes ≡ length h.headers
  as_long =
      let one : length ((linked_of h files).classes) ≡ length (own_classes h 0 own) + length (file_classes h first_file_class files) = length-append (own_classes h 0 own) (file_classes h first_file_class files) in
      let two : length (own_classes h 0 own) ≡ first_file_class = own_long h 0 own ∙ ap length own_is ∙ own_count in
      let three : length (file_classes h first_file_class files) ≡ length files = file_long h first_file_class files in
      let four : length h.headers ≡ length own_headers + length (map file_header (map class_seen files)) = ap length shape ∙ length-append own_headers (map file_header (map class_seen files)) in
      let five : length (map file_header (map class_seen files)) ≡ length files = length-map (map class_seen files) file_header ∙ length-map files class_seen in
      let six : length own_headers ≡ first_file_class = own_count in
      omega arith

  -- a class with the members that its header has
  pub record IsAt (c : ℕ) (k : LinkedClass) : Type 0 where
    pub header : Header
    pub is : slice_get h.headers c ≡ Some header
    pub methods : length k.methods ≡ length header.methods
    pub fields : k.fields ≡ object_fields h c

  pub class_at : (c : ℕ) (k : LinkedClass) → slice_get (linked_of h files).classes c ≡ Some k → IsAt c k × (((o : Header) × (k ≡ own_class h c o)) ⊎ ((f : ClassFile) × (k ≡ file_class h c f)))
  class_at c k e = elim (get_append (own_classes h 0 own) (file_classes h first_file_class files) c k e) [
    | inl a ↦
        let r = own_at h 0 own c k a in
        let same : k ≡ own_class h c r.0 = r.2 ∙ ap (λ n. own_class h n r.0) (let q : 0 + c ≡ c = omega arith in q) in (
          record {
            header = r.0;
            is = ap (λ hs. slice_get hs c) shape ∙ get_before own_headers (map file_header (map class_seen files)) c r.0 (ap (λ hs. slice_get hs c) (sym own_is) ∙ r.1);
            methods = ap (λ x. length x.methods) same ∙ length-map r.0.methods (own_method h c);
            fields = ap (λ x. x.fields) same;
          },
          inl (r.0, same),
        )
    | inr b ↦
        let r = file_at h first_file_class files b.0 k b.1 in
        let at : c ≡ first_file_class + b.0 = b.2 ∙ ap (λ n. n + b.0) (own_long h 0 own ∙ ap length own_is ∙ own_count) in
        let same : k ≡ file_class h c r.0 = r.2 ∙ ap (λ n. file_class h n r.0) (sym at) in (
          record {
            header = file_header (class_seen r.0);
            is = ap (λ hs. slice_get hs c) shape
                ∙ get_behind own_headers (map file_header (map class_seen files)) c b.0 (at ∙ ap (λ n. n + b.0) (sym own_count))
                ∙ map_get file_header (map class_seen files) b.0 (class_seen r.0) (map_get class_seen files b.0 r.0 r.1);
            methods = ap (λ x. length x.methods) same ∙ length-map r.0.methods.items (file_method h c)
                ∙ sym (length-map (map method_seen r.0.methods.items) method_header ∙ length-map r.0.methods.items method_seen);
            fields = ap (λ x. x.fields) same;
          },
          inr (r.0, same),
        )
  ]

  found_at : (c : ℕ) → c < length h.headers → (k : LinkedClass) × (slice_get (linked_of h files).classes c ≡ Some k)
  found_at c lt = some_at (linked_of h files).classes c (rw as_long lt)

  pub has_methods : (c : ℕ) (x : Header) (place : ℕ) → slice_get h.headers c ≡ Some x → place < length x.methods → place < length (methods_of (slice_get (linked_of h files).classes c))
  has_methods c x place e lt =
      let k = found_at c (slice_get_within h.headers c x e) in
      let at = (class_at c k.0 k.1).0 in
      let same : at.header ≡ x = some_is (sym at.is ∙ e) in
      let long : length k.0.methods ≡ length x.methods = at.methods ∙ ap (λ y. length y.methods) same in
      subst (λ o. place < length (methods_of o)) (sym k.1) (rw long lt)

  pub has_fields : (c : ℕ) (x : Header) (slot : ℕ) → slice_get h.headers c ≡ Some x → slot < length (object_fields h c) → slot < length (fields_of (slice_get (linked_of h files).classes c))
  has_fields c x slot e lt =
      let k = found_at c (slice_get_within h.headers c x e) in
      let at = (class_at c k.0 k.1).0 in
      subst (λ o. slot < length (fields_of o)) (sym k.1) (rw at.fields lt)
