-- What each linked class names is there.
use Rattle.std.proofs.Common.{◌≡◌, ℕ, zero, suc, ◌+◌, ◌<◌, inl, inr, refl, sym, ap, subst, ◌∙◌, Bool, true, false, List, [], ◌∷◌, ◌++◌, map, length, length-append, Option, Some, None, arith}
use Rattle.std.specs.Prelude.{slice_get, flat_map, ◌==◌, ◌||◌}
use Rattle.std.specs.List.{list_any}
use Rattle.std.proofs.lemmas.List.{length-map}
use Rattle.std.proofs.lemmas.Option.{slice_get_within}
use Rattle.jvm_class_types.specs.Seen.{class_seen}
use Rattle.jvm_class_types.specs.declared.classes.ClassFile.{ClassFile}
use Rattle.jvm_pool.specs.declared.entries.Entry.{Entry}
use Rattle.jvm_pool.specs.declared.entries.Entry.TheVariants as entry
use Rattle.class_headers.specs.declared.headers.Header.{Header}
use Rattle.class_headers.specs.Headers.{file_header, own_headers}
use Rattle.class_headers.specs.Places.{number_of}
use Rattle.class_supers.specs.Graph.{Has}
use Rattle.class_members.specs.declared.hierarchy.Hierarchy.{Hierarchy}
use Rattle.class_members.specs.declared.members.MemberKind.TheVariants as kind
use Rattle.class_members.specs.Above.{AreChains, IsHierarchy, join, links_of, list_of, number_in, parent_of, then_number}
use Rattle.class_members.specs.Members.{row_or_none, supers_at}
use Rattle.class_missing.specs.Mentions.{field_named, interface_method_named, method_named}
use Rattle.class_linked.specs.declared.constants.Constant.{Constant}
use Rattle.class_linked.specs.declared.constants.Constant.TheVariants as constant
use Rattle.class_constants.specs.Constants.{at_indices, constant_of, constants, field_constant, interface_method_constant, method_constant}
use Rattle.class_constants.specs.Fields.{fields_above, fields_at}
use Rattle.class_constants.specs.Fields.{fields_of as fields_in}
use Rattle.class_constants.specs.Kinds.{class_of}
use Rattle.class_link.specs.Classes.{file_class, linked_of, own_class}
use Rattle.class_link_laws.specs.Closed.{AreClosed, IsThere, LinkedAreClosed, NamesWhatIsThere, methods_of}
use Rattle.class_link_laws.proofs.Lists.{flat_each, get_map, some_is}
use Rattle.class_link_laws.proofs.Bounds.{Declares, class_within, field_declares, field_place, interface_method_declares, method_declares, method_place, number_within}
use Rattle.class_link_laws.proofs.Chains.{slot_within}
use Rattle.class_link_laws.proofs.Classes.{as_long, class_at, has_fields, has_methods, own_count}

-- ---- an element of a list is in it

number_same : (x d : ℕ) → x ≡ d → (x == d) ≡ true
number_same x d h = grind (arith, h)

left_true : (b c : Bool) → b ≡ true → (b || c) ≡ true
left_true true c h = refl
left_true false c h = cc

right_true : (b c : Bool) → c ≡ true → (b || c) ≡ true
right_true true c h = refl
right_true false c h = h

has_at : (xs : List ℕ) (i d : ℕ) → slice_get xs i ≡ Some d → Has xs d
has_at [] i d h = cc
has_at (x ∷ xs) zero d h = left_true (x == d) (list_any (λ y. y == d) xs) (number_same x d (some_is h))
has_at (x ∷ xs) (suc i) d h = right_true (x == d) (list_any (λ y. y == d) xs) (has_at xs i d h)

module _ (h : Hierarchy) (files : List ClassFile) (are : IsHierarchy h.headers h) (shape : h.headers ≡ own_headers ++ map file_header (map class_seen files)) (filled : 0 < length h.headers) where
  in_linked : (c : ℕ) → c < length h.headers → c < length (linked_of h files).classes
  in_linked c lt = rw (as_long h files shape) lt

  numbered : (name : List ℕ) (c : ℕ) → number_of h.headers name ≡ Some c → c < length (linked_of h files).classes
  numbered name c e = in_linked c (number_within h.headers name c e)

  -- ---- what stands above

  above_there : (c a : ℕ) → join (slice_get h.parents c) ≡ Some a → a < length (linked_of h files).classes
  above_there c a e = by (slice_get h.parents c) refl e
    where
      of_header : (o : Option (List ℕ)) → then_number h.headers o ≡ Some a → a < length (linked_of h files).classes
      of_header None q = cc
      of_header (Some name) q = numbered name a q

      by : (o : Option (Option ℕ)) → slice_get h.parents c ≡ o → join o ≡ Some a → a < length (linked_of h files).classes
      by None p q = cc
      by (Some found) p q =
          let r = get_map (parent_of h.headers) h.headers c found (ap (λ xs. slice_get xs c) (sym are.parents) ∙ p) in
          of_header r.0.above (sym r.2 ∙ q)

  supers_there : (c i a : ℕ) → slice_get (supers_at h c) i ≡ Some a → a < length (linked_of h files).classes
  supers_there c i a e = by (slice_get h.supers c) refl e
    where
      by : (o : Option (List ℕ)) → slice_get h.supers c ≡ o → slice_get (row_or_none o) i ≡ Some a → a < length (linked_of h files).classes
      by None p q = cc
      by (Some row) p q =
          let lt = ((are.supers.each c row p).each a (has_at row i a q)).1 in
          let long : length (map (links_of h.headers) h.headers) ≡ length h.headers = length-map h.headers (links_of h.headers) in
          in_linked a (rw (← long) lt)

  interfaces_there : (names : List (List ℕ)) (i a : ℕ) → slice_get (flat_map (number_in h.headers) names) i ≡ Some a → a < length (linked_of h files).classes
  interfaces_there names i a e = flat_each (λ x. x < length (linked_of h files).classes) (number_in h.headers) each names i a e
    where
      each : (name : List ℕ) (j b : ℕ) → slice_get (number_in h.headers name) j ≡ Some b → b < length (linked_of h files).classes
      each name j b q = by (number_of h.headers name) refl j q
        where
          by : (o : Option ℕ) → number_of h.headers name ≡ o → (j : ℕ) → slice_get (list_of o) j ≡ Some b → b < length (linked_of h files).classes
          by None p j r = cc
          by (Some n) p zero r = numbered name b (p ∙ r)
          by (Some n) p (suc j) r = cc

  -- ---- constants

  named : (name : List ℕ) → class_of h.headers name < length (linked_of h files).classes
  named name = in_linked (class_of h.headers name) (class_within h.headers filled name)

  field_there : (class n d : List ℕ) (o : Option (ℕ × ℕ)) → field_named h class n d ≡ o → IsThere (linked_of h files) (field_constant h class d o)
  field_there class n d None e = tt
  field_there class n d (Some found) e =
      let r = field_declares h n d class found e in
      let lt = slice_get_within h.headers found.0 r.0 r.1 in
      let long : length h.parents ≡ length h.headers = ap length are.parents ∙ length-map h.headers (parent_of h.headers) in
      let place : found.1 < length (fields_at h.headers found.0) = subst (λ x. found.1 < length (fields_in x)) (sym r.1) (field_place n d r.0 found.1 r.2) in (
        named class,
        in_linked found.0 lt,
        has_fields h files shape found.0 r.0 (fields_above h found.0 + found.1) r.1
            (slot_within h (subst (λ ps. AreChains ps h.chains) (sym are.parents) are.chains) found.0 found.1 (rw long lt) place),
      )

  method_there : (class n d : List ℕ) (found : ℕ × ℕ) → Declares h.headers kind.Method n d found → found.1 < length (methods_of (slice_get (linked_of h files).classes found.0))
  method_there class n d found r = has_methods h files shape found.0 r.0 found.1 r.1 (method_place n d r.0 found.1 r.2)

  class_method_there : (class n d : List ℕ) (o : Option (ℕ × ℕ)) → method_named h class n d ≡ o → IsThere (linked_of h files) (method_constant h class o)
  class_method_there class n d None e = tt
  class_method_there class n d (Some found) e =
      let r = method_declares h n d class found e in
      (named class, in_linked found.0 (slice_get_within h.headers found.0 r.0 r.1), method_there class n d found r)

  interface_method_there : (class n d : List ℕ) (o : Option (ℕ × ℕ)) → interface_method_named h class n d ≡ o → IsThere (linked_of h files) (interface_method_constant h class o)
  interface_method_there class n d None e = tt
  interface_method_there class n d (Some found) e =
      let r = interface_method_declares h n d class found e in
      (named class, in_linked found.0 (slice_get_within h.headers found.0 r.0 r.1), method_there class n d found r)

  entry_there : (e : Entry) → IsThere (linked_of h files) (constant_of h e)
  entry_there (entry.Utf8 text) = tt
  entry_there (entry.Int n) = tt
  entry_there (entry.Long n) = tt
  entry_there (entry.Class name) = named name
  entry_there (entry.Text text) = tt
  entry_there (entry.Field class n d) = field_there class n d (field_named h class n d) refl
  entry_there (entry.Method class n d) = class_method_there class n d (method_named h class n d) refl
  entry_there (entry.InterfaceMethod class n d) = interface_method_there class n d (interface_method_named h class n d) refl
  entry_there (entry.NameAndType n d) = tt

  only_one : (x y : Constant) (i : ℕ) → slice_get (x ∷ []) i ≡ Some y → IsThere (linked_of h files) x → IsThere (linked_of h files) y
  only_one x y zero e p = subst (IsThere (linked_of h files)) (some_is e) p
  only_one x y (suc i) e p = cc

  at_index : (x : Constant) → IsThere (linked_of h files) x → (i : ℕ) (y : Constant) → slice_get (at_indices x) i ≡ Some y → IsThere (linked_of h files) y
  at_index (constant.Long n) p zero y e = subst (IsThere (linked_of h files)) (some_is e) p
  at_index (constant.Long n) p (suc i) y e = only_one constant.Nothing y i e tt
  at_index constant.Nothing p i y e = only_one constant.Nothing y i e p
  at_index (constant.Int n) p i y e = only_one (constant.Int n) y i e p
  at_index (constant.Text t) p i y e = only_one (constant.Text t) y i e p
  at_index (constant.Class c) p i y e = only_one (constant.Class c) y i e p
  at_index (constant.Field m) p i y e = only_one (constant.Field m) y i e p
  at_index (constant.Method m) p i y e = only_one (constant.Method m) y i e p
  at_index (constant.InterfaceMethod m) p i y e = only_one (constant.InterfaceMethod m) y i e p

  constants_there : (es : List Entry) (i : ℕ) (x : Constant) → slice_get (constants h es) i ≡ Some x → IsThere (linked_of h files) x
  constants_there es zero x e = subst (IsThere (linked_of h files)) (some_is e) tt
  constants_there es (suc i) x e =
      flat_each (IsThere (linked_of h files)) (λ y. at_indices (constant_of h y)) (λ y. at_index (constant_of h y) (entry_there y)) es i x e

  -- ---- classes

  own_names : (c : ℕ) (o : Header) → NamesWhatIsThere (linked_of h files) (own_class h c o)
  own_names c o = record {
    above = above_there c;
    interfaces = λ i a e. cc;
    supers = supers_there c;
    constants = λ i x e. cc;
  }

  file_names : (c : ℕ) (f : ClassFile) → NamesWhatIsThere (linked_of h files) (file_class h c f)
  file_names c f = record {
    above = above_there c;
    interfaces = interfaces_there f.interfaces.items;
    supers = supers_there c;
    constants = constants_there f.pool;
  }

  pub all_closed : AreClosed (linked_of h files)
  all_closed c k e = elim ((class_at h files shape c k e).1) [
    | inl o ↦ subst (NamesWhatIsThere (linked_of h files)) (sym o.1) (own_names c o.0)
    | inr f ↦ subst (NamesWhatIsThere (linked_of h files)) (sym f.1) (file_names c f.0)
  ]

not_empty : (hs rest : List Header) → hs ≡ own_headers ++ rest → 0 < length hs
not_empty hs rest e =
    let long : length hs ≡ length own_headers + length rest = ap length e ∙ length-append own_headers rest in
    let own : length own_headers ≡ 36 = own_count in
    omega arith

pub linked_closed : LinkedAreClosed
linked_closed classes linked (h, is, closed, same) =
    let shape : h.headers ≡ own_headers ++ map file_header (map class_seen classes) = is.headers in
    subst AreClosed (sym same)
    (all_closed h classes (subst (λ hs. IsHierarchy hs h) (sym is.headers) is) shape (not_empty h.headers (map file_header (map class_seen classes)) shape))
