-- What is found by its name is there.
use Rattle.std.proofs.Common.{◌≡◌, ℕ, ◌<◌, refl, subst, Bool, true, false, List, [], ◌∷◌, length, Option, Some, None}
use Rattle.std.specs.Prelude.{slice_get, bytes_eq}
use Rattle.class_headers.specs.declared.headers.Header.{Header}
use Rattle.class_headers.specs.Places.{number_of, own_field, own_method}
use Rattle.class_members.specs.declared.hierarchy.Hierarchy.{Hierarchy}
use Rattle.class_members.specs.declared.members.MemberKind.{MemberKind}
use Rattle.class_members.specs.declared.members.MemberKind.TheVariants as kind
use Rattle.class_members.specs.Members.{by_name, chain_at, constructor_found, field_found, first_member, found_in, inherited_found}
use Rattle.class_members.specs.Members.{interface_method_found, is_constructor_name, method_found, or_else, own_member, own_member_of, supers_at}
use Rattle.class_missing.specs.Mentions.{field_named, interface_method_named, method_named, only_if, then_found}
use Rattle.class_constants.specs.Kinds.{class_of, or_root}
use Rattle.class_link_laws.proofs.Lists.{position_within, some_is}

pub number_within : (hs : List Header) (name : List ℕ) (c : ℕ) → number_of hs name ≡ Some c → c < length hs
number_within hs name c h = position_within (λ x. bytes_eq x.name name) hs c h

pub class_within : (hs : List Header) → 0 < length hs → (name : List ℕ) → class_of hs name < length hs
class_within hs lt name = by (number_of hs name) refl
  where
    by : (o : Option ℕ) → number_of hs name ≡ o → or_root o < length hs
    by None e = lt
    by (Some c) e = number_within hs name c e

-- the class that is found declares the member at that place
abbrev pub Declares : List Header → MemberKind → List ℕ → List ℕ → ℕ × ℕ → Type 0
Declares hs k n d found = (x : Header) × (slice_get hs found.0 ≡ Some x) × (own_member k n d x ≡ Some found.1)

module _ (hs : List Header) (k : MemberKind) (n d : List ℕ) where
  declared : (c p : ℕ) (o : Option Header) → slice_get hs c ≡ o → own_member_of k n d o ≡ Some p → Declares hs k n d (c, p)
  declared c p None e h = cc
  declared c p (Some x) e h = (x, e, h)

  first_or_later : (c : ℕ) (o : Option ℕ) (later : Option (ℕ × ℕ)) (found : ℕ × ℕ) → own_member_of k n d (slice_get hs c) ≡ o → (later ≡ Some found → Declares hs k n d found) → found_in c o later ≡ Some found → Declares hs k n d found
  first_or_later c None later found e more h = more h
  first_or_later c (Some p) later found e more h = subst (Declares hs k n d) (some_is h) (declared c p (slice_get hs c) refl e)

  pub first_declares : (cs : List ℕ) (found : ℕ × ℕ) → first_member hs k n d cs ≡ Some found → Declares hs k n d found
  first_declares [] found h = cc
  first_declares (c ∷ cs) found h =
      first_or_later c (own_member_of k n d (slice_get hs c)) (first_member hs k n d cs) found refl (first_declares cs found) h

then_some : (o : Option ℕ) (f : ℕ → Option (ℕ × ℕ)) (found : ℕ × ℕ) → then_found o f ≡ Some found → (c : ℕ) × (f c ≡ Some found)
then_some None f found h = cc
then_some (Some c) f found h = (c, h)

only_some : (b : Bool) (o : Option (ℕ × ℕ)) (found : ℕ × ℕ) → only_if b o ≡ Some found → o ≡ Some found
only_some true o found h = h
only_some false o found h = cc

either : (P : ℕ × ℕ → Type 0) (a b : Option (ℕ × ℕ)) (found : ℕ × ℕ) → ((f : ℕ × ℕ) → a ≡ Some f → P f) → ((f : ℕ × ℕ) → b ≡ Some f → P f) → or_else a b ≡ Some found → P found
either P None b found f g h = g found h
either P (Some x) b found f g h = f found h

chosen : (P : ℕ × ℕ → Type 0) (t : Bool) (a b : Option (ℕ × ℕ)) (found : ℕ × ℕ) → ((f : ℕ × ℕ) → a ≡ Some f → P f) → ((f : ℕ × ℕ) → b ≡ Some f → P f) → by_name t a b ≡ Some found → P found
chosen P true a b found f g h = f found h
chosen P false a b found f g h = g found h

module _ (h : Hierarchy) (n d : List ℕ) where
  pub field_declares : (class : List ℕ) (found : ℕ × ℕ) → field_named h class n d ≡ Some found → Declares h.headers kind.Field n d found
  field_declares class found q =
      let r = then_some (number_of h.headers class) (λ c. field_found h c n d) found q in
      first_declares h.headers kind.Field n d (chain_at h r.0) found r.1

  inherited : (c : ℕ) (found : ℕ × ℕ) → inherited_found h c n d ≡ Some found → Declares h.headers kind.Method n d found
  inherited c found q =
      either (Declares h.headers kind.Method n d)
      (first_member h.headers kind.Method n d (chain_at h c)) (first_member h.headers kind.Method n d (supers_at h c)) found
      (first_declares h.headers kind.Method n d (chain_at h c)) (first_declares h.headers kind.Method n d (supers_at h c)) q

  pub method_declares : (class : List ℕ) (found : ℕ × ℕ) → method_named h class n d ≡ Some found → Declares h.headers kind.Method n d found
  method_declares class found q =
      let r = then_some (number_of h.headers class) _ found q in
      let m : method_found h r.0 n d ≡ Some found = only_some _ (method_found h r.0 n d) found r.1 in
      chosen (Declares h.headers kind.Method n d) (is_constructor_name n) (constructor_found h r.0 n d) (inherited_found h r.0 n d) found
      (first_declares h.headers kind.Method n d (r.0 ∷ [])) (inherited r.0) m

  pub interface_method_declares : (class : List ℕ) (found : ℕ × ℕ) → interface_method_named h class n d ≡ Some found → Declares h.headers kind.Method n d found
  interface_method_declares class found q =
      let r = then_some (number_of h.headers class) _ found q in
      let m : interface_method_found h r.0 n d ≡ Some found = only_some _ (interface_method_found h r.0 n d) found r.1 in
      either (Declares h.headers kind.Method n d)
      (first_member h.headers kind.Method n d (r.0 ∷ 0 ∷ [])) (first_member h.headers kind.Method n d (supers_at h r.0)) found
      (first_declares h.headers kind.Method n d (r.0 ∷ 0 ∷ [])) (first_declares h.headers kind.Method n d (supers_at h r.0)) m

pub field_place : (n d : List ℕ) (x : Header) (p : ℕ) → own_field x n d ≡ Some p → p < length x.fields
field_place n d x p e = position_within _ x.fields p e

pub method_place : (n d : List ℕ) (x : Header) (p : ℕ) → own_method x n d ≡ Some p → p < length x.methods
method_place n d x p e = position_within _ x.methods p e
