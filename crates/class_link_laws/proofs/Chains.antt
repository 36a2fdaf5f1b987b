-- The chain above a class begins with it, so its fields stand behind those of the classes above.
use Rattle.std.proofs.Common.{◌≡◌, ℕ, zero, suc, ◌+◌, ◌<◌, refl, sym, ap, ◌∙◌, List, [], ◌∷◌, ◌++◌, length, length-append, Option, arith}
use Rattle.std.specs.Prelude.{flat_map, reverse}
use Rattle.std.proofs.lemmas.List.{flat_map_more, length-map, reverse-append}
use Rattle.class_headers.specs.declared.headers.Header.{Header}
use Rattle.class_members.specs.declared.hierarchy.Hierarchy.{Hierarchy}
use Rattle.class_members.specs.Above.{AreChains, chain_below, climbed, list_of}
use Rattle.class_members.specs.Members.{chain_at, row_or_none}
use Rattle.class_constants.specs.Fields.{above_in, fields_above, fields_at, fields_declared}
use Rattle.class_tables.specs.Objects.{object_field, object_fields, own_object_fields}
use Rattle.class_link_laws.proofs.Lists.{some_at}

begins : (parents : List (Option ℕ)) (m c : ℕ) → (cs : List ℕ) × (chain_below parents (suc m) c ≡ c ∷ cs)
unfolding chain_below climbed
begins parents zero c = ([], refl)
begins parents (suc m) c =
    let r = begins parents m c in
    (r.0 ++ list_of (climbed parents (suc m) c), ap (λ xs. xs ++ list_of (climbed parents (suc m) c)) r.1)

pub chain_begins : (h : Hierarchy) → AreChains h.parents h.chains → (c : ℕ) → c < length h.parents → (cs : List ℕ) × (chain_at h c ≡ c ∷ cs)
chain_begins h are c lt =
    let row = some_at h.chains c (rw are.long lt) in
    let one = one_less (length h.parents) c lt in
    let r = begins h.parents one.0 c in
    (r.0, ap row_or_none row.1 ∙ are.each c row.0 row.1 ∙ ap (λ n. chain_below h.parents n c) one.1 ∙ r.1)
  where
    one_less : (n c : ℕ) → c < n → (m : ℕ) × (n ≡ suc m)
    one_less zero c lt = absurd (omega arith)
    one_less (suc m) c lt = (m, refl)

long_more : {A B : Type 0} (f : A → List B) (x : A) (xs : List A) → length (flat_map f (reverse (x ∷ xs))) ≡ length (flat_map f (reverse xs)) + length (f x)
long_more f x xs =
    ap (λ ys. length (flat_map f ys)) (reverse-append (x ∷ []) xs)
    ∙ ap length (sym (flat_map_more f [] (reverse xs) x))
    ∙ length-append (flat_map f (reverse xs)) (f x)

fields_long : (hs : List Header) (cs : List ℕ) → length (flat_map (own_object_fields hs) (reverse cs)) ≡ fields_declared hs cs
fields_long hs [] = refl
fields_long hs (c ∷ cs) =
    let more = long_more (own_object_fields hs) c cs in
    let rest = fields_long hs cs in
    let own : length (own_object_fields hs c) ≡ length (fields_at hs c) = length-map (fields_at hs c) (object_field hs c) in
    omega arith

-- a field that a class declares has its place in an object of it
pub slot_within : (h : Hierarchy) → AreChains h.parents h.chains → (c place : ℕ) → c < length h.parents → place < length (fields_at h.headers c) → fields_above h c + place < length (object_fields h c)
slot_within h are c place lt in_class =
    let r = chain_begins h are c lt in
    let all : length (object_fields h c) ≡ fields_declared h.headers (chain_at h c) = fields_long h.headers (chain_at h c) in
    let here : fields_declared h.headers (chain_at h c) ≡ length (fields_at h.headers c) + fields_declared h.headers r.0 = ap (fields_declared h.headers) r.1 in
    let above : fields_above h c ≡ fields_declared h.headers r.0 = ap (λ xs. fields_declared h.headers (above_in xs)) r.1 in
    omega arith
