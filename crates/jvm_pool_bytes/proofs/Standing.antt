-- Entries as they stand in a file, with their indices, and what they stand for: no two that differ stand for the same.
use Rattle.std.proofs.Common.{◌≡◌, ℕ, zero, suc, ◌+◌, ◌<◌, ◌≤◌, Bool, true, false, ◌&&◌, ◌||◌, cond, eqb, List, [], ◌∷◌, ◌++◌, Option, Some, None, refl, sym, ap, subst, ◌∙◌, arith, true≢false, not, ◌⊎◌, inl, inr}
use Rattle.std.specs.Prelude.{◌==◌, nat_lt, nat_le}
use Rattle.std.specs.List.{list_any}
use Rattle.std.specs.Cmp.Lexicographic.{bytes_decides}
use Rattle.std.proofs.lemmas.Bool.{and_parts, eqb-true, eq-eqb, ne_eqb, ltb-true, leb-true}
use Rattle.std.proofs.lemmas.Bool.Decides.{Decides-int_eq}
use Rattle.jvm_pool.specs.declared.entries.Entry.{Entry}
use Rattle.jvm_pool.specs.declared.entries.Entry.TheVariants as entry
use Rattle.jvm_pool.specs.Entries.{same}
use Rattle.jvm_pool_bytes.specs.declared.raws.RawEntry.{RawEntry}
use Rattle.jvm_pool_bytes.specs.declared.raws.RawEntry.TheVariants as raw
use Rattle.jvm_pool_bytes.specs.Names.{is_name, is_field_descriptor, is_method_descriptor}
use Rattle.jvm_pool_bytes.specs.Spelling.{parts}
use Rattle.jvm_pool_bytes.specs.Raws.{raw_size, raw_units, indices, same_raw, raw_at, text_in, text_at, class_in, class_at, name_in, name_at, descriptor_in, descriptor_at, entry_of}
use Rattle.jvm_pool_bytes.specs.Reading.{is_kind, names, is_text, is_class, text_keeps, is_pair, fits}

-- ---- the same entry

two_same : (a b : Bool) → a ≡ true → b ≡ true → (a && b) ≡ true
two_same true b p q = q
two_same false b p q = p

pair_is : (f : ℕ → ℕ → RawEntry) (i j k l : ℕ) → (i == k && j == l) ≡ true → f i j ≡ f k l
pair_is f i j k l h =
    let p = and_parts (i == k) (j == l) h in
    ap (λ x. f x j) (eqb-true i k p.0) ∙ ap (λ x. f k x) (eqb-true j l p.1)

pub same_raw_is : (r q : RawEntry) → same_raw r q ≡ true → r ≡ q
same_raw_is (raw.Utf8 t) (raw.Utf8 u) h = ap raw.Utf8 ((bytes_decides t u).0 h)
same_raw_is (raw.Int m) (raw.Int n) h = ap raw.Int ((Decides-int_eq m n).0 h)
same_raw_is (raw.Long m) (raw.Long n) h = ap raw.Long ((Decides-int_eq m n).0 h)
same_raw_is (raw.Class i) (raw.Class j) h = ap raw.Class (eqb-true i j h)
same_raw_is (raw.Text i) (raw.Text j) h = ap raw.Text (eqb-true i j h)
same_raw_is (raw.Field i j) (raw.Field k l) h = pair_is raw.Field i j k l h
same_raw_is (raw.Method i j) (raw.Method k l) h = pair_is raw.Method i j k l h
same_raw_is (raw.InterfaceMethod i j) (raw.InterfaceMethod k l) h = pair_is raw.InterfaceMethod i j k l h
same_raw_is (raw.NameAndType i j) (raw.NameAndType k l) h = pair_is raw.NameAndType i j k l h
same_raw_is _ _ h = absurd (true≢false (sym h))

pub same_raw_self : (r : RawEntry) → same_raw r r ≡ true
same_raw_self (raw.Utf8 t) = (bytes_decides t t).1 refl
same_raw_self (raw.Int n) = (Decides-int_eq n n).1 refl
same_raw_self (raw.Long n) = (Decides-int_eq n n).1 refl
same_raw_self (raw.Class i) = eq-eqb i i refl
same_raw_self (raw.Text i) = eq-eqb i i refl
same_raw_self (raw.Field i j) = two_same _ _ (eq-eqb i i refl) (eq-eqb j j refl)
same_raw_self (raw.Method i j) = two_same _ _ (eq-eqb i i refl) (eq-eqb j j refl)
same_raw_self (raw.InterfaceMethod i j) = two_same _ _ (eq-eqb i i refl) (eq-eqb j j refl)
same_raw_self (raw.NameAndType i j) = two_same _ _ (eq-eqb i i refl) (eq-eqb j j refl)

pub raw_size_some : (r : RawEntry) → 0 < raw_size r
raw_size_some (raw.Long n) = omega arith
raw_size_some _ = omega arith

-- ---- at an index

pub raw_from : (k : ℕ) (rs : List RawEntry) (i : ℕ) (r : RawEntry) → raw_at k rs i ≡ Some r → k ≤ i
unfolding raw_at
raw_from k [] i r h = absurd cc
raw_from k (x ∷ rs) i r h = by (eqb i k) refl h (λ g. raw_from (k + raw_size x) rs i r g)
  where
    by : (b : Bool) → eqb i k ≡ b → cond b (Some x) (raw_at (k + raw_size x) rs i) ≡ Some r
        → (raw_at (k + raw_size x) rs i ≡ Some r → k + raw_size x ≤ i) → k ≤ i
    by true is h later = let e : i ≡ k = eqb-true i k is in omega (arith, e)
    by false is h later = omega (arith, later h)

pub raw_here : (k : ℕ) (x : RawEntry) (rs : List RawEntry) → raw_at k (x ∷ rs) k ≡ Some x
unfolding raw_at
raw_here k x rs = ap (λ (b : Bool). cond b (Some x) (raw_at (k + raw_size x) rs k)) (eq-eqb k k refl)

pub raw_later : (k : ℕ) (x : RawEntry) (rs : List RawEntry) (i : ℕ) (r : RawEntry)
    → raw_at (k + raw_size x) rs i ≡ Some r → raw_at k (x ∷ rs) i ≡ Some r
unfolding raw_at
raw_later k x rs i r h =
    let from : k + raw_size x ≤ i = raw_from (k + raw_size x) rs i r h in
    let isn't : eqb i k ≡ false = ne_eqb i k (λ e. omega (arith, from, raw_size_some x, e)) in
    ap (λ (b : Bool). cond b (Some x) (raw_at (k + raw_size x) rs i)) isn't ∙ h

-- what is at an index is the first of them, or one further on
pub raw_cases : (k : ℕ) (x : RawEntry) (rs : List RawEntry) (i : ℕ) (r : RawEntry) → raw_at k (x ∷ rs) i ≡ Some r
    → ((i ≡ k) × (x ≡ r)) ⊎ (raw_at (k + raw_size x) rs i ≡ Some r)
unfolding raw_at
raw_cases k x rs i r h = by (eqb i k) refl h
  where
    by : (b : Bool) → eqb i k ≡ b → cond b (Some x) (raw_at (k + raw_size x) rs i) ≡ Some r
        → ((i ≡ k) × (x ≡ r)) ⊎ (raw_at (k + raw_size x) rs i ≡ Some r)
    by true is h = inl (eqb-true i k is, cc)
    by false is h = inr h

-- ---- none stands twice

-- each is none of those before it
abbrev pub Fresh : List RawEntry → List RawEntry → Type 0
Fresh before [] = Unit {0}
Fresh before (r ∷ rs) = (list_any (same_raw r) before ≡ false) × Fresh (before ++ r ∷ []) rs

or_false : (a b : Bool) → (a || b) ≡ false → (a ≡ false) × (b ≡ false)
or_false false b h = (refl, h)
or_false true b h = absurd (true≢false h)

pub any_before : (r x : RawEntry) (before : List RawEntry) → list_any (same_raw r) (before ++ x ∷ []) ≡ false
    → (list_any (same_raw r) before ≡ false) × (same_raw r x ≡ false)
any_before r x [] h = (refl, (or_false (same_raw r x) false h).0)
any_before r x (y ∷ before) h =
    let p = or_false (same_raw r y) (list_any (same_raw r) (before ++ x ∷ [])) h in
    let q = any_before r x before p.1 in
    (rw (p.0, q.0) refl, q.1)

none_before : (k : ℕ) (before rs : List RawEntry) (i : ℕ) (r : RawEntry) → Fresh before rs → raw_at k rs i ≡ Some r
    → list_any (same_raw r) before ≡ false
unfolding raw_at
none_before k before [] i r fresh h = absurd cc
none_before k before (x ∷ rs) i r fresh h =
    by (raw_cases k x rs i r h) (λ g. none_before (k + raw_size x) (before ++ x ∷ []) rs i r fresh.1 g)
  where
    by : ((i ≡ k) × (x ≡ r)) ⊎ (raw_at (k + raw_size x) rs i ≡ Some r)
        → (raw_at (k + raw_size x) rs i ≡ Some r → list_any (same_raw r) (before ++ x ∷ []) ≡ false)
        → list_any (same_raw r) before ≡ false
    by (inl e) later = subst (λ (y : RawEntry). list_any (same_raw y) before ≡ false) e.1 fresh.0
    by (inr g) later = (any_before r x before (later g)).0

not_again : (k : ℕ) (before rs : List RawEntry) (x : RawEntry) (i : ℕ) (r : RawEntry) → Fresh (before ++ x ∷ []) rs
    → raw_at k rs i ≡ Some r → x ≡ r → ⊥
not_again k before rs x i r fresh h e =
    let none = (any_before r x before (none_before k (before ++ x ∷ []) rs i r fresh h)).1 in
    true≢false (sym (same_raw_self r) ∙ ap (same_raw r) (sym e) ∙ none)

pub one_place : (k : ℕ) (before rs : List RawEntry) (i j : ℕ) (r : RawEntry) → Fresh before rs → raw_at k rs i ≡ Some r
    → raw_at k rs j ≡ Some r → i ≡ j
unfolding raw_at
one_place k before [] i j r fresh h g = absurd cc
one_place k before (x ∷ rs) i j r fresh h g =
    by (raw_cases k x rs i r h) (raw_cases k x rs j r g)
    (λ p q. one_place (k + raw_size x) (before ++ x ∷ []) rs i j r fresh.1 p q)
  where
    by : ((i ≡ k) × (x ≡ r)) ⊎ (raw_at (k + raw_size x) rs i ≡ Some r)
        → ((j ≡ k) × (x ≡ r)) ⊎ (raw_at (k + raw_size x) rs j ≡ Some r)
        → (raw_at (k + raw_size x) rs i ≡ Some r → raw_at (k + raw_size x) rs j ≡ Some r → i ≡ j) → i ≡ j
    by (inl e) (inl f) later = e.0 ∙ sym f.0
    by (inl e) (inr q) later = absurd (not_again (k + raw_size x) before rs x j r fresh.1 q e.1)
    by (inr p) (inl f) later = absurd (not_again (k + raw_size x) before rs x i r fresh.1 p f.1)
    by (inr p) (inr q) later = later p q

-- ---- kinds

pub text_is : (rule : List ℕ → Bool) (all : List RawEntry) (count : ℕ) (r : RawEntry) → is_text all count rule r ≡ true
    → (t : List ℕ) × (r ≡ raw.Utf8 t) × (rule t ≡ true)
text_is rule all count (raw.Utf8 t) h = (t, refl, h)
text_is rule all count _ h = absurd (true≢false (sym h))

class_is : (all : List RawEntry) (count : ℕ) (r : RawEntry) → is_class all count r ≡ true → (i : ℕ) × (r ≡ raw.Class i)
class_is all count (raw.Class i) h = (i, refl)
class_is all count _ h = absurd (true≢false (sym h))

pub pair_raw : (other : List ℕ → Bool) (all : List RawEntry) (count : ℕ) (r : RawEntry) → is_pair all count other r ≡ true
    → (i : ℕ) × (j : ℕ) × (r ≡ raw.NameAndType i j)
    × (text_keeps all count (λ t. not (other t)) (raw_at 1 all j) ≡ true)
pair_raw other all count (raw.NameAndType i j) h = (i, j, refl, h)
pair_raw other all count _ h = absurd (true≢false (sym h))

module _ (all : List RawEntry) where
  -- an index that names a kind, in a pool that is whole
  pub named_kind : (kind : RawEntry → Bool) (i : ℕ) → names all (1 + raw_units all) kind i ≡ true
      → (r : RawEntry) × (raw_at 1 all i ≡ Some r) × (kind r ≡ true)
  named_kind kind i h = by (raw_at 1 all i) refl h
    where
      by : (o : Option RawEntry) → raw_at 1 all i ≡ o → is_kind all (1 + raw_units all) kind i o ≡ true
          → (r : RawEntry) × (raw_at 1 all i ≡ Some r) × (kind r ≡ true)
      by (Some r) is h = (r, is, h)
      by None is h =
          let p = and_parts (nat_le (1 + raw_units all) i) (nat_lt i (1 + raw_units all)) h in
          absurd (none p.0 p.1)
        where
          none : nat_le (1 + raw_units all) i ≡ true → nat_lt i (1 + raw_units all) ≡ true → ⊥
          none p q = omega (arith, leb-true (1 + raw_units all) i p, ltb-true i (1 + raw_units all) q)

  pub named_text : (rule : List ℕ → Bool) (i : ℕ)
      → names all (1 + raw_units all) (is_text all (1 + raw_units all) rule) i ≡ true
      → (t : List ℕ) × (raw_at 1 all i ≡ Some (raw.Utf8 t)) × (rule t ≡ true)
  named_text rule i h =
      let r = named_kind (is_text all (1 + raw_units all) rule) i h in
      let t = text_is rule all (1 + raw_units all) r.0 r.2 in
      (t.0, r.1 ∙ ap (λ (x : RawEntry). Some x) t.1, t.2)

  named_class : (i : ℕ) → names all (1 + raw_units all) (is_class all (1 + raw_units all)) i ≡ true
      → (a : ℕ) × (raw_at 1 all i ≡ Some (raw.Class a))
  named_class i h =
      let r = named_kind (is_class all (1 + raw_units all)) i h in
      let t = class_is all (1 + raw_units all) r.0 r.2 in
      (t.0, r.1 ∙ ap (λ (x : RawEntry). Some x) t.1)

  pub named_pair : (other : List ℕ → Bool) (i : ℕ)
      → names all (1 + raw_units all) (is_pair all (1 + raw_units all) other) i ≡ true
      → (a : ℕ) × (b : ℕ) × (raw_at 1 all i ≡ Some (raw.NameAndType a b))
      × (text_keeps all (1 + raw_units all) (λ t. not (other t)) (raw_at 1 all b) ≡ true)
  named_pair other i h =
      let r = named_kind (is_pair all (1 + raw_units all) other) i h in
      let t = pair_raw other all (1 + raw_units all) r.0 r.2 in
      (t.0, t.1, r.1 ∙ ap (λ (x : RawEntry). Some x) t.2, t.3)

  -- ---- parts, beside indices

  abbrev pub level : RawEntry → ℕ
  level (raw.Class i) = 1
  level (raw.Text i) = 1
  level (raw.NameAndType i j) = 1
  level (raw.Field i j) = 2
  level (raw.Method i j) = 2
  level (raw.InterfaceMethod i j) = 2
  level _ = 0

  -- at the index stands an entry of a lower level that stands for the part
  pub record IsPart (n : ℕ) (p : Entry) (i : ℕ) : Type 0 where
    pub of : RawEntry
    pub at : raw_at 1 all i ≡ Some of
    pub is : entry_of all of ≡ p
    pub lower : level of < n

  abbrev pub Aligned : ℕ → List Entry → List ℕ → Type 0
  Aligned n [] [] = Unit {0}
  Aligned n (p ∷ ps) (i ∷ is) = IsPart n p i × Aligned n ps is
  Aligned n _ _ = ⊥

  text_part : (n : ℕ) (rule : List ℕ → Bool) (i : ℕ) → 0 < n
      → names all (1 + raw_units all) (is_text all (1 + raw_units all) rule) i ≡ true
      → IsPart n (entry.Utf8 (text_at all i)) i
  text_part n rule i some h =
      let t = named_text rule i h in
      record { of = raw.Utf8 t.0; at = t.1; is = ap (λ (o : Option RawEntry). entry.Utf8 (text_in all o)) (sym t.1); lower = some }

  class_part : (i : ℕ) → names all (1 + raw_units all) (is_class all (1 + raw_units all)) i ≡ true
      → IsPart 2 (entry.Class (class_at all i)) i
  class_part i h =
      let t = named_class i h in
      record { of = raw.Class t.0; at = t.1; is = ap (λ (o : Option RawEntry). entry.Class (class_in all o)) (sym t.1); lower = omega arith }

  pair_part : (other : List ℕ → Bool) (i : ℕ)
      → names all (1 + raw_units all) (is_pair all (1 + raw_units all) other) i ≡ true
      → IsPart 2 (entry.NameAndType (name_at all i) (descriptor_at all i)) i
  pair_part other i h =
      let t = named_pair other i h in
      record {
        of = raw.NameAndType t.0 t.1;
        at = t.2;
        is = ap (λ (o : Option RawEntry). entry.NameAndType (name_in all o) (descriptor_in all o)) (sym t.2);
        lower = omega arith;
      }

  pub aligned : (r : RawEntry) → fits all (1 + raw_units all) r ≡ true → Aligned (level r) (parts (entry_of all r)) (indices r)
  aligned (raw.Utf8 t) h = tt
  aligned (raw.Int n) h = tt
  aligned (raw.Long n) h = tt
  aligned (raw.Class i) h = (text_part 1 is_name i (omega arith) h, tt)
  aligned (raw.Text i) h = (text_part 1 (λ t. true) i (omega arith) h, tt)
  aligned (raw.Field i j) h =
      let p = and_parts (names all (1 + raw_units all) (is_class all (1 + raw_units all)) i)
      (names all (1 + raw_units all) (is_pair all (1 + raw_units all) is_method_descriptor) j) h in
      (class_part i p.0, (pair_part is_method_descriptor j p.1, tt))
  aligned (raw.Method i j) h =
      let p = and_parts (names all (1 + raw_units all) (is_class all (1 + raw_units all)) i)
      (names all (1 + raw_units all) (is_pair all (1 + raw_units all) is_field_descriptor) j) h in
      (class_part i p.0, (pair_part is_field_descriptor j p.1, tt))
  aligned (raw.InterfaceMethod i j) h =
      let p = and_parts (names all (1 + raw_units all) (is_class all (1 + raw_units all)) i)
      (names all (1 + raw_units all) (is_pair all (1 + raw_units all) is_field_descriptor) j) h in
      (class_part i p.0, (pair_part is_field_descriptor j p.1, tt))
  aligned (raw.NameAndType i j) h =
      let p = and_parts (names all (1 + raw_units all) (is_text all (1 + raw_units all) is_name) i)
      (names all (1 + raw_units all)
      (is_text all (1 + raw_units all) (λ t. is_field_descriptor t || is_method_descriptor t)) j) h in (
        text_part 1 is_name i (omega arith) p.0,
        (text_part 1 (λ t. is_field_descriptor t || is_method_descriptor t) j (omega arith) p.1, tt),
      )

  -- ---- what two stand for

  -- each that stands at an index fits
  abbrev pub AllFit : Type 0
  AllFit = (i : ℕ) (r : RawEntry) → raw_at 1 all i ≡ Some r → fits all (1 + raw_units all) r ≡ true

  indices_same : (m n : ℕ) (ps : List Entry) (is js : List ℕ) → Fresh [] all
      → ((q r : RawEntry) (i j : ℕ) → raw_at 1 all i ≡ Some q → raw_at 1 all j ≡ Some r → level q < m → level r < n
      → entry_of all q ≡ entry_of all r → q ≡ r)
      → Aligned m ps is → Aligned n ps js → is ≡ js
  indices_same m n [] [] [] fresh same a b = refl
  indices_same m n (p ∷ ps) (i ∷ is) (j ∷ js) fresh same a b =
      let x = a.0 in
      let y = b.0 in
      let q : x.of ≡ y.of = same x.of y.of i j x.at y.at x.lower y.lower (x.is ∙ sym y.is) in
      let first : i ≡ j = one_place 1 [] all i j y.of fresh (x.at ∙ ap (λ (r : RawEntry). Some r) q) y.at in
      let others : is ≡ js = indices_same m n ps is js fresh same a.1 b.1 in
      ap (λ (k : ℕ). k ∷ is) first ∙ ap (λ (l : List ℕ). j ∷ l) others
  indices_same m n [] [] (j ∷ js) fresh same a b = absurd b
  indices_same m n [] (i ∷ is) js fresh same a b = absurd a
  indices_same m n (p ∷ ps) [] js fresh same a b = absurd a
  indices_same m n (p ∷ ps) (i ∷ is) [] fresh same a b = absurd b

-- the entry with indices in the place of its parts
abbrev pub with_indices : Entry → List ℕ → RawEntry
with_indices (entry.Utf8 t) is = raw.Utf8 t
with_indices (entry.Int n) is = raw.Int n
with_indices (entry.Long n) is = raw.Long n
with_indices (entry.Class n) (i ∷ is) = raw.Class i
with_indices (entry.Text t) (i ∷ is) = raw.Text i
with_indices (entry.Field c n d) (i ∷ j ∷ is) = raw.Field i j
with_indices (entry.Method c n d) (i ∷ j ∷ is) = raw.Method i j
with_indices (entry.InterfaceMethod c n d) (i ∷ j ∷ is) = raw.InterfaceMethod i j
with_indices (entry.NameAndType n d) (i ∷ j ∷ is) = raw.NameAndType i j
with_indices _ _ = raw.Class 0

pub indices_back : (all : List RawEntry) (r : RawEntry) → with_indices (entry_of all r) (indices r) ≡ r
indices_back all (raw.Utf8 a) = refl
indices_back all (raw.Int a) = refl
indices_back all (raw.Long a) = refl
indices_back all (raw.Class a) = refl
indices_back all (raw.Text a) = refl
indices_back all (raw.Field a b) = refl
indices_back all (raw.Method a b) = refl
indices_back all (raw.InterfaceMethod a b) = refl
indices_back all (raw.NameAndType a b) = refl

pub same_content : (all : List RawEntry) → Fresh [] all → AllFit all → (n : ℕ) (q r : RawEntry) (i j : ℕ)
    → raw_at 1 all i ≡ Some q → raw_at 1 all j ≡ Some r → level all q < n → level all r < n
    → entry_of all q ≡ entry_of all r → q ≡ r
same_content all fresh fit zero q r i j at there low lower same = absurd (omega (arith, low))
same_content all fresh fit (suc n) q r i j at there low lower same =
    let a = aligned all q (fit i q at) in
    let b = aligned all r (fit j r there) in
    let c : Aligned all (level all r) (parts (entry_of all q)) (indices r) =
    subst (λ (e : Entry). Aligned all (level all r) (parts e) (indices r)) (sym same) b in
    let is : indices q ≡ indices r =
    indices_same all (level all q) (level all r) (parts (entry_of all q)) (indices q) (indices r) fresh
    (λ x y k l f g lx ly e. same_content all fresh fit n x y k l f g (omega (arith, lx, low)) (omega (arith, ly, lower)) e) a c in
    sym (indices_back all q) ∙ ap (with_indices (entry_of all q)) is ∙ ap (λ (e : Entry). with_indices e (indices r)) same
    ∙ indices_back all r
