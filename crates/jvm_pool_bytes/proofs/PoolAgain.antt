-- A pool is read from its spelling.
use Rattle.std.proofs.Common.{◌≡◌, ℕ, zero, suc, ◌+◌, ◌-◌, ◌^◌, ◌<◌, ◌≤◌, Bool, true, false, ◌&&◌, ◌||◌, cond, eqb, ltb, List, [], ◌∷◌, ◌++◌, map, Option, Some, None, is_some, Result, Ok, Err, refl, sym, ap, subst, ◌∙◌, arith, append_assoc, true≢false}
use Rattle.std.specs.Prelude.{◌==◌, nat_lt, not}
use Rattle.std.specs.Int.{w16, to_be_bytes}
use Rattle.std.specs.List.{flat_map, list_any}
use Rattle.std.proofs.Math.Facts.{Fits-of_z}
use Rattle.std.proofs.lemmas.List.{map_push}
use Rattle.std.proofs.lemmas.Bool.{and_parts, eqb-true, lt-ltb, le-ltb}
use Rattle.jvm_pool.specs.declared.entries.Entry.{Entry}
use Rattle.jvm_pool.specs.declared.entries.Entry.TheVariants as entry
use Rattle.jvm_pool.specs.DescriptorReading.{first_type}
use Rattle.jvm_pool.specs.Entries.{size, same, units}
use Rattle.jvm_pool.specs.Mentions.{has, seek, count_mentions}
use Rattle.jvm_pool.specs.Numbering.{AreDifferent, entry_at}
use Rattle.jvm_pool.proofs.Growing.{not_before}
use Rattle.jvm_pool.proofs.Same.{same_is, same_self, size_some}
use Rattle.jvm_pool.proofs.Seeking.{entry_from_seek, has_seek}
use Rattle.jvm_pieces.specs.Pieces.{index, found, mentions}
use Rattle.jvm_class_formats.specs.Formats.{Spot, spot, here, ◌>>=◌, number_at, allowed_in, u4}
use Rattle.jvm_class_formats.proofs.Steps.{done, half}
use Rattle.jvm_class_formats.proofs.Parts.{number_again, seek_below}
use Rattle.jvm_pool_bytes.specs.declared.raws.RawEntry.{RawEntry}
use Rattle.jvm_pool_bytes.specs.Names.{is_ascii, is_name, is_last, is_field_descriptor, is_method_descriptor, opened}
use Rattle.jvm_pool_bytes.specs.Spelling.{parts, cp_info, pool, IsEntry, AreEntries, IsPool}
use Rattle.jvm_pool_bytes.specs.Laws.{PoolIsRead}
use Rattle.jvm_pool_bytes.specs.Raws.{tag_of_number, raw_size, raw_units, same_raw, raw_at, text_in, class_in, name_in, descriptor_in, entry_of}
use Rattle.jvm_pool_bytes.specs.Reading.{u8, raw_entry, Stretch, in_front, is_refused, behind_raw, raws_at, is_kind, is_text, is_class, text_keeps, is_pair, fits, first_misfit, raws_of, entries_of, unless_misfit, judged, pool_at}
use Rattle.jvm_pool_bytes.proofs.RawLaws.{lawful_raw}
use Rattle.jvm_pool_bytes.proofs.Standing.{same_raw_is}
use Rattle.jvm_pool_bytes.proofs.Spelled.{raw_of, raw_spelled, int_seen, long_seen}
use Rattle.jvm_pool_bytes.proofs.PoolFound.{no_mentions}

-- ---- no descriptor is of both kinds

not_both : (text : List ℕ) → is_field_descriptor text ≡ true → is_method_descriptor text ≡ true → ⊥
not_both [] h g = absurd (true≢false (sym g))
not_both (b ∷ rest) h g =
    let p = and_parts (is_ascii (b ∷ rest)) (is_last (first_type (b ∷ rest))) h in
    let q = and_parts (is_ascii (b ∷ rest)) (opened (b ∷ rest)) g in
    let open_is : (b == 40) ≡ true = (and_parts (b == 40) _ q.1).0 in
    let last : is_last (first_type (40 ∷ rest)) ≡ true =
    ap (λ (n : ℕ). is_last (first_type (n ∷ rest))) (sym (eqb-true b 40 open_is)) ∙ p.1 in
    true≢false (sym last)

unless : (b : Bool) → (b ≡ true → ⊥) → not b ≡ true
unless true h = absurd (h refl)
unless false h = refl

both : (a b : Bool) → a ≡ true → b ≡ true → (a && b) ≡ true
both true b p q = q
both false b p q = p

-- ---- members

pub has_first : (p : Entry) (ps : List Entry) → has (p ∷ ps) p ≡ true
has_first p ps = ap (λ (b : Bool). b || has ps p) (same_self p)

pub has_next : (p q : Entry) (ps : List Entry) → has ps p ≡ true → has (q ∷ ps) p ≡ true
has_next p q ps h = by (same p q)
  where
    by : (b : Bool) → (b || has ps p) ≡ true
    by true = refl
    by false = h

has_middle : (front rest : List Entry) (e : Entry) → has (front ++ e ∷ rest) e ≡ true
has_middle [] rest e = has_first e rest
has_middle (x ∷ front) rest e = has_next e x (front ++ e ∷ rest) (has_middle front rest e)

has_before : (front rest : List Entry) (y : Entry) → has front y ≡ true → has (front ++ rest) y ≡ true
has_before [] rest y h = absurd (true≢false (sym h))
has_before (x ∷ front) rest y h = by (same y x) h (λ g. has_before front rest y g)
  where
    by : (b : Bool) → (b || has front y) ≡ true → (has front y ≡ true → has (front ++ rest) y ≡ true)
        → (b || has (front ++ rest) y) ≡ true
    by true g later = refl
    by false g later = later g

abbrev stopped : ℕ → Stretch
stopped at = ([], Err at)

entry_each : (es : List Entry) (e : Entry) → AreEntries es → has es e ≡ true → IsEntry e
entry_each [] e a h = absurd (true≢false (sym h))
entry_each (x ∷ es) e a h = by (same e x) refl h (λ g. entry_each es e a.1 g)
  where
    by : (b : Bool) → same e x ≡ b → (b || has es e) ≡ true → (has es e ≡ true → IsEntry e) → IsEntry e
    by true is g later = subst IsEntry (sym (same_is e x is)) a.0
    by false is g later = later g

has_index : (es : List Entry) (p : Entry) → has es p ≡ true → (i : ℕ) × (seek 1 es p ≡ Some i)
has_index es p h = by (seek 1 es p) refl
  where
    by : (o : Option ℕ) → seek 1 es p ≡ o → (i : ℕ) × (seek 1 es p ≡ Some i)
    by (Some i) is = (i, is)
    by None is = absurd (true≢false (sym h ∙ (has_seek 1 es p ∙ ap is_some is)))

-- ---- what an entry's format asks

abbrev SmallParts : List Entry → Entry → Type 0
SmallParts es e = (p : Entry) → has (parts e) p ≡ true → index es p < 2 ^ 16

two_allowed : (es : List Entry) (p q : Entry) → ((x : Entry) → has (p ∷ q ∷ []) x ≡ true → index es x < 2 ^ 16)
    → ((index es p < 2 ^ 16) × (true ≡ true)) × ((index es q < 2 ^ 16) × (true ≡ true))
two_allowed es p q small =
    ((small p (has_first p (q ∷ [])), refl), (small q (has_next q p (q ∷ []) (has_first q [])), refl))

raw_allowed : (es : List Entry) (e : Entry) → IsEntry e → SmallParts es e → raw_entry.allows (raw_of es e)
unfolding tag_of_number
raw_allowed es (entry.Utf8 t) fit small = ((omega arith, refl), ((fit.1, refl), (fit.0, refl)))
raw_allowed es (entry.Int n) fit small =
    ((omega arith, refl), subst (allowed_in u4) (sym (int_seen n fit)) ((Fits-of_z fit).fits, refl))
raw_allowed es (entry.Long n) fit small =
    ((omega arith, refl), subst (allowed_in u8) (sym (long_seen n fit)) ((Fits-of_z fit).fits, refl))
raw_allowed es (entry.Class n) fit small = ((omega arith, refl), (small (entry.Utf8 n) (has_first (entry.Utf8 n) []), refl))
raw_allowed es (entry.Text t) fit small = ((omega arith, refl), (small (entry.Utf8 t) (has_first (entry.Utf8 t) []), refl))
raw_allowed es (entry.Field c n d) fit small =
    ((omega arith, refl), two_allowed es (entry.Class c) (entry.NameAndType n d) small)
raw_allowed es (entry.Method c n d) fit small =
    ((omega arith, refl), two_allowed es (entry.Class c) (entry.NameAndType n d) small)
raw_allowed es (entry.InterfaceMethod c n d) fit small =
    ((omega arith, refl), two_allowed es (entry.Class c) (entry.NameAndType n d) small)
raw_allowed es (entry.NameAndType n d) fit small =
    ((omega arith, refl), two_allowed es (entry.Utf8 n) (entry.Utf8 d) small)

-- ---- sizes

raw_of_size : (es : List Entry) (e : Entry) → raw_size (raw_of es e) ≡ size e
raw_of_size es (entry.Utf8 t) = refl
raw_of_size es (entry.Int n) = refl
raw_of_size es (entry.Long n) = refl
raw_of_size es (entry.Class n) = refl
raw_of_size es (entry.Text t) = refl
raw_of_size es (entry.Field c n d) = refl
raw_of_size es (entry.Method c n d) = refl
raw_of_size es (entry.InterfaceMethod c n d) = refl
raw_of_size es (entry.NameAndType n d) = refl

raws_units : (es l : List Entry) → raw_units (map (raw_of es) l) ≡ units l
raws_units es [] = refl
raws_units es (e ∷ l) = let h = raws_units es l in let s = raw_of_size es e in omega (arith, h, s)

raw_at_map : (es : List Entry) (k : ℕ) (l : List Entry) (i : ℕ) (e : Entry) → entry_at k l i ≡ Some e
    → raw_at k (map (raw_of es) l) i ≡ Some (raw_of es e)
unfolding entry_at raw_at
raw_at_map es k [] i e h = absurd cc
raw_at_map es k (x ∷ l) i e h = by (eqb i k) h (λ g. raw_at_map es (k + size x) l i e g)
  where
    by : (b : Bool) → cond b (Some x) (entry_at (k + size x) l i) ≡ Some e
        → (entry_at (k + size x) l i ≡ Some e → raw_at (k + size x) (map (raw_of es) l) i ≡ Some (raw_of es e))
        → cond b (Some (raw_of es x)) (raw_at (k + raw_size (raw_of es x)) (map (raw_of es) l) i) ≡ Some (raw_of es e)
    by true g later = let e : x ≡ e = cc in ap (λ (y : Entry). Some (raw_of es y)) e
    by false g later =
        ap (λ (n : ℕ). raw_at (k + n) (map (raw_of es) l) i) (raw_of_size es x) ∙ later g

module _ (es : List Entry) (is_pool : IsPool es) where
  raws : List RawEntry
  raws = map (raw_of es) es

  index_small : (p : Entry) → has es p ≡ true → index es p < 2 ^ 16
  index_small p h =
      let i = has_index es p h in
      let below : i.0 < 1 + units es = seek_below 1 es p i.0 i.1 in
      subst (λ (n : ℕ). n < 2 ^ 16) (sym (ap found i.1)) (omega (arith, below, is_pool.count))

  -- at the index of an entry it stands, with the indices of its parts
  stands : (p : Entry) → has es p ≡ true → raw_at 1 (map (raw_of es) es) (index es p) ≡ Some (raw_of es p)
  stands p h =
      let i = has_index es p h in
      ap (raw_at 1 (map (raw_of es) es)) (ap found i.1)
      ∙ raw_at_map es 1 es i.0 p (entry_from_seek 1 es p i.0 i.1)

  part : (e p : Entry) → has es e ≡ true → has (parts e) p ≡ true → raw_at 1 (map (raw_of es) es) (index es p) ≡ Some (raw_of es p)
  part e p h g = stands p (is_pool.whole e h p g)

  class_name : (c : List ℕ) → has es (entry.Class c) ≡ true
      → class_in (map (raw_of es) es) (raw_at 1 (map (raw_of es) es) (index es (entry.Class c))) ≡ c
  class_name c h =
      ap (class_in (map (raw_of es) es)) (stands (entry.Class c) h)
      ∙ ap (text_in (map (raw_of es) es)) (part (entry.Class c) (entry.Utf8 c) h (has_first (entry.Utf8 c) []))

  pair_name : (n d : List ℕ) → has es (entry.NameAndType n d) ≡ true
      → name_in (map (raw_of es) es) (raw_at 1 (map (raw_of es) es) (index es (entry.NameAndType n d))) ≡ n
  pair_name n d h =
      ap (name_in (map (raw_of es) es)) (stands (entry.NameAndType n d) h)
      ∙ ap (text_in (map (raw_of es) es))
      (part (entry.NameAndType n d) (entry.Utf8 n) h (has_first (entry.Utf8 n) (entry.Utf8 d ∷ [])))

  pair_descriptor : (n d : List ℕ) → has es (entry.NameAndType n d) ≡ true
      → descriptor_in (map (raw_of es) es) (raw_at 1 (map (raw_of es) es) (index es (entry.NameAndType n d))) ≡ d
  pair_descriptor n d h =
      ap (descriptor_in (map (raw_of es) es)) (stands (entry.NameAndType n d) h)
      ∙ ap (text_in (map (raw_of es) es))
      (part (entry.NameAndType n d) (entry.Utf8 d) h
      (has_next (entry.Utf8 d) (entry.Utf8 n) (entry.Utf8 d ∷ []) (has_first (entry.Utf8 d) [])))

  -- an entry with its indices stands for the entry
  content_again : (e : Entry) → has es e ≡ true → entry_of (map (raw_of es) es) (raw_of es e) ≡ e
  content_again (entry.Utf8 t) h = refl
  content_again (entry.Int n) h = refl
  content_again (entry.Long n) h = refl
  content_again (entry.Class n) h =
      ap (λ (o : Option RawEntry). entry.Class (text_in (map (raw_of es) es) o))
      (part (entry.Class n) (entry.Utf8 n) h (has_first (entry.Utf8 n) []))
  content_again (entry.Text t) h =
      ap (λ (o : Option RawEntry). entry.Text (text_in (map (raw_of es) es) o))
      (part (entry.Text t) (entry.Utf8 t) h (has_first (entry.Utf8 t) []))
  content_again (entry.Field c n d) h =
      let class_there = is_pool.whole (entry.Field c n d) h (entry.Class c) (has_first (entry.Class c) (entry.NameAndType n d ∷ [])) in
      let pair_there = is_pool.whole (entry.Field c n d) h (entry.NameAndType n d)
      (has_next (entry.NameAndType n d) (entry.Class c) (entry.NameAndType n d ∷ []) (has_first (entry.NameAndType n d) [])) in
      cc (class_name c class_there, pair_name n d pair_there, pair_descriptor n d pair_there)
  content_again (entry.Method c n d) h =
      let class_there = is_pool.whole (entry.Method c n d) h (entry.Class c) (has_first (entry.Class c) (entry.NameAndType n d ∷ [])) in
      let pair_there = is_pool.whole (entry.Method c n d) h (entry.NameAndType n d)
      (has_next (entry.NameAndType n d) (entry.Class c) (entry.NameAndType n d ∷ []) (has_first (entry.NameAndType n d) [])) in
      cc (class_name c class_there, pair_name n d pair_there, pair_descriptor n d pair_there)
  content_again (entry.InterfaceMethod c n d) h =
      let class_there = is_pool.whole (entry.InterfaceMethod c n d) h (entry.Class c) (has_first (entry.Class c) (entry.NameAndType n d ∷ [])) in
      let pair_there = is_pool.whole (entry.InterfaceMethod c n d) h (entry.NameAndType n d)
      (has_next (entry.NameAndType n d) (entry.Class c) (entry.NameAndType n d ∷ []) (has_first (entry.NameAndType n d) [])) in
      cc (class_name c class_there, pair_name n d pair_there, pair_descriptor n d pair_there)
  content_again (entry.NameAndType n d) h =
      let first = part (entry.NameAndType n d) (entry.Utf8 n) h (has_first (entry.Utf8 n) (entry.Utf8 d ∷ [])) in
      let second = part (entry.NameAndType n d) (entry.Utf8 d) h
      (has_next (entry.Utf8 d) (entry.Utf8 n) (entry.Utf8 d ∷ []) (has_first (entry.Utf8 d) [])) in
      ap (λ (o : Option RawEntry). entry.NameAndType (text_in (map (raw_of es) es) o)
      (text_in (map (raw_of es) es) (raw_at 1 (map (raw_of es) es) (index es (entry.Utf8 d))))) first
      ∙ ap (λ (o : Option RawEntry). entry.NameAndType n (text_in (map (raw_of es) es) o)) second

  -- ---- each fits

  module _ (count : ℕ) where
    kind_is : (kind : RawEntry → Bool) (p : Entry) → has es p ≡ true → kind (raw_of es p) ≡ true
        → is_kind (map (raw_of es) es) count kind (index es p) (raw_at 1 (map (raw_of es) es) (index es p)) ≡ true
    kind_is kind p h is = ap (is_kind (map (raw_of es) es) count kind (index es p)) (stands p h) ∙ is

    pair_is : (other : List ℕ → Bool) (n d : List ℕ) → has es (entry.NameAndType n d) ≡ true → not (other d) ≡ true
        → is_kind (map (raw_of es) es) count (is_pair (map (raw_of es) es) count other) (index es (entry.NameAndType n d))
        (raw_at 1 (map (raw_of es) es) (index es (entry.NameAndType n d))) ≡ true
    pair_is other n d h is =
        kind_is (is_pair (map (raw_of es) es) count other) (entry.NameAndType n d) h
        (ap (text_keeps (map (raw_of es) es) count (λ t. not (other t)))
        (part (entry.NameAndType n d) (entry.Utf8 d) h
        (has_next (entry.Utf8 d) (entry.Utf8 n) (entry.Utf8 d ∷ []) (has_first (entry.Utf8 d) []))) ∙ is)

    each_fits : (e : Entry) → has es e ≡ true → IsEntry e → fits (map (raw_of es) es) count (raw_of es e) ≡ true
    each_fits (entry.Utf8 t) h a = refl
    each_fits (entry.Int n) h a = refl
    each_fits (entry.Long n) h a = refl
    each_fits (entry.Class n) h a =
        kind_is (is_text (map (raw_of es) es) count is_name) (entry.Utf8 n)
        (is_pool.whole (entry.Class n) h (entry.Utf8 n) (has_first (entry.Utf8 n) [])) a
    each_fits (entry.Text t) h a =
        kind_is (is_text (map (raw_of es) es) count (λ t. true)) (entry.Utf8 t)
        (is_pool.whole (entry.Text t) h (entry.Utf8 t) (has_first (entry.Utf8 t) [])) refl
    each_fits (entry.Field c n d) h a =
        both _ _
        (kind_is (is_class (map (raw_of es) es) count) (entry.Class c)
        (is_pool.whole (entry.Field c n d) h (entry.Class c) (has_first (entry.Class c) (entry.NameAndType n d ∷ []))) refl)
        (pair_is is_method_descriptor n d (is_pool.whole (entry.Field c n d) h (entry.NameAndType n d)
        (has_next (entry.NameAndType n d) (entry.Class c) (entry.NameAndType n d ∷ []) (has_first (entry.NameAndType n d) [])))
        (unless (is_method_descriptor d) (λ g. not_both d a g)))
    each_fits (entry.Method c n d) h a =
        both _ _
        (kind_is (is_class (map (raw_of es) es) count) (entry.Class c)
        (is_pool.whole (entry.Method c n d) h (entry.Class c) (has_first (entry.Class c) (entry.NameAndType n d ∷ []))) refl)
        (pair_is is_field_descriptor n d (is_pool.whole (entry.Method c n d) h (entry.NameAndType n d)
        (has_next (entry.NameAndType n d) (entry.Class c) (entry.NameAndType n d ∷ []) (has_first (entry.NameAndType n d) [])))
        (unless (is_field_descriptor d) (λ g. not_both d g a)))
    each_fits (entry.InterfaceMethod c n d) h a =
        both _ _
        (kind_is (is_class (map (raw_of es) es) count) (entry.Class c)
        (is_pool.whole (entry.InterfaceMethod c n d) h (entry.Class c) (has_first (entry.Class c) (entry.NameAndType n d ∷ []))) refl)
        (pair_is is_field_descriptor n d (is_pool.whole (entry.InterfaceMethod c n d) h (entry.NameAndType n d)
        (has_next (entry.NameAndType n d) (entry.Class c) (entry.NameAndType n d ∷ []) (has_first (entry.NameAndType n d) [])))
        (unless (is_field_descriptor d) (λ g. not_both d g a)))
    each_fits (entry.NameAndType n d) h a =
        both _ _
        (kind_is (is_text (map (raw_of es) es) count is_name) (entry.Utf8 n)
        (is_pool.whole (entry.NameAndType n d) h (entry.Utf8 n) (has_first (entry.Utf8 n) (entry.Utf8 d ∷ []))) a.0)
        (kind_is (is_text (map (raw_of es) es) count (λ t. is_field_descriptor t || is_method_descriptor t)) (entry.Utf8 d)
        (is_pool.whole (entry.NameAndType n d) h (entry.Utf8 d)
        (has_next (entry.Utf8 d) (entry.Utf8 n) (entry.Utf8 d ∷ []) (has_first (entry.Utf8 d) []))) a.1)

  -- ---- reading them

  none_like : (front : List Entry) (e : Entry) → has es e ≡ true → ((y : Entry) → has front y ≡ true → has es y ≡ true)
      → has front e ≡ false → list_any (same_raw (raw_of es e)) (map (raw_of es) front) ≡ false
  none_like [] e h within isn't = refl
  none_like (x ∷ front) e h within isn't =
      by (same_raw (raw_of es e) (raw_of es x)) refl (same e x) refl isn't
      (λ g. none_like front e h (λ y q. within y (has_next y x front q)) g)
    where
      by : (b : Bool) → same_raw (raw_of es e) (raw_of es x) ≡ b → (c : Bool) → same e x ≡ c → (c || has front e) ≡ false
          → (has front e ≡ false → list_any (same_raw (raw_of es e)) (map (raw_of es) front) ≡ false)
          → (b || list_any (same_raw (raw_of es e)) (map (raw_of es) front)) ≡ false
      by b is true equal g later = absurd (true≢false g)
      by false is false equal g later = later g
      by true is false equal g later =
          let like : raw_of es e ≡ raw_of es x = same_raw_is (raw_of es e) (raw_of es x) is in
          let e_is : e ≡ x = sym (content_again e h) ∙ ap (entry_of (map (raw_of es) es)) like
          ∙ content_again x (within x (has_first x front)) in
          absurd (true≢false (sym (same_self e) ∙ ap (same e) e_is ∙ equal))

  read_again : (e : Entry) → has es e ≡ true → (t b : ℕ) (bytes : List ℕ)
      → raw_entry.read (spot t b (cp_info es e ++ bytes)) ≡ Ok (raw_of es e, spot t b bytes)
  unfolding count_mentions
  read_again e h t b bytes =
      let fit = entry_each es e is_pool.entries h in
      let allowed = raw_allowed es e fit (λ p g. index_small p (is_pool.whole e h p g)) in
      let count : count_mentions [] (mentions (raw_entry.spell (raw_of es e))) b ≡ Some b =
      ap (λ (ms : List Entry). count_mentions [] ms b) (no_mentions (raw_of es e)) in
      ap (λ (l : List ℕ). raw_entry.read (spot t b (l ++ bytes))) (sym (raw_spelled [] es e fit))
      ∙ (lawful_raw []).only (raw_of es e) t b b bytes allowed count

  stepped : (at left : ℕ) (before : List RawEntry) (o : Result (RawEntry × Spot) ℕ) (more : RawEntry → Spot → Stretch)
      (r : RawEntry) (rest : Spot) → o ≡ Ok (r, rest) → is_refused left before r ≡ false
      → behind_raw at left before o more ≡ in_front (at, r) (more r rest)
  stepped at left before o more r rest is kept =
      ap (λ (o : Result (RawEntry × Spot) ℕ). behind_raw at left before o more) is
      ∙ ap (λ (b : Bool). cond b (stopped at) (in_front (at, r) (more r rest))) kept

  -- what is read of the last entries
  pub record ReadAgain (l : List Entry) (t b : ℕ) (bytes : List ℕ) (x : Stretch) : Type 0 where
    pub raws_are : raws_of x.0 ≡ map (raw_of es) l
    pub behind : x.1 ≡ Ok (spot t b bytes)

  raws_again : (n left : ℕ) (front l : List Entry) (t b : ℕ) (bytes : List ℕ) → front ++ l ≡ es → left ≡ units l → left ≤ n
      → ReadAgain l t b bytes (raws_at n left (map (raw_of es) front) (spot t b (flat_map (cp_info es) l ++ bytes)))
  unfolding raws_at
  raws_again n zero front [] t b bytes split left_is enough = record { raws_are = refl; behind = refl }
  raws_again n (suc left) front [] t b bytes split left_is enough = absurd (omega (arith, left_is))
  raws_again n zero front (e ∷ l) t b bytes split left_is enough = absurd (omega (arith, left_is, size_some e))
  raws_again zero (suc left) front (e ∷ l) t b bytes split left_is enough = absurd (omega (arith, enough))
  raws_again (suc n) (suc left) front (e ∷ l) t b bytes split left_is enough =
      let here_has : has es e ≡ true = ap (λ (m : List Entry). has m e) (sym split) ∙ has_middle front l e in
      let rest_bytes = flat_map (cp_info es) l ++ bytes in
      let at = here (spot t b (flat_map (cp_info es) (e ∷ l) ++ bytes)) in
      let read : raw_entry.read (spot t b (flat_map (cp_info es) (e ∷ l) ++ bytes))
      ≡ Ok (raw_of es e, spot t b (flat_map (cp_info es) l ++ bytes)) =
      ap (λ (m : List ℕ). raw_entry.read (spot t b m)) (append_assoc (cp_info es e) (flat_map (cp_info es) l) bytes)
      ∙ read_again e here_has t b (flat_map (cp_info es) l ++ bytes) in
      let fresh : has front e ≡ false =
      not_before front l e (subst AreDifferent (sym split) is_pool.different) in
      let unlike = none_like front e here_has (λ y h. ap (λ (m : List Entry). has m y) (sym split) ∙ has_before front (e ∷ l) y h) fresh in
      let size_is = raw_of_size es e in
      let room : ltb (suc left) (raw_size (raw_of es e)) ≡ false =
      le-ltb (suc left) (raw_size (raw_of es e)) (omega (arith, left_is, size_is)) in
      let kept : is_refused (suc left) (map (raw_of es) front) (raw_of es e) ≡ false =
      ap (λ (y : Bool). y || list_any (same_raw (raw_of es e)) (map (raw_of es) front)) room ∙ unlike in
      let some = size_some e in
      let later = raws_again n (suc left - raw_size (raw_of es e)) (front ++ e ∷ []) l t b bytes
      (append_assoc front (e ∷ []) l ∙ split) (omega (arith, left_is, size_is)) (omega (arith, enough, size_is, some)) in
      let whole : raws_at n (suc left - raw_size (raw_of es e)) (map (raw_of es) front ++ raw_of es e ∷ [])
      (spot t b (flat_map (cp_info es) l ++ bytes))
      ≡ raws_at n (suc left - raw_size (raw_of es e)) (map (raw_of es) (front ++ e ∷ []))
      (spot t b (flat_map (cp_info es) l ++ bytes)) =
      ap (λ (m : List RawEntry). raws_at n (suc left - raw_size (raw_of es e)) m
      (spot t b (flat_map (cp_info es) l ++ bytes))) (sym (map_push (raw_of es) front e)) in
      let is = stepped at (suc left) (map (raw_of es) front)
      (raw_entry.read (spot t b (flat_map (cp_info es) (e ∷ l) ++ bytes)))
      (λ r rest. raws_at n (suc left - raw_size r) (map (raw_of es) front ++ r ∷ []) rest) (raw_of es e)
      (spot t b (flat_map (cp_info es) l ++ bytes)) read kept
      ∙ ap (in_front (at, raw_of es e)) whole in
      subst (λ (x : Stretch). ReadAgain (e ∷ l) t b bytes x) (sym is)
      record { raws_are = ap (λ (m : List RawEntry). raw_of es e ∷ m) later.raws_are; behind = later.behind }

  -- ---- judging them

  misfit_none : (count : ℕ) (l : List Entry) (xs : List (ℕ × RawEntry)) → raws_of xs ≡ map (raw_of es) l
      → ((y : Entry) → has l y ≡ true → has es y ≡ true) → first_misfit (map (raw_of es) es) count xs ≡ None
  misfit_none count [] [] same within = refl
  misfit_none count [] (x ∷ xs) same within = absurd cc
  misfit_none count (e ∷ l) [] same within = absurd cc
  misfit_none count (e ∷ l) (x ∷ xs) same within =
      let h : has es e ≡ true = within e (has_first e l) in
      let head : x.1 ≡ raw_of es e = cc in
      let tail : raws_of xs ≡ map (raw_of es) l = cc in
      let fit : fits (map (raw_of es) es) count x.1 ≡ true =
      ap (fits (map (raw_of es) es) count) head ∙ each_fits count e h (entry_each es e is_pool.entries h) in
      ap (λ (b : Bool). cond b (first_misfit (map (raw_of es) es) count xs) (Some x.0)) fit
      ∙ misfit_none count l xs tail (λ y g. within y (has_next y e l g))

  contents_again : (l : List Entry) → ((y : Entry) → has l y ≡ true → has es y ≡ true)
      → map (entry_of (map (raw_of es) es)) (map (raw_of es) l) ≡ l
  contents_again [] within = refl
  contents_again (e ∷ l) within =
      ap (λ (y : Entry). y ∷ map (entry_of (map (raw_of es) es)) (map (raw_of es) l))
      (content_again e (within e (has_first e l)))
      ∙ ap (λ (m : List Entry). e ∷ m) (contents_again l (λ y g. within y (has_next y e l g)))

  judged_again : (x : Stretch) (t b : ℕ) (bytes : List ℕ) (n : ℕ) → ReadAgain es t b bytes x
      → judged n x ≡ Ok (es, spot t b bytes)
  judged_again x t b bytes n r =
      let none : first_misfit (raws_of x.0) n x.0 ≡ None =
      ap (λ (m : List RawEntry). first_misfit m n x.0) r.raws_are
      ∙ misfit_none n es x.0 r.raws_are (λ y h. h) in
      ap (unless_misfit x) none
      ∙ ap (λ (o : Result Spot ℕ). o >>= λ s. done {A = List Entry × Spot} (entries_of (raws_of x.0), s)) r.behind
      ∙ ap (λ (m : List RawEntry). done {A = List Entry × Spot} (entries_of m, spot t b bytes)) r.raws_are
      ∙ ap (λ (m : List Entry). done {A = List Entry × Spot} (m, spot t b bytes)) (contents_again es (λ y h. h))

pub pool_is_read : PoolIsRead
unfolding pool_at
pool_is_read es t b bytes is_pool =
    let first : number_at w16 (λ n. nat_lt 0 n) (spot t b (pool es ++ bytes))
    ≡ Ok (1 + units es, spot t b (flat_map (cp_info es) es ++ bytes)) =
    ap (λ (l : List ℕ). number_at w16 (λ n. nat_lt 0 n) (spot t b l))
    (append_assoc (to_be_bytes w16 (1 + units es)) (flat_map (cp_info es) es) bytes)
    ∙ number_again w16 half (λ n. nat_lt 0 n) (1 + units es) t b (flat_map (cp_info es) es ++ bytes) is_pool.count
    (lt-ltb 0 (1 + units es) (omega arith)) in
    let less : 1 + units es - 1 ≡ units es = omega arith in
    let again = raws_again es is_pool (units es) (units es) [] es t b bytes refl refl (omega arith) in
    ap (λ (r : Result (ℕ × Spot) ℕ). r >>= λ n. judged n.0 (raws_at (n.0 - 1) (n.0 - 1) [] n.1)) first
    ∙ ap (λ (n : ℕ). judged (1 + units es) (raws_at n n [] (spot t b (flat_map (cp_info es) es ++ bytes)))) less
    ∙ judged_again es is_pool (raws_at (units es) (units es) [] (spot t b (flat_map (cp_info es) es ++ bytes))) t b bytes
    (1 + units es) again
