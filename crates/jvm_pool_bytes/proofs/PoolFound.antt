-- What is read as a pool is one, and spelled so.
use Rattle.std.proofs.Common.{◌≡◌, ℕ, zero, suc, ◌+◌, ◌-◌, ◌^◌, ◌<◌, ◌≤◌, Bool, true, false, ◌||◌, cond, List, [], ◌∷◌, ◌++◌, map, Option, Some, None, is_some, Result, Ok, Err, refl, sym, ap, subst, ◌∙◌, arith, append_assoc, true≢false, ◌⊎◌, inl, inr}
use Rattle.std.specs.Prelude.{nat_lt}
use Rattle.std.specs.Int.{w16, to_be_bytes}
use Rattle.std.specs.List.{flat_map, list_any, AllByRecursion}
use Rattle.std.proofs.lemmas.Bool.{ltb-true, ltb-false}
use Rattle.jvm_pool.specs.declared.entries.Entry.{Entry}
use Rattle.jvm_pool.specs.Entries.{same, units}
use Rattle.jvm_pool.specs.Mentions.{has, seek, count_mentions}
use Rattle.jvm_pool.specs.Numbering.{AreDifferent}
use Rattle.jvm_pool.proofs.Same.{same_is}
use Rattle.jvm_pool.proofs.Seeking.{has_seek}
use Rattle.jvm_pieces.specs.Pieces.{pieces, mentions}
use Rattle.jvm_class_formats.specs.Formats.{Spot, here, number_at, spelled_in, u4}
use Rattle.jvm_class_formats.specs.Lawful.{IsBytes}
use Rattle.jvm_class_formats.proofs.Steps.{bind_ok, done_is, some_is, half}
use Rattle.jvm_class_formats.proofs.Parts.{number_takes}
use Rattle.jvm_pool_bytes.specs.declared.raws.RawEntry.{RawEntry}
use Rattle.jvm_pool_bytes.specs.declared.raws.RawEntry.TheVariants as raw
use Rattle.jvm_pool_bytes.specs.Spelling.{parts, cp_info, pool, IsEntry, AreEntries, IsPool}
use Rattle.jvm_pool_bytes.specs.Laws.{PoolIsSpelled}
use Rattle.jvm_pool_bytes.specs.Raws.{tag_of_number, raw_size, raw_units, indices, same_raw, raw_at, entry_of}
use Rattle.jvm_pool_bytes.specs.Reading.{int_inside, long_inside, u8, raw_entry, Stretch, in_front, is_refused, behind_raw, raws_at, fits, first_misfit, raws_of, entries_of, unless_misfit, judged, pool_at}
use Rattle.jvm_pool_bytes.proofs.RawLaws.{lawful_raw}
use Rattle.jvm_pool_bytes.proofs.Standing.{raw_size_some, raw_from, raw_here, raw_later, raw_cases, Fresh, one_place, Aligned, level, aligned, AllFit, same_content}
use Rattle.jvm_pool_bytes.proofs.Found.{entries_units, level_low, index_stands, raw_again}
use Rattle.jvm_pool_bytes.proofs.Spelled.{raw_spelled, entry_fits}

-- ---- the entries, as they stand

no_number : (o : Option ℕ) → mentions (spelled_in u4 o) ≡ []
no_number None = refl
no_number (Some n) = refl

no_long : (o : Option ℕ) → mentions (spelled_in u8 o) ≡ []
no_long None = refl
no_long (Some n) = refl

-- an entry has no mentions: it has indices, in bytes
pub no_mentions : (r : RawEntry) → mentions (raw_entry.spell r) ≡ []
unfolding tag_of_number
no_mentions (raw.Utf8 t) = refl
no_mentions (raw.Int n) = no_number (int_inside (raw.Int n))
no_mentions (raw.Long n) = no_long (long_inside (raw.Long n))
no_mentions (raw.Class i) = refl
no_mentions (raw.Text i) = refl
no_mentions (raw.Field i j) = refl
no_mentions (raw.Method i j) = refl
no_mentions (raw.InterfaceMethod i j) = refl
no_mentions (raw.NameAndType i j) = refl

abbrev pub raw_bytes : RawEntry → List ℕ
raw_bytes r = pieces [] (raw_entry.spell r)

-- what reading entries tells
pub record Read (before : List RawEntry) (left : ℕ) (s : Spot) (rs : List RawEntry) (t : Spot) : Type 0 where
  pub fresh : Fresh before rs
  pub units_are : raw_units rs ≡ left
  pub allowed : AllByRecursion raw_entry.allows rs
  pub bytes : s.bytes ≡ flat_map raw_bytes rs ++ t.bytes
  pub counter : s.counter ≡ t.counter
  pub total : s.total ≡ t.total
  pub rest_fits : IsBytes t.bytes

abbrev stopped : ℕ → Result Spot ℕ
stopped at = Err at

no_stop : (at : ℕ) (t : Spot) → stopped at ≡ Ok t → ⊥
no_stop at t e = absurd cc

or_false : (a b : Bool) → (a || b) ≡ false → (a ≡ false) × (b ≡ false)
or_false false b h = (refl, h)
or_false true b h = absurd (true≢false h)

counted_none : (c d : ℕ) → count_mentions [] [] c ≡ Some d → c ≡ d
unfolding count_mentions
counted_none c d h = some_is c d h

raws_found : (n left : ℕ) (before : List RawEntry) (s t : Spot) → IsBytes s.bytes → (raws_at n left before s).1 ≡ Ok t
    → Read before left s (raws_of (raws_at n left before s).0) t
unfolding raws_at
raws_found n zero before s t fit h =
    subst (λ (y : Spot). Read before zero s [] y) (done_is s t h)
    record { fresh = tt; units_are = refl; allowed = tt; bytes = refl; counter = refl; total = refl; rest_fits = fit }
raws_found zero (suc left) before s t fit h = absurd (no_stop (here s) t h)
raws_found (suc n) (suc left) before s t fit h =
    by (raw_entry.read s) refl h
    (λ y f g. raws_found n (suc left - raw_size y.0) (before ++ y.0 ∷ []) y.1 t f g)
  where
    Later : Type 0
    Later = (y : RawEntry × Spot) → IsBytes y.1.bytes
        → (raws_at n (suc left - raw_size y.0) (before ++ y.0 ∷ []) y.1).1 ≡ Ok t
        → Read (before ++ y.0 ∷ []) (suc left - raw_size y.0) y.1
        (raws_of (raws_at n (suc left - raw_size y.0) (before ++ y.0 ∷ []) y.1).0) t

    more : RawEntry → Spot → Stretch
    more r rest = raws_at n (suc left - raw_size r) (before ++ r ∷ []) rest

    next : (y : RawEntry × Spot) (b : Bool) → raw_entry.read s ≡ Ok y → is_refused (suc left) before y.0 ≡ b
        → (cond b ([], Err (here s)) (in_front (here s, y.0) (more y.0 y.1))).1 ≡ Ok t → Later
        → Read before (suc left) s (raws_of (cond b ([], Err (here s)) (in_front (here s, y.0) (more y.0 y.1))).0) t
    next y true is refused g later = absurd (no_stop (here s) t g)
    next y false is refused g later =
        let p = or_false (nat_lt (suc left) (raw_size y.0)) (list_any (same_raw y.0) before) refused in
        let a = (lawful_raw []).found s y fit is in
        let k = a.1 in
        let rest = later y k.rest_fits g in
        let small : raw_size y.0 ≤ suc left = ltb-false (suc left) (raw_size y.0) p.0 in
        let fewer = rest.units_are in
        record {
          fresh = (p.1, rest.fresh);
          units_are = omega (arith, small, fewer);
          allowed = (a.0, rest.allowed);
          bytes = k.parts ∙ ap (λ (l : List ℕ). raw_bytes y.0 ++ l) rest.bytes
              ∙ sym (append_assoc (raw_bytes y.0) (flat_map raw_bytes (raws_of (more y.0 y.1).0)) t.bytes);
          counter = counted_none s.counter y.1.counter
              (ap (λ (ms : List Entry). count_mentions [] ms s.counter) (sym (no_mentions y.0)) ∙ k.counted) ∙ rest.counter;
          total = k.total ∙ rest.total;
          rest_fits = rest.rest_fits;
        }

    by : (r : Result (RawEntry × Spot) ℕ) → raw_entry.read s ≡ r
        → (behind_raw (here s) (suc left) before r more).1 ≡ Ok t → Later
        → Read before (suc left) s (raws_of (behind_raw (here s) (suc left) before r more).0) t
    by (Err at) is g later = absurd (no_stop at t g)
    by (Ok y) is g later = next y (is_refused (suc left) before y.0) is refl g later

-- ---- what they stand for

fit_each : (all : List RawEntry) (count k : ℕ) (xs : List (ℕ × RawEntry)) → first_misfit all count xs ≡ None → (i : ℕ)
    (r : RawEntry) → raw_at k (raws_of xs) i ≡ Some r → fits all count r ≡ true
unfolding raw_at
fit_each all count k [] h i r at = absurd cc
fit_each all count k (x ∷ xs) h i r at =
    by (fits all count x.1) refl h
    (λ g p. fit_each all count (k + raw_size x.1) xs g i r p)
  where
    by : (b : Bool) → fits all count x.1 ≡ b → cond b (first_misfit all count xs) (Some x.0) ≡ None
        → (first_misfit all count xs ≡ None → raw_at (k + raw_size x.1) (raws_of xs) i ≡ Some r → fits all count r ≡ true)
        → fits all count r ≡ true
    by false is h later = absurd cc
    by true is h later = one (raw_cases k x.1 (raws_of xs) i r at)
      where
        one : ((i ≡ k) × (x.1 ≡ r)) ⊎ (raw_at (k + raw_size x.1) (raws_of xs) i ≡ Some r) → fits all count r ≡ true
        one (inl e) = ap (fits all count) (sym e.1) ∙ is
        one (inr p) = later h p

allowed_each : (k : ℕ) (rs : List RawEntry) → AllByRecursion raw_entry.allows rs → (i : ℕ) (r : RawEntry)
    → raw_at k rs i ≡ Some r → raw_entry.allows r
unfolding raw_at
allowed_each k [] a i r at = absurd cc
allowed_each k (x ∷ rs) a i r at = by (raw_cases k x rs i r at) (λ p. allowed_each (k + raw_size x) rs a.1 i r p)
  where
    by : ((i ≡ k) × (x ≡ r)) ⊎ (raw_at (k + raw_size x) rs i ≡ Some r)
        → (raw_at (k + raw_size x) rs i ≡ Some r → raw_entry.allows r) → raw_entry.allows r
    by (inl e) later = subst raw_entry.allows e.1 a.0
    by (inr p) later = later p

-- the last of the entries, from an index on
abbrev Within : List RawEntry → ℕ → List RawEntry → Type 0
Within all k rs = (i : ℕ) (r : RawEntry) → raw_at k rs i ≡ Some r → raw_at 1 all i ≡ Some r

within_rest : (all : List RawEntry) (k : ℕ) (x : RawEntry) (rs : List RawEntry) → Within all k (x ∷ rs)
    → Within all (k + raw_size x) rs
within_rest all k x rs w i r h = w i r (raw_later k x rs i r h)

not_has : (all : List RawEntry) (k : ℕ) (rs : List RawEntry) (e : Entry)
    → ((i : ℕ) (r : RawEntry) → raw_at k rs i ≡ Some r → e ≡ entry_of all r → ⊥) → has (map (entry_of all) rs) e ≡ false
not_has all k [] e none = refl
not_has all k (x ∷ rs) e none =
    by (same e (entry_of all x)) refl
    (not_has all (k + raw_size x) rs e (λ i r h. none i r (raw_later k x rs i r h)))
  where
    by : (b : Bool) → same e (entry_of all x) ≡ b → has (map (entry_of all) rs) e ≡ false
        → (same e (entry_of all x) || has (map (entry_of all) rs) e) ≡ false
    by true is later = absurd (none k x (raw_here k x rs) (same_is e (entry_of all x) is))
    by false is later = rw is later

does_have : (all : List RawEntry) (k : ℕ) (rs : List RawEntry) (e : Entry) → has (map (entry_of all) rs) e ≡ true
    → (i : ℕ) × (r : RawEntry) × (raw_at k rs i ≡ Some r) × (e ≡ entry_of all r)
does_have all k [] e h = absurd (true≢false (sym h))
does_have all k (x ∷ rs) e h =
    by (same e (entry_of all x)) refl h (λ g. does_have all (k + raw_size x) rs e g)
  where
    by : (b : Bool) → same e (entry_of all x) ≡ b → (b || has (map (entry_of all) rs) e) ≡ true
        → (has (map (entry_of all) rs) e ≡ true
        → (i : ℕ) × (r : RawEntry) × (raw_at (k + raw_size x) rs i ≡ Some r) × (e ≡ entry_of all r))
        → (i : ℕ) × (r : RawEntry) × (raw_at k (x ∷ rs) i ≡ Some r) × (e ≡ entry_of all r)
    by true is g later = (k, x, raw_here k x rs, same_is e (entry_of all x) is)
    by false is g later = let p = later g in (p.0, p.1, raw_later k x rs p.0 p.1 p.2, p.3)

part_index : (all : List RawEntry) → Fresh [] all → AllFit all → (n : ℕ) (ps : List Entry) (is : List ℕ) (p : Entry)
    → Aligned all n ps is → has ps p ≡ true → (j : ℕ) × (seek 1 (entries_of all) p ≡ Some j)
part_index all fresh fit n [] is p a h = absurd (true≢false (sym h))
part_index all fresh fit n (x ∷ ps) [] p a h = absurd a
part_index all fresh fit n (x ∷ ps) (i ∷ is) p a h =
    by (same p x) refl h (λ g. part_index all fresh fit n ps is p a.1 g)
  where
    by : (b : Bool) → same p x ≡ b → (b || has ps p) ≡ true
        → (has ps p ≡ true → (j : ℕ) × (seek 1 (entries_of all) p ≡ Some j))
        → (j : ℕ) × (seek 1 (entries_of all) p ≡ Some j)
    by true is g later =
        let q = a.0 in
        (i, ap (seek 1 (entries_of all)) (same_is p x is ∙ sym q.is) ∙ index_stands all fresh fit i q.of q.at)
    by false is g later = later g

module _ (all : List RawEntry) (fresh : Fresh [] all) (fit : AllFit all) (allowed : AllByRecursion raw_entry.allows all)
  where
    each_fits : (i : ℕ) (r : RawEntry) → raw_at 1 all i ≡ Some r → IsEntry (entry_of all r)
    each_fits i r h = entry_fits all fit r (allowed_each 1 all allowed i r h) (fit i r h)

    are_entries : (k : ℕ) (rs : List RawEntry) → Within all k rs → AreEntries (map (entry_of all) rs)
    are_entries k [] w = tt
    are_entries k (x ∷ rs) w =
        (each_fits k x (w k x (raw_here k x rs)), are_entries (k + raw_size x) rs (within_rest all k x rs w))

    are_different : (k : ℕ) (rs : List RawEntry) → Within all k rs → AreDifferent (map (entry_of all) rs)
    are_different k [] w = tt
    are_different k (x ∷ rs) w = (
      not_has all (k + raw_size x) rs (entry_of all x) (λ i r h e. twice i r h e),
      are_different (k + raw_size x) rs (within_rest all k x rs w),
    )
      where
        twice : (i : ℕ) (r : RawEntry) → raw_at (k + raw_size x) rs i ≡ Some r → entry_of all x ≡ entry_of all r → ⊥
        twice i r h e =
            let first : raw_at 1 all k ≡ Some x = w k x (raw_here k x rs) in
            let second : raw_at 1 all i ≡ Some r = w i r (raw_later k x rs i r h) in
            let q : x ≡ r = same_content all fresh fit 3 x r k i first second (level_low all x) (level_low all r) e in
            let place : k ≡ i = one_place 1 [] all k i r fresh (first ∙ ap (λ (y : RawEntry). Some y) q) second in
            let from : k + raw_size x ≤ i = raw_from (k + raw_size x) rs i r h in
            omega (arith, from, raw_size_some x, place)

    is_whole : (e p : Entry) → has (entries_of all) e ≡ true → has (parts e) p ≡ true → has (entries_of all) p ≡ true
    is_whole e p h g =
        let r = does_have all 1 all e h in
        let part : has (parts (entry_of all r.1)) p ≡ true = ap (λ (y : Entry). has (parts y) p) (sym r.3) ∙ g in
        let j = part_index all fresh fit (level all r.1) (parts (entry_of all r.1)) (indices r.1) p
        (aligned all r.1 (fit r.0 r.1 r.2)) part in
        has_seek 1 (entries_of all) p ∙ ap is_some j.1

    spelled_each : (k : ℕ) (rs : List RawEntry) → Within all k rs
        → flat_map raw_bytes rs ≡ flat_map (cp_info (entries_of all)) (map (entry_of all) rs)
    spelled_each k [] w = refl
    spelled_each k (x ∷ rs) w =
        let at : raw_at 1 all k ≡ Some x = w k x (raw_here k x rs) in
        let first : raw_bytes x ≡ cp_info (entries_of all) (entry_of all x) =
        ap raw_bytes (sym (raw_again all fresh fit k x at))
        ∙ raw_spelled [] (entries_of all) (entry_of all x) (each_fits k x at) in
        let others = spelled_each (k + raw_size x) rs (within_rest all k x rs w) in
        ap (λ (l : List ℕ). l ++ flat_map raw_bytes rs) first
        ∙ ap (λ (l : List ℕ). cp_info (entries_of all) (entry_of all x) ++ l) others

-- ---- the pool

judged_ok : (x : Stretch) (o : Option ℕ) (y : List Entry × Spot) → unless_misfit x o ≡ Ok y
    → (t : Spot) × (o ≡ None) × (x.1 ≡ Ok t) × ((entries_of (raws_of x.0), t) ≡ y)
judged_ok x (Some at) y h = absurd cc
judged_ok x None y h =
    let t = bind_ok x.1 (λ s. Ok (entries_of (raws_of x.0), s)) y h in
    (t.0, refl, t.1, done_is (entries_of (raws_of x.0), t.0) y t.2)

pub pool_is_spelled : PoolIsSpelled
unfolding pool_at
pool_is_spelled s es rest fit h =
    let n = bind_ok (number_at w16 (λ n. nat_lt 0 n) s) (λ n. judged n.0 (raws_at (n.0 - 1) (n.0 - 1) [] n.1)) (es, rest) h in
    let k = number_takes w16 half (λ n. nat_lt 0 n) s n.0 fit n.1 in
    let x = raws_at (n.0.0 - 1) (n.0.0 - 1) [] n.0.1 in
    let j = judged_ok x (first_misfit (raws_of x.0) n.0.0 x.0) (es, rest) n.2 in
    let r = raws_found (n.0.0 - 1) (n.0.0 - 1) [] n.0.1 j.0 k.rest_fits j.2 in
    let some : 0 < n.0.0 = ltb-true 0 n.0.0 k.kept in
    let are = r.units_are in
    let count : n.0.0 ≡ 1 + raw_units (raws_of x.0) = omega (arith, some, are) in
    whole (raws_of x.0) x.0 n.0.0 n.0.1 j.0 es rest refl count j.1 r (ap (λ (p : List Entry × Spot). p.0) j.3)
    (ap (λ (p : List Entry × Spot). p.1) j.3) k.bytes k.counter k.total k.below
  where
    whole : (all : List RawEntry) (xs : List (ℕ × RawEntry)) (n : ℕ) (u t : Spot) (es : List Entry) (rest : Spot)
        → all ≡ raws_of xs → n ≡ 1 + raw_units all → first_misfit all n xs ≡ None → Read [] (n - 1) u all t
        → entries_of all ≡ es → t ≡ rest → s.bytes ≡ to_be_bytes w16 n ++ u.bytes → s.counter ≡ u.counter
        → s.total ≡ u.total → n < 2 ^ 16
        → IsPool es × (s.bytes ≡ pool es ++ rest.bytes) × (s.counter ≡ rest.counter) × (s.total ≡ rest.total)
    whole all xs n u t es rest same count none r are behind bytes counter total below =
        let fit : AllFit all = λ i q at.
        subst (λ (m : ℕ). fits all m q ≡ true) count
        (fit_each all n 1 xs none i q (ap (λ (l : List RawEntry). raw_at 1 l i) (sym same) ∙ at)) in
        let w : Within all 1 all = λ i q at. at in
        let units_are : units (entries_of all) ≡ raw_units all = entries_units all all in
        subst (λ (l : List Entry). IsPool l × (s.bytes ≡ pool l ++ rest.bytes) × (s.counter ≡ rest.counter) × (s.total ≡ rest.total))
        are (
          record {
            entries = are_entries all r.fresh fit r.allowed 1 all w;
            different = are_different all r.fresh fit r.allowed 1 all w;
            whole = λ e h p g. is_whole all r.fresh fit r.allowed e p h g;
            count = omega (arith, count, units_are, below);
          },
          bytes ∙ ap (λ (m : ℕ). to_be_bytes w16 m ++ u.bytes) (count ∙ ap (λ (m : ℕ). 1 + m) (sym units_are))
              ∙ ap (λ (l : List ℕ). to_be_bytes w16 (1 + units (entries_of all)) ++ l)
              (r.bytes ∙ ap (λ (l : List ℕ). l ++ t.bytes) (spelled_each all r.fresh fit r.allowed 1 all w)
              ∙ ap (λ (y : Spot). flat_map (cp_info (entries_of all)) (entries_of all) ++ y.bytes) behind)
              ∙ sym (append_assoc (to_be_bytes w16 (1 + units (entries_of all)))
              (flat_map (cp_info (entries_of all)) (entries_of all)) rest.bytes),
          counter ∙ r.counter ∙ ap (λ (y : Spot). y.counter) behind,
          total ∙ r.total ∙ ap (λ (y : Spot). y.total) behind,
        )
