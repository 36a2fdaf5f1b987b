-- Entries read one behind the other.
use Rattle.std.proofs.Common.{◌≡◌, ℕ, zero, suc, ◌+◌, ◌-◌, ◌≤◌, ◌<◌, Bool, true, false, cond, List, [], ◌∷◌, ◌++◌, length, Result, Ok, Err, refl, sym, ap, ◌∙◌, append_assoc, arith, subst}
use Rattle.std.specs.List.{list_any, zip}
use Rattle.std.proofs.lemmas.List.{append-nil, map_push}
use Rattle.indexmap.specs.IndexSet.{insert_key}
use Rattle.jvm_class_formats.specs.Formats.{Spot, here}
use Rattle.jvm_class_formats.specs.Reads.{Reads}
use Rattle.jvm_class_formats.specs.declared.errors.ReadErr.{ReadErr}
use Rattle.jvm_class_formats.specs.declared.errors.ReadErr.TheVariants.{BadBytes}
use Rattle.jvm_class_formats.proofs.Steps.{done_is}
use Rattle.jvm_pool_bytes.specs.declared.raws.RawEntry.{RawEntry}
use Rattle.jvm_pool_bytes.specs.declared.raws.RawEntry.TheVariants.{Utf8, Int, Long, Class, Text, Field, Method, InterfaceMethod, NameAndType}
use Rattle.jvm_pool_bytes.specs.contracts.raws.RawEntryPartialEq.TheImpl as derived
use Rattle.jvm_pool_bytes.specs.Raws.{same_raw, raw_size, raw_starts, raw_units}
use Rattle.jvm_pool_bytes.specs.Reading.{Stretch, raw_entry, raws_of, raws_at, behind_raw, in_front, is_refused}
use Rattle.jvm_pool_bytes.proofs.Standing.{raw_size_some}
use Rattle.jvm_pool_reader.specs.Checked.{AreNumbered, checked, onto}

-- ---- the set's words in those of the entries

derived_is : (x y : RawEntry) → derived.eq-value.it x y ≡ same_raw x y
derived_is (Utf8 t) (Utf8 u) = refl
derived_is (Int m) (Int n) = refl
derived_is (Long m) (Long n) = refl
derived_is (Class m) (Class n) = refl
derived_is (Text t) (Text u) = refl
derived_is (Field i j) (Field k l) = refl
derived_is (Method i j) (Method k l) = refl
derived_is (InterfaceMethod i j) (InterfaceMethod k l) = refl
derived_is (NameAndType i j) (NameAndType k l) = refl
derived_is _ _ = refl

pub any_is : (r : RawEntry) (rs : List RawEntry) → list_any (derived.eq-value.it r) rs ≡ list_any (same_raw r) rs
any_is r [] = refl
any_is r (x ∷ rs) = rw (derived_is r x, any_is r rs) refl

pub inserted : (r : RawEntry) (rs : List RawEntry) → list_any (same_raw r) rs ≡ false
    → insert_key derived.eq-value.it rs r ≡ rs ++ r ∷ []
inserted r rs new = ap (λ (b : Bool). cond b rs (rs ++ r ∷ [])) (any_is r rs ∙ new)

-- ---- entries with their offsets

raws_zip : (os : List ℕ) (rs : List RawEntry) → length rs ≡ length os → raws_of (zip os rs) ≡ rs
raws_zip [] [] h = refl
raws_zip [] (r ∷ rs) h = absurd (omega (arith, h))
raws_zip (o ∷ os) [] h = absurd (omega (arith, h))
raws_zip (o ∷ os) (r ∷ rs) h = ap (λ (l : List RawEntry). r ∷ l) (raws_zip os rs (omega (arith, h)))

pub seen_raws : (os : List ℕ) (rs : List RawEntry) (xs : List (ℕ × RawEntry)) → length rs ≡ length os
    → zip os rs ≡ xs → rs ≡ raws_of xs
seen_raws os rs xs h is = sym (raws_zip os rs h) ∙ ap raws_of is

pub zip_push : (os : List ℕ) (rs : List RawEntry) (o : ℕ) (r : RawEntry) → length rs ≡ length os
    → zip (os ++ o ∷ []) (rs ++ r ∷ []) ≡ zip os rs ++ (o, r) ∷ []
zip_push [] [] o r h = refl
zip_push [] (x ∷ rs) o r h = absurd (omega (arith, h))
zip_push (y ∷ os) [] o r h = absurd (omega (arith, h))
zip_push (y ∷ os) (x ∷ rs) o r h =
    ap (λ (l : List (ℕ × RawEntry)). (y, x) ∷ l) (zip_push os rs o r (omega (arith, h)))

length_push : {A : Type 0} (l : List A) (x : A) → length (l ++ x ∷ []) ≡ suc (length l)
length_push [] x = refl
length_push (y ∷ l) x = ap suc (length_push l x)

pub raw_units-push : (rs : List RawEntry) (r : RawEntry) → raw_units (rs ++ r ∷ []) ≡ raw_units rs + raw_size r
raw_units-push [] r = omega arith
raw_units-push (x ∷ rs) r = let h = raw_units-push rs r in omega (arith, h)

raw_starts-push : (k : ℕ) (rs : List RawEntry) (r : RawEntry)
    → raw_starts k (rs ++ r ∷ []) ≡ raw_starts k rs ++ (k + raw_units rs) ∷ []
raw_starts-push k [] r = ap (λ (j : ℕ). j ∷ []) (omega arith)
raw_starts-push k (x ∷ rs) r =
    ap (λ (js : List ℕ). k ∷ js)
    (raw_starts-push (k + raw_size x) rs r
    ∙ ap (λ (j : ℕ). raw_starts (k + raw_size x) rs ++ j ∷ []) (omega arith))

pub numbered_push : (os : List ℕ) (rs : List RawEntry) (ss : List ℕ) (next more at : ℕ) (r : RawEntry)
    → AreNumbered os rs ss next → more ≡ next + raw_size r → more ≤ 65535
    → AreNumbered (os ++ at ∷ []) (rs ++ r ∷ []) (ss ++ next ∷ []) more
numbered_push os rs ss next more at r are is le = record {
  each = length_push rs r ∙ ap suc are.each ∙ sym (length_push os at);
  started = ap (λ (l : List ℕ). l ++ next ∷ []) are.started
      ∙ ap (λ (n : ℕ). raw_starts 1 rs ++ n ∷ []) are.counted ∙ sym (raw_starts-push 1 rs r);
  counted = omega (arith, is, are.counted, raw_units-push rs r);
  fits = le;
}

-- ---- the next entry

not_took : (at : ℕ) (x : RawEntry × Spot) → ◌≡◌ {A = Result (RawEntry × Spot) ℕ} (Err at) (Ok x) → ⊥
not_took at x h = absurd cc

behind_ok : (at left : ℕ) (before : List RawEntry) (o : Result (RawEntry × Spot) ℕ) (more : RawEntry → Spot → Stretch)
    (x : RawEntry × Spot) → checked at left before o ≡ Ok x
    → behind_raw at left before o more ≡ in_front (at, x.0) (more x.0 x.1)
behind_ok at left before (Err e) more x h = absurd (not_took e x h)
behind_ok at left before (Ok y) more x h = by (is_refused left before y.0) h
  where
    by : (b : Bool) → ◌≡◌ {A = Result (RawEntry × Spot) ℕ} (cond b (Err at) (Ok y)) (Ok x)
        → ◌≡◌ {A = Stretch} (cond b ([], Err at) (in_front (at, y.0) (more y.0 y.1))) (in_front (at, x.0) (more x.0 x.1))
    by true h = absurd (not_took at x h)
    by false h = ap (λ (z : RawEntry × Spot). in_front (at, z.0) (more z.0 z.1)) (done_is y x h)

behind_err : (at left : ℕ) (before : List RawEntry) (o : Result (RawEntry × Spot) ℕ) (more : RawEntry → Spot → Stretch)
    (stop : ℕ) → checked at left before o ≡ Err stop → behind_raw at left before o more ≡ ([], Err stop)
behind_err at left before (Err e) more stop h = let i : e ≡ stop = cc in ap (λ (n : ℕ). ([], Err n)) i
behind_err at left before (Ok y) more stop h = by (is_refused left before y.0) h
  where
    by : (b : Bool) → ◌≡◌ {A = Result (RawEntry × Spot) ℕ} (cond b (Err at) (Ok y)) (Err stop)
        → ◌≡◌ {A = Stretch} (cond b ([], Err at) (in_front (at, y.0) (more y.0 y.1))) ([], Err stop)
    by true h = let i : at ≡ stop = cc in ap (λ (n : ℕ). ([], Err n)) i
    by false h = absurd (not_took stop y (sym h))

-- what an entry that was taken keeps
pub kept : (at left : ℕ) (before : List RawEntry) (o : Result (RawEntry × Spot) ℕ) (r : RawEntry) (t : Spot)
    → checked at left before o ≡ Ok (r, t) → is_refused left before r ≡ false
kept at left before (Err e) r t h = absurd (not_took e (r, t) h)
kept at left before (Ok y) r t h = by (is_refused left before y.0) refl h
  where
    by : (b : Bool) → is_refused left before y.0 ≡ b
        → ◌≡◌ {A = Result (RawEntry × Spot) ℕ} (cond b (Err at) (Ok y)) (Ok (r, t)) → is_refused left before r ≡ false
    by true is h = absurd (not_took at (r, t) h)
    by false is h =
        ap (λ (z : RawEntry × Spot). is_refused left before z.0) (sym (done_is y (r, t) h)) ∙ is

-- ---- one behind the other

-- what is read from a place, seen behind what was read before it
pub record Stretching (units : ℕ) (start : Spot) (xs : List (ℕ × RawEntry)) (s : Spot) : Type 0 where
  pub bound : ℕ
  pub room : units - raw_units (raws_of xs) ≤ bound
  pub is : onto xs (raws_at bound (units - raw_units (raws_of xs)) (raws_of xs) s) ≡ raws_at units units [] start

pub stretch_starts : (units : ℕ) (s : Spot) → Stretching units s [] s
stretch_starts units s = record {
  bound = units;
  room = omega arith;
  is = (let z : units - 0 ≡ units = omega arith in
      ap (λ (n : ℕ). onto [] (raws_at units n [] s)) z);
}

raws_push : (xs : List (ℕ × RawEntry)) (x : ℕ × RawEntry) → raws_of (xs ++ x ∷ []) ≡ raws_of xs ++ x.1 ∷ []
raws_push xs x = map_push (λ (y : ℕ × RawEntry). y.1) xs x

onto_push : (xs : List (ℕ × RawEntry)) (x : ℕ × RawEntry) (more : Stretch)
    → onto (xs ++ x ∷ []) more ≡ onto xs (in_front x more)
onto_push xs x more =
    ap (λ (l : List (ℕ × RawEntry)). (l, more.1)) (append_assoc xs (x ∷ []) more.0)

one_more : (n left : ℕ) (xs : List (ℕ × RawEntry)) (s t : Spot) (r : RawEntry) (o : Stretch) → 0 < left → left ≤ n
    → checked (here s) left (raws_of xs) (raw_entry.read s) ≡ Ok (r, t) → onto xs (raws_at n left (raws_of xs) s) ≡ o
    → (m : ℕ) × (left - raw_size r ≤ m)
    × (onto (xs ++ (here s, r) ∷ []) (raws_at m (left - raw_size r) (raws_of xs ++ r ∷ []) t) ≡ o)
unfolding raws_at
one_more zero left xs s t r o lt le h is = absurd (omega (arith, lt, le))
one_more (suc n) zero xs s t r o lt le h is = absurd (omega (arith, lt))
one_more (suc n) (suc left) xs s t r o lt le h is = (
  n,
  omega (arith, raw_size_some r, le),
  onto_push xs (here s, r) (raws_at n (suc left - raw_size r) (raws_of xs ++ r ∷ []) t)
      ∙ ap (onto xs) (sym (behind_ok (here s) (suc left) (raws_of xs) (raw_entry.read s)
      (λ r rest. raws_at n (suc left - raw_size r) (raws_of xs ++ r ∷ []) rest) (r, t) h))
      ∙ is,
)

no_more : (n left : ℕ) (xs : List (ℕ × RawEntry)) (s : Spot) (at : ℕ) (o : Stretch) → 0 < left → left ≤ n
    → checked (here s) left (raws_of xs) (raw_entry.read s) ≡ Err at → onto xs (raws_at n left (raws_of xs) s) ≡ o
    → o ≡ (xs, Err at)
unfolding raws_at
no_more zero left xs s at o lt le h is = absurd (omega (arith, lt, le))
no_more (suc n) zero xs s at o lt le h is = absurd (omega (arith, lt))
no_more (suc n) (suc left) xs s at o lt le h is =
    sym is
    ∙ ap (onto xs) (behind_err (here s) (suc left) (raws_of xs) (raw_entry.read s)
    (λ r rest. raws_at n (suc left - raw_size r) (raws_of xs ++ r ∷ []) rest) at h)
    ∙ ap (λ (l : List (ℕ × RawEntry)). (l, Err at)) (append-nil xs)

none_left : (n left : ℕ) (xs : List (ℕ × RawEntry)) (s : Spot) (o : Stretch) → left ≡ 0
    → onto xs (raws_at n left (raws_of xs) s) ≡ o → o ≡ (xs, Ok s)
unfolding raws_at
none_left n zero xs s o h is = sym is ∙ ap (λ (l : List (ℕ × RawEntry)). (l, Ok s)) (append-nil xs)
none_left n (suc left) xs s o h is = absurd (omega (arith, h))

pub smaller : (units next at : ℕ) (xs ys : List (ℕ × RawEntry)) (r : RawEntry) → next ≡ 1 + raw_units (raws_of xs)
    → next ≤ units → ys ≡ xs ++ (at, r) ∷ [] → units - raw_units (raws_of ys) < units - raw_units (raws_of xs)
smaller units next at xs ys r numbered some is =
    let more : raw_units (raws_of ys) ≡ raw_units (raws_of xs) + raw_size r =
    ap (λ (l : List (ℕ × RawEntry)). raw_units (raws_of l)) is ∙ ap raw_units (raws_push xs (at, r))
    ∙ raw_units-push (raws_of xs) r in
    omega (arith, numbered, some, more, raw_size_some r)

module _ (units : ℕ) (start : Spot) (xs : List (ℕ × RawEntry)) (s : Spot) (left next : ℕ) (so_far : Stretching units start xs s)
    (numbered : next ≡ 1 + raw_units (raws_of xs)) where
  pub goes_on : (t : Spot) (r : RawEntry) → next ≤ units → left ≡ units + 1 - next
      → checked (here s) left (raws_of xs) (raw_entry.read s) ≡ Ok (r, t)
      → Stretching units start (xs ++ (here s, r) ∷ []) t
  goes_on t r some is h =
      let l : left ≡ units - raw_units (raws_of xs) = omega (arith, numbered, is) in
      let g : checked (here s) (units - raw_units (raws_of xs)) (raws_of xs) (raw_entry.read s) ≡ Ok (r, t) =
      ap (λ (n : ℕ). checked (here s) n (raws_of xs) (raw_entry.read s)) (sym l) ∙ h in
      let m = one_more so_far.bound (units - raw_units (raws_of xs)) xs s t r (raws_at units units [] start)
      (omega (arith, some, numbered)) so_far.room g so_far.is in
      let fewer : units - raw_units (raws_of (xs ++ (here s, r) ∷ [])) ≡ units - raw_units (raws_of xs) - raw_size r =
      ap (λ (rs : List RawEntry). units - raw_units rs) (raws_push xs (here s, r))
      ∙ (let u = raw_units-push (raws_of xs) r in omega (arith, u)) in
      record {
        bound = m.0;
        room = let le = m.1 in omega (arith, fewer, le);
        is = ap (λ (n : ℕ). onto (xs ++ (here s, r) ∷ []) (raws_at m.0 n (raws_of (xs ++ (here s, r) ∷ [])) t)) fewer
            ∙ ap (λ (rs : List RawEntry). onto (xs ++ (here s, r) ∷ [])
            (raws_at m.0 (units - raw_units (raws_of xs) - raw_size r) rs t)) (raws_push xs (here s, r))
            ∙ m.2;
      }

  pub stops : (e : ReadErr) (at : ℕ) → next ≤ units → left ≡ units + 1 - next → e ≡ BadBytes at
      → Reads (λ (x : RawEntry × Spot). (x.0, x.1)) (Err e) (checked (here s) left (raws_of xs) (raw_entry.read s))
      → (xs, Err at) ≡ raws_at units units [] start
  stops e at some is bad read =
      let h : checked (here s) left (raws_of xs) (raw_entry.read s) ≡ Err at =
      subst (λ (y : ReadErr). Reads (λ (x : RawEntry × Spot). (x.0, x.1)) (Err y)
      (checked (here s) left (raws_of xs) (raw_entry.read s))) bad read in
      let l : left ≡ units - raw_units (raws_of xs) = omega (arith, numbered, is) in
      let g : checked (here s) (units - raw_units (raws_of xs)) (raws_of xs) (raw_entry.read s) ≡ Err at =
      ap (λ (n : ℕ). checked (here s) n (raws_of xs) (raw_entry.read s)) (sym l) ∙ h in
      sym (no_more so_far.bound (units - raw_units (raws_of xs)) xs s at (raws_at units units [] start)
      (omega (arith, some, numbered)) so_far.room g so_far.is)

  pub ends : units < next → (xs, Ok s) ≡ raws_at units units [] start
  ends none =
      sym (none_left so_far.bound (units - raw_units (raws_of xs)) xs s (raws_at units units [] start)
      (omega (arith, none, numbered)) so_far.is)
