-- A pool that grows entry by entry.
use Rattle.std.proofs.Common.{◌≡◌, ℕ, suc, ◌+◌, ◌<◌, ◌≤◌, Bool, true, false, not, ◌||◌, List, [], ◌∷◌, ◌++◌, length, take, drop, slice_get, zero, subst, Option, Some, None, Result, Ok, Err, is_some, refl, sym, ap, ◌∙◌, append_assoc, arith, true≢false}
use Rattle.std.specs.Map.{keys_of, values_of}
use Rattle.std.proofs.lemmas.List.{append-nil, map_push, take-map, take_at, take-append-drop, length-take-le}
use Rattle.indexmap.specs.IndexMap.{IndexMap, insert_entry}
use Rattle.indexmap.proofs.CallerLemmas.{insert_entry-new}
use Rattle.jvm_pool.specs.declared.entries.Entry.{Entry}
use Rattle.jvm_pool.specs.declared.errors.PoolErr.{PoolErr}
use Rattle.jvm_pool.specs.declared.errors.PoolErr.TheVariants.{Full, NoMemory}
use Rattle.jvm_pool.specs.contracts.entries.EntryPartialEq.TheImpl as derived
use Rattle.jvm_pool.specs.Entries.{size, behind, same, units}
use Rattle.jvm_pool.specs.Mentions.{has, seek, with_one, with_each, with_mention}
use Rattle.jvm_pool.specs.Numbering.{starts, AreDifferent, IsNumbered, Grows, GrowsErr}
use Rattle.jvm_pool.proofs.Order.{each_keeps, seek_past}
use Rattle.jvm_pool.proofs.Same.{same_is, same_self, units-append}
use Rattle.jvm_pool.proofs.Seeking.{seek_is, has_seek}

-- ---- one entry

none_from : {A : Type 0} (o : Option A) → is_some o ≡ false → o ≡ None
none_from None h = refl
none_from (Some x) h = absurd (true≢false h)

pub absent : (es : List Entry) (e : Entry) (b : Bool) (o : Option ℕ) → o ≡ seek 1 es e → b ≡ is_some o → b ≡ false → has es e ≡ false
absent es e b o found is not = has_seek 1 es e ∙ ap is_some (sym found) ∙ sym is ∙ not

pub present : (es : List Entry) (e : Entry) (b : Bool) (o : Option ℕ) → o ≡ seek 1 es e → b ≡ is_some o → b ≡ true → has es e ≡ true
present es e b o found is there = has_seek 1 es e ∙ ap is_some (sym found) ∙ sym is ∙ there

-- the entries of a map after a new entry
pub inserted : {S : Type 0} (m : IndexMap Entry ℕ S) (e : Entry) (i : ℕ) → values_of m.entries ≡ starts 1 (keys_of m.entries) → has (keys_of m.entries) e ≡ false
    → insert_entry derived.eq-value.it m.entries e i ≡ m.entries ++ (e, i) ∷ []
inserted m e i numbered new =
    insert_entry-new derived.eq-value.it m e i (seek_is 1 m.entries e numbered ∙ none_from (seek 1 (keys_of m.entries) e) (sym (has_seek 1 (keys_of m.entries) e) ∙ new))

starts-push : (k : ℕ) (es : List Entry) (e : Entry) → starts k (es ++ e ∷ []) ≡ starts k es ++ (k + units es) ∷ []
starts-push k [] e = ap (λ (j : ℕ). j ∷ []) (omega arith)
starts-push k (x ∷ es) e = ap (λ (js : List ℕ). k ∷ js) (starts-push (k + size x) es e ∙ ap (λ (j : ℕ). starts (k + size x) es ++ j ∷ []) (omega arith))

pub keys-push : (entries : List (Entry × ℕ)) (e : Entry) (i : ℕ) → keys_of (entries ++ (e, i) ∷ []) ≡ keys_of entries ++ e ∷ []
keys-push entries e i = map_push (λ (p : Entry × ℕ). p.0) entries (e, i)

pub numbered-push : (entries : List (Entry × ℕ)) (e : Entry) (count more : ℕ) → IsNumbered entries count → more ≡ count + size e → more < 65536 → IsNumbered (entries ++ (e, count) ∷ []) more
numbered-push entries e count more is sum fits = record {
  numbered =
      map_push (λ (p : Entry × ℕ). p.1) entries (e, count) ∙ ap (λ (l : List ℕ). l ++ count ∷ []) is.numbered ∙ ap (λ (n : ℕ). starts 1 (keys_of entries) ++ n ∷ []) is.counted
      ∙ sym (starts-push 1 (keys_of entries) e) ∙ ap (starts 1) (sym (keys-push entries e count));
  counted = rw (keys-push entries e count) (omega (arith, is.counted, units-append (keys_of entries) (e ∷ [])));
  fits = omega arith;
}

pub one_known : (es : List Entry) (e : Entry) → has es e ≡ true → es ≡ with_one e (λ es. es) es
one_known es e h = rw h refl

pub one_new : (es : List Entry) (e : Entry) → has es e ≡ false → es ++ e ∷ [] ≡ with_one e (λ es. es) es
one_new es e h = rw h refl

pub one_full : (es : List Entry) (e : Entry) (count : ℕ) → has es e ≡ false → count ≡ 1 + units es → 65535 < count + size e → GrowsErr es es (with_one e (λ es. es) es) Full
one_full es e count h is big = (rw h (omega (arith, units-append es (e ∷ []))), ([], sym (append-nil es)))

-- ---- the parts

pub each_extends : (ms es : List Entry) → (more : List Entry) × (with_each ms es ≡ es ++ more)
each_extends ms es = (each_keeps [] ms).extends es

-- an error in the middle is one for the whole
pub part_fails : (old mid new target whole : List Entry) (error : PoolErr) (x y : List Entry) → mid ≡ old ++ x → whole ≡ target ++ y → GrowsErr mid new target error → GrowsErr old new whole error
part_fails old mid new target whole Full x y m w h =
    (rw w (omega (arith, h.0, units-append target y)), (x ++ h.1.0, h.1.1 ∙ ap (λ (l : List Entry). l ++ h.1.0) m ∙ append_assoc old x h.1.0))
part_fails old mid new target whole NoMemory x y m w h = (x ++ h.0, h.1 ∙ ap (λ (l : List Entry). l ++ h.0) m ∙ append_assoc old x h.0)

pub no_memory : (old new target more : List Entry) (error : PoolErr) → new ≡ old ++ more → error ≡ NoMemory → GrowsErr old new target error
no_memory old new target more Full is e = absurd cc
no_memory old new target more NoMemory is e = (more, is)

-- the target of a new entry with its parts
pub mention_new : (es : List Entry) (e : Entry) → has es e ≡ false → with_mention e es ≡ with_each (behind e) (es ++ e ∷ [])
mention_new es e h = rw h refl

pub mention_known : (es : List Entry) (e : Entry) → has es e ≡ true → es ≡ with_mention e es
mention_known es e h = rw h refl

pub each_fails : (old mid new all items rest : List Entry) (e : Entry) (error : PoolErr) → with_each items mid ≡ with_each all old → (more : List Entry) × (mid ≡ old ++ more) → items ≡ e ∷ rest
    → GrowsErr mid new (with_one e (λ es. es) mid) error → GrowsErr old new (with_each all old) error
each_fails old mid new all items rest e error left grown is h =
    let y = each_extends rest (with_one e (λ es. es) mid) in
    part_fails old mid new (with_one e (λ es. es) mid) (with_each all old) error grown.0 y.0 grown.1 (sym left ∙ ap (λ l. with_each l mid) is ∙ y.1) h

pub new_fails : (old new : List Entry) (e : Entry) (error : PoolErr) → has old e ≡ false → GrowsErr old new (with_one e (λ es. es) old) error → GrowsErr old new (with_mention e old) error
new_fails old new e error absent h =
    let y = each_extends (behind e) (old ++ e ∷ []) in
    part_fails old old new (with_one e (λ es. es) old) (with_mention e old) error [] y.0 (sym (append-nil old)) (mention_new old e absent ∙ y.1 ∙ ap (λ l. l ++ y.0) (one_new old e absent)) h

pub then_each : {T : Type 0} (old mid new : List Entry) (e : Entry) (r : Result T PoolErr) → has old e ≡ false → mid ≡ with_one e (λ es. es) old → Grows mid new (with_each (behind e) mid) r → Grows old new (with_mention e old) r
then_each old mid new e (Ok x) absent is h = h ∙ ap (with_each (behind e)) (is ∙ sym (one_new old e absent)) ∙ sym (mention_new old e absent)
then_each old mid new e (Err error) absent is h =
    part_fails old mid new (with_each (behind e) mid) (with_mention e old) error (e ∷ []) [] (is ∙ sym (one_new old e absent))
    (mention_new old e absent ∙ ap (with_each (behind e)) (one_new old e absent ∙ sym is) ∙ sym (append-nil (with_each (behind e) mid))) h

-- a new entry has the next index
pub new_index : (es : List Entry) (e : Entry) → has es e ≡ false → seek 1 (with_mention e es) e ≡ Some (1 + units es)
unfolding seek
new_index es e h =
    let x = each_extends (behind e) (es ++ e ∷ []) in
    let whole : with_mention e es ≡ es ++ (e ∷ x.0) = mention_new es e h ∙ x.1 ∙ append_assoc es (e ∷ []) x.0 in
    ap (λ (l : List Entry). seek 1 l e) whole ∙ seek_past 1 es (e ∷ x.0) e h ∙ rw (same_self e) refl

-- ---- back to the first entries

starts-append : (k : ℕ) (a b : List Entry) → starts k (a ++ b) ≡ starts k a ++ starts (k + units a) b
starts-append k [] b = ap (λ (j : ℕ). starts j b) (omega arith)
starts-append k (e ∷ a) b = ap (λ (l : List ℕ). k ∷ l) (starts-append (k + size e) a b ∙ ap (λ (j : ℕ). starts (k + size e) a ++ starts j b) (omega arith))

length-starts : (k : ℕ) (a : List Entry) → length (starts k a) ≡ length a
length-starts k [] = refl
length-starts k (e ∷ a) = ap suc (length-starts (k + size e) a)

pub grown_front : (old new target : List Entry) (error : PoolErr) → GrowsErr old new target error → (more : List Entry) × (new ≡ old ++ more)
grown_front old new target Full h = h.1
grown_front old new target NoMemory h = h

pub cut_keys : (entries : List (Entry × ℕ)) (old more : List Entry) (n : ℕ) → keys_of entries ≡ old ++ more → n ≡ length old → keys_of (take n entries) ≡ old
cut_keys entries old more n front len = sym (take-map (λ (p : Entry × ℕ). p.0) n entries) ∙ ap (take n) front ∙ take_at old more n (sym len)

pub cut_back : (entries : List (Entry × ℕ)) (count many : ℕ) (old more : List Entry) (n : ℕ) → keys_of entries ≡ old ++ more → n ≡ length old → IsNumbered entries many → count ≡ 1 + units old → count < 65536
    → IsNumbered (take n entries) count
cut_back entries count many old more n front len is counted fits =
    let keys-is = cut_keys entries old more n front len in
    let split : values_of entries ≡ starts 1 old ++ starts (1 + units old) more = is.numbered ∙ ap (starts 1) front ∙ starts-append 1 old more in
    let values-is : values_of (take n entries) ≡ starts 1 old = sym (take-map (λ (p : Entry × ℕ). p.1) n entries) ∙ ap (take n) split ∙ take_at (starts 1 old) (starts (1 + units old) more) n (length-starts 1 old ∙ sym len) in
    record { numbered = values-is ∙ ap (starts 1) (sym keys-is); counted = counted ∙ ap (λ (l : List Entry). 1 + units l) (sym keys-is); fits = omega arith }

-- ---- the first entries of a pool

-- where an entry starts
start_at : (k : ℕ) (es : List Entry) (n start : ℕ) → slice_get (starts k es) n ≡ Some start → (n < length es) × (start ≡ k + units (take n es))
start_at k [] n start at = absurd cc
start_at k (e ∷ es) zero start at = let first : k ≡ start = cc in (omega arith, omega arith)
start_at k (e ∷ es) (suc n) start at = let p = start_at (k + size e) es n start at in (omega (arith, p.0), omega (arith, p.1))

none_behind : (k : ℕ) (es : List Entry) (n : ℕ) → slice_get (starts k es) n ≡ None → es ≡ take n es
none_behind k [] zero at = refl
none_behind k [] (suc n) at = refl
none_behind k (e ∷ es) zero at = absurd cc
none_behind k (e ∷ es) (suc n) at = ap (λ l. e ∷ l) (none_behind (k + size e) es n at)

-- where no entry is at a position, all are before it
pub all_before : (entries : List (Entry × ℕ)) (many n : ℕ) → IsNumbered entries many → slice_get (values_of entries) n ≡ None → keys_of entries ≡ take n (keys_of entries)
all_before entries many n is at = none_behind 1 (keys_of entries) n (ap (λ l. slice_get l n) (sym is.numbered) ∙ at)

-- the first entries of a numbered pool, where there are more
pub cut_numbered : (entries : List (Entry × ℕ)) (many start n : ℕ) → IsNumbered entries many → slice_get (values_of entries) n ≡ Some start
    → IsNumbered (take n entries) start
cut_numbered entries many start n is at =
    let whole : keys_of entries ≡ take n (keys_of entries) ++ drop n (keys_of entries) = sym (take-append-drop n (keys_of entries)) in
    let p = start_at 1 (keys_of entries) n start (ap (λ l. slice_get l n) (sym is.numbered) ∙ at) in
    let len : n ≡ length (take n (keys_of entries)) = sym (length-take-le n (keys_of entries) (omega (arith, p.0))) in
    let all : units (keys_of entries) ≡ units (take n (keys_of entries)) + units (drop n (keys_of entries)) =
    ap units whole ∙ units-append (take n (keys_of entries)) (drop n (keys_of entries)) in
    cut_back entries start many (take n (keys_of entries)) (drop n (keys_of entries)) n whole len is p.1 (omega (arith, is.counted, is.fits, p.1))

-- ---- entries that differ

has_middle : (front rest : List Entry) (e : Entry) → has (front ++ e ∷ rest) e ≡ true
has_middle [] rest e = ap (λ (b : Bool). b || has rest e) (same_self e)
has_middle (x ∷ front) rest e = ap (λ (b : Bool). same e x || b) (has_middle front rest e) ∙ or_true (same e x)
  where
    or_true : (b : Bool) → (b || true) ≡ true
    or_true true = refl
    or_true false = refl

-- an entry isn't among those before it
pub not_before : (front rest : List Entry) (e : Entry) → AreDifferent (front ++ e ∷ rest) → has front e ≡ false
not_before [] rest e h = refl
not_before (x ∷ front) rest e h = by (same e x) refl (not_before front rest e h.1)
  where
    by : (b : Bool) → same e x ≡ b → has front e ≡ false → (same e x || has front e) ≡ false
    by true is later =
        absurd (true≢false (sym (has_middle front rest e) ∙ ap (λ y. has (front ++ e ∷ rest) y) (same_is e x is) ∙ h.0))
    by false is later = ap (λ (b : Bool). b || has front e) is ∙ later

-- the next of a file's entries is absent, and there is room for it
pub next_absent : (pool left rest all : List Entry) (e : Entry) → pool ++ left ≡ all → left ≡ e ∷ rest → AreDifferent all → has pool e ≡ false
next_absent pool left rest all e whole next differ = not_before pool rest e (subst AreDifferent (sym whole ∙ ap (λ l. pool ++ l) next) differ)

pub next_fits : (pool left rest all : List Entry) (e : Entry) → pool ++ left ≡ all → left ≡ e ∷ rest → 1 + units all ≤ 65535 → 1 + units (pool ++ e ∷ []) ≤ 65535
next_fits pool left rest all e whole next fits =
    omega (arith, ap units whole, ap units next, units-append pool left, units-append pool (e ∷ []))

pub next_pushed : (pool next left rest all : List Entry) (e : Entry) → pool ++ left ≡ all → left ≡ e ∷ rest → next ≡ pool ++ e ∷ [] → next ++ rest ≡ all
next_pushed pool next left rest all e whole is pushed =
    ap (λ l. l ++ rest) pushed ∙ append_assoc pool (e ∷ []) rest ∙ ap (λ l. pool ++ l) (sym is) ∙ whole
