-- The map's words in the words of the pool, and the entry that starts at an index.
use Rattle.std.proofs.Common.{◌≡◌, ℕ, suc, ◌+◌, ◌<◌, ◌≤◌, Bool, true, false, cond, eqb, ◌||◌, List, [], ◌∷◌, length, get_or, Option, Some, None, option_map, slice_get, Result, Ok, Err, is_some, refl, sym, ap, ◌∙◌, arith, ◌⊎◌, inl, inr, zero}
use Rattle.std.specs.List.Sorted.{IsBinarySearchResult}
use Rattle.std.specs.Ordering.{nat_cmp}
use Rattle.std.specs.Result.{result_ok}
use Rattle.std.specs.Map.{lookup, keys_of, values_of}
use Rattle.std.proofs.lemmas.Bool.{cases_lt, eq-eqb, ne_eqb}
use Rattle.std.proofs.lemmas.List.Sorted.{searched}
use Rattle.std.proofs.lemmas.Option.{slice_get-map}
use Rattle.jvm_pool.specs.declared.entries.Entry.{Entry}
use Rattle.jvm_pool.specs.declared.entries.Entry.TheVariants.{Utf8, Int, Long, Class, Text, Field, Method, InterfaceMethod, NameAndType}
use Rattle.jvm_pool.specs.contracts.entries.EntryPartialEq.TheImpl as derived
use Rattle.jvm_pool.specs.Entries.{size, same}
use Rattle.jvm_pool.specs.Mentions.{has, seek}
use Rattle.jvm_pool.specs.Numbering.{starts, entry_at}
use Rattle.jvm_pool.proofs.Same.{same_is, size_some}
use Rattle.jvm_pool.proofs.Order.{seek_from}

derived_is : (x y : Entry) → derived.eq-value.it x y ≡ same x y
derived_is (Utf8 t) (Utf8 u) = refl
derived_is (Int m) (Int n) = refl
derived_is (Long m) (Long n) = refl
derived_is (Class m) (Class n) = refl
derived_is (Text t) (Text u) = refl
derived_is (Field b m d) (Field c n e) = refl
derived_is (Method b m d) (Method c n e) = refl
derived_is (InterfaceMethod b m d) (InterfaceMethod c n e) = refl
derived_is (NameAndType m d) (NameAndType n e) = refl
derived_is _ _ = refl

-- the map's answer for a key is the index of the entry
pub seek_is : (k : ℕ) (entries : List (Entry × ℕ)) (e : Entry) → values_of entries ≡ starts k (keys_of entries) → lookup (derived.eq-value.it e) entries ≡ seek k (keys_of entries) e
unfolding seek
seek_is k [] e h = refl
seek_is k (p ∷ entries) e h =
    let first : p.1 ≡ k = cc in
    let others : values_of entries ≡ starts (k + size p.0) (keys_of entries) = cc in
    rw (derived_is e p.0, seek_is (k + size p.0) entries e others, first) refl

pub has_seek : (k : ℕ) (es : List Entry) (e : Entry) → has es e ≡ is_some (seek k es e)
unfolding seek
has_seek k [] e = refl
has_seek k (x ∷ es) e = by (same e x) refl (has_seek (k + size x) es e)
  where
    by : (b : Bool) → same e x ≡ b → has es e ≡ is_some (seek (k + size x) es e) → (same e x || has es e) ≡ is_some (cond (same e x) (Some k) (seek (k + size x) es e))
    by true is later = rw is refl
    by false is later = rw is later

-- an entry starts at its index
pub entry_from_seek : (k : ℕ) (es : List Entry) (e : Entry) (i : ℕ) → seek k es e ≡ Some i → entry_at k es i ≡ Some e
unfolding seek entry_at
entry_from_seek k [] e i h = absurd cc
entry_from_seek k (x ∷ es) e i h = by (same e x) refl (λ r. entry_from_seek (k + size x) es e i r)
  where
    by : (b : Bool) → same e x ≡ b → (seek (k + size x) es e ≡ Some i → entry_at (k + size x) es i ≡ Some e) → cond (eqb i k) (Some x) (entry_at (k + size x) es i) ≡ Some e
    by true is later =
        let j : Some k ≡ Some i = sym (ap (λ (b : Bool). cond b (Some k) (seek (k + size x) es e)) is) ∙ h in
        let n : k ≡ i = cc in
        rw (eq-eqb i k (sym n)) (ap (λ (y : Entry). Some y) (sym (same_is e x is)))
    by false is later =
        let j : seek (k + size x) es e ≡ Some i = sym (ap (λ (b : Bool). cond b (Some k) (seek (k + size x) es e)) is) ∙ h in
        let low = seek_from (k + size x) es e i j in
        let apart : eqb i k ≡ false = ne_eqb i k (λ q. omega (arith, q, size_some x)) in
        rw apart (later j)

-- the indices rise
starts_low : (k : ℕ) (es : List Entry) (i : ℕ) → i < length (starts k es) → k ≤ get_or (starts k es) i 0
starts_low k [] i lt = absurd (omega arith)
starts_low k (e ∷ es) zero lt = omega arith
starts_low k (e ∷ es) (suc i) lt = omega (arith, starts_low (k + size e) es i (omega arith))

starts_rise : (k : ℕ) (es : List Entry) (i j : ℕ) → i ≤ j → j < length (starts k es) → get_or (starts k es) i 0 ≤ get_or (starts k es) j 0
starts_rise k [] i j le lt = absurd (omega arith)
starts_rise k (e ∷ es) zero j le lt = starts_low k (e ∷ es) j lt
starts_rise k (e ∷ es) (suc i) zero le lt = absurd (omega arith)
starts_rise k (e ∷ es) (suc i) (suc j) le lt = starts_rise (k + size e) es i j (omega arith) (omega arith)

no_entry : (k : ℕ) (es : List Entry) (x : ℕ) → ((i : ℕ) → i < length (starts k es) → get_or (starts k es) i 0 ≡ x → ⊥) → entry_at k es x ≡ None
unfolding entry_at
no_entry k [] x none = refl
no_entry k (e ∷ es) x none =
    let apart : eqb x k ≡ false = ne_eqb x k (λ q. none 0 (omega arith) (sym q)) in
    rw apart (no_entry (k + size e) es x (λ i lt q. none (suc i) (omega arith) q))

-- where a search among the indices finds none, no entry starts there
pub none_found : (es : List Entry) (vs : List ℕ) (x i : ℕ) → vs ≡ starts 1 es → IsBinarySearchResult (λ y. nat_cmp y x) vs (Err i) → entry_at 1 es x ≡ None
none_found es vs x i is h =
    let rise : (i j : ℕ) → i ≤ j → j < length vs → get_or vs i 0 ≤ get_or vs j 0 = rw is (starts_rise 1 es) in
    let r = searched vs x (Err i) h rise in
    let none : (j : ℕ) → j < length vs → get_or vs j 0 ≡ x → ⊥ = λ j lt q. by j lt q (cases_lt j i) r.1 r.2 in
    no_entry 1 es x (rw is at none)
  where
    by : (j : ℕ) → j < length vs → get_or vs j 0 ≡ x → (j < i) ⊎ (i ≤ j) → ((k : ℕ) → k < i → get_or vs k 0 < x) → ((k : ℕ) → i ≤ k → k < length vs → x < get_or vs k 0) → ⊥
    by j lt q (inl below) low high = omega (arith, low j below)
    by j lt q (inr above) low high = omega (arith, high j above lt)

pub none_if : (es : List Entry) (vs : List ℕ) (x : ℕ) (r : Result ℕ ℕ) (o : Option ℕ) → vs ≡ starts 1 es → IsBinarySearchResult (λ y. nat_cmp y x) vs r → o ≡ result_ok r → o ≡ None → entry_at 1 es x ≡ None
none_if es vs x (Ok i) o is h p q = let e : ◌≡◌ {A = Option ℕ} None (Some i) = sym q ∙ p in absurd cc
none_if es vs x (Err i) o is h p q = none_found es vs x i is h

-- the index that stands with an entry
pub start_is : (entries : List (Entry × ℕ)) (position : ℕ) (e : Entry) (start index : ℕ) → slice_get (values_of entries) position ≡ Some index → slice_get entries position ≡ Some (e, start) → start ≡ index
start_is entries position e start index at entry =
    let o : ◌≡◌ {A = Option ℕ} (Some start) (Some index) = sym (ap (option_map (λ (p : Entry × ℕ). p.1)) entry) ∙ sym (slice_get-map (λ (p : Entry × ℕ). p.1) entries position) ∙ at in
    cc
