-- Entries in the order of their first mention are a pool.
use Rattle.std.proofs.Common.{◌≡◌, ℕ, ◌+◌, ◌^◌, ◌<◌, ◌≤◌, Bool, true, false, ◌||◌, cond, eqb, List, [], ◌∷◌, Option, Some, None, is_some, refl, sym, ap, subst, ◌∙◌, arith, true≢false}
use Rattle.std.proofs.lemmas.Bool.{eqb-true, eq-eqb, ne_eqb}
use Rattle.jvm_pool.specs.declared.entries.Entry.{Entry}
use Rattle.jvm_pool.specs.declared.entries.Entry.TheVariants as entry
use Rattle.jvm_pool.specs.Entries.{size, behind, units}
use Rattle.jvm_pool.specs.Mentions.{has, seek, with_mentions}
use Rattle.jvm_pool.specs.Numbering.{AreDifferent, entry_at}
use Rattle.jvm_pool.proofs.Closed.{parts_stand}
use Rattle.jvm_pool.proofs.Kept.{one_index}
use Rattle.jvm_pool.proofs.Order.{in_order_is, seek_from}
use Rattle.jvm_pool.proofs.Same.{size_some}
use Rattle.jvm_pool.proofs.Seeking.{entry_from_seek, has_seek}
use Rattle.jvm_pool_bytes.specs.Laws.{OrderIsPool}
use Rattle.jvm_pool_bytes.specs.Spelling.{parts, AreEntries, IsPool}

has_place : (k : ℕ) (es : List Entry) (p : Entry) → has es p ≡ true → (i : ℕ) × (seek k es p ≡ Some i)
has_place k es p h = by (seek k es p) refl
  where
    by : (o : Option ℕ) → seek k es p ≡ o → (i : ℕ) × (seek k es p ≡ Some i)
    by (Some i) is = (i, is)
    by None is = absurd (true≢false (sym h ∙ (has_seek k es p ∙ ap is_some is)))

-- ---- none stands twice

entry_from : (k : ℕ) (es : List Entry) (i : ℕ) (e : Entry) → entry_at k es i ≡ Some e → k ≤ i
unfolding entry_at
entry_from k [] i e h = absurd cc
entry_from k (x ∷ es) i e h = by (eqb i k) refl h (λ g. entry_from (k + size x) es i e g)
  where
    by : (b : Bool) → eqb i k ≡ b → cond b (Some x) (entry_at (k + size x) es i) ≡ Some e
        → (entry_at (k + size x) es i ≡ Some e → k + size x ≤ i) → k ≤ i
    by true is h later = let e : i ≡ k = eqb-true i k is in omega (arith, e)
    by false is h later = omega (arith, later h)

entry_here : (k : ℕ) (x : Entry) (es : List Entry) → entry_at k (x ∷ es) k ≡ Some x
unfolding entry_at
entry_here k x es = ap (λ (b : Bool). cond b (Some x) (entry_at (k + size x) es k)) (eq-eqb k k refl)

entry_later : (k : ℕ) (x : Entry) (es : List Entry) (i : ℕ) (e : Entry) → entry_at (k + size x) es i ≡ Some e
    → entry_at k (x ∷ es) i ≡ Some e
unfolding entry_at
entry_later k x es i e h =
    let from : k + size x ≤ i = entry_from (k + size x) es i e h in
    let isn't : eqb i k ≡ false = ne_eqb i k (λ e. omega (arith, from, size_some x, e)) in
    ap (λ (b : Bool). cond b (Some x) (entry_at (k + size x) es i)) isn't ∙ h

place_is : (i j : ℕ) → Some i ≡ Some j → i ≡ j
place_is i j e = cc

differ : (all : List Entry) → ((e : Entry) (i : ℕ) → entry_at 1 all i ≡ Some e → seek 1 all e ≡ Some i) → (k : ℕ)
    (es : List Entry) → ((i : ℕ) (e : Entry) → entry_at k es i ≡ Some e → entry_at 1 all i ≡ Some e) → AreDifferent es
differ all one k [] within = tt
differ all one k (x ∷ es) within =
    (by (has es x) refl, differ all one (k + size x) es (λ i e h. within i e (entry_later k x es i e h)))
  where
    by : (b : Bool) → has es x ≡ b → has es x ≡ false
    by false is = is
    by true is =
        let j = has_place (k + size x) es x is in
        let from : k + size x ≤ j.0 = seek_from (k + size x) es x j.0 j.1 in
        let second : seek 1 all x ≡ Some j.0 =
        one x j.0 (within j.0 x (entry_later k x es j.0 x (entry_from_seek (k + size x) es x j.0 j.1))) in
        let first : seek 1 all x ≡ Some k = one x k (within k x (entry_here k x es)) in
        let place : k ≡ j.0 = place_is k j.0 (sym first ∙ second) in
        absurd (omega (arith, from, size_some x, place))

-- ---- each has its parts

member_part : (a b c d : Bool) → (a || (b || false)) ≡ true → (a || (c || (b || d))) ≡ true
member_part true b c d h = refl
member_part false true true d h = refl
member_part false true false d h = refl
member_part false false c d h = absurd (true≢false (sym h))

is_behind : (e p : Entry) → has (parts e) p ≡ true → has (behind e) p ≡ true
is_behind (entry.Utf8 t) p h = h
is_behind (entry.Int n) p h = h
is_behind (entry.Long n) p h = h
is_behind (entry.Class n) p h = h
is_behind (entry.Text t) p h = h
is_behind (entry.Field c n d) p h = member_part _ _ _ _ h
is_behind (entry.Method c n d) p h = member_part _ _ _ _ h
is_behind (entry.InterfaceMethod c n d) p h = member_part _ _ _ _ h
is_behind (entry.NameAndType n d) p h = h

grown_is_pool : (ms : List Entry) → AreEntries (with_mentions ms []) → 1 + units (with_mentions ms []) < 2 ^ 16
    → IsPool (with_mentions ms [])
grown_is_pool ms entries count = record {
  entries = entries;
  different = differ (with_mentions ms []) (λ e i h. (one_index ms e i).1 h) 1 (with_mentions ms []) (λ i e h. h);
  whole = λ e h p g.
      let i = has_place 1 (with_mentions ms []) e h in
      let j = parts_stand ms e p i.0 i.1 (is_behind e p g) in
      has_seek 1 (with_mentions ms []) p ∙ ap is_some j.1;
  count = count;
}

pub order_is_pool : OrderIsPool
order_is_pool es ms order entries count =
    let is = in_order_is es ms order in
    subst IsPool (sym is) (grown_is_pool ms (subst AreEntries is entries)
    (subst (λ (l : List Entry). 1 + units l < 2 ^ 16) is count))
