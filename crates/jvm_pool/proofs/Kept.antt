-- Indices stay when a pool grows, and no entry has two.
use Rattle.std.proofs.Common.{◌≡◌, ℕ, ◌+◌, Bool, true, false, cond, eqb, List, [], ◌∷◌, ◌++◌, Some, is_some, refl, sym, ap, ◌∙◌, true≢false}
use Rattle.std.specs.List.{list_any}
use Rattle.std.proofs.lemmas.Bool.{eqb-true, or_parts}
use Rattle.jvm_pool.specs.declared.entries.Entry.{Entry}
use Rattle.jvm_pool.specs.Entries.{size, behind, same}
use Rattle.jvm_pool.specs.Mentions.{has, seek, with_one, with_each, with_mention, with_mentions}
use Rattle.jvm_pool.specs.Numbering.{entry_at}
use Rattle.jvm_pool.proofs.Same.{same_is, same_self}
use Rattle.jvm_pool.proofs.Order.{mention_keeps}
use Rattle.jvm_pool.proofs.Seeking.{has_seek, entry_from_seek}

-- an index that is there stays
pub seek_kept : (k : ℕ) (es more : List Entry) (e : Entry) (i : ℕ) → seek k es e ≡ Some i → seek k (es ++ more) e ≡ Some i
unfolding seek
seek_kept k [] more e i h = absurd cc
seek_kept k (x ∷ es) more e i h = by (same e x) h (seek_kept (k + size x) es more e i)
  where
    by : (b : Bool) → cond b (Some k) (seek (k + size x) es e) ≡ Some i → (seek (k + size x) es e ≡ Some i → seek (k + size x) (es ++ more) e ≡ Some i) → cond b (Some k) (seek (k + size x) (es ++ more) e) ≡ Some i
    by true at later = at
    by false at later = later at

pub kept_indices : (es : List Entry) (m e : Entry) (i : ℕ) → seek 1 es e ≡ Some i → seek 1 (with_mention m es) e ≡ Some i
kept_indices es m e i h =
    let x = (mention_keeps [] m).extends es in
    ap (λ (l : List Entry). seek 1 l e) x.1 ∙ seek_kept 1 es x.0 e i h

-- entries differ
Distinct : List Entry → Type 0
Distinct [] = Unit {0}
Distinct (x ∷ xs) = (has xs x ≡ false) × Distinct xs

apart : (x e : Entry) → same e x ≡ false → same x e ≡ false
apart x e h = by (same x e) refl
  where
    by : (b : Bool) → same x e ≡ b → b ≡ false
    by true is = absurd (true≢false (sym (ap (λ (y : Entry). same e y) (same_is x e is) ∙ same_self e) ∙ h))
    by false is = refl

has-push : (es : List Entry) (e x : Entry) → has es x ≡ false → same x e ≡ false → has (es ++ e ∷ []) x ≡ false
has-push [] e x h n = rw n refl
has-push (y ∷ es) e x h n =
    let p = or_parts (same x y) (list_any (same x) es) h in
    rw (p.0) (has-push es e x p.1 n)

distinct_push : (es : List Entry) (e : Entry) → Distinct es → has es e ≡ false → Distinct (es ++ e ∷ [])
unfolding Distinct
distinct_push [] e d h = (refl, tt)
distinct_push (x ∷ es) e d h =
    let p = or_parts (same e x) (list_any (same e) es) h in
    (has-push es e x d.0 (apart x e p.0), distinct_push es e d.1 p.1)

distinct_one : (e : Entry) (g : List Entry → List Entry) → ((es : List Entry) → Distinct es → Distinct (g es)) → (es : List Entry) → Distinct es → Distinct (with_one e g es)
distinct_one e g keeps es d = by (has es e) refl
  where
    by : (b : Bool) → has es e ≡ b → Distinct (cond b es (g (es ++ e ∷ [])))
    by true is = d
    by false is = keeps (es ++ e ∷ []) (distinct_push es e d is)

distinct_each : (ms es : List Entry) → Distinct es → Distinct (with_each ms es)
distinct_each [] es d = d
distinct_each (m ∷ ms) es d = distinct_each ms (with_one m (λ es. es) es) (distinct_one m (λ es. es) (λ es d. d) es d)

distinct_mentions : (ms es : List Entry) → Distinct es → Distinct (with_mentions ms es)
unfolding with_mentions
distinct_mentions [] es d = d
distinct_mentions (m ∷ ms) es d = distinct_mentions ms (with_mention m es) (distinct_one m (with_each (behind m)) (distinct_each (behind m)) es d)

seek_from_entry : (k : ℕ) (es : List Entry) (e : Entry) (i : ℕ) → Distinct es → entry_at k es i ≡ Some e → seek k es e ≡ Some i
unfolding seek entry_at Distinct
seek_from_entry k [] e i d h = absurd cc
seek_from_entry k (x ∷ es) e i d h = by (eqb i k) refl (λ r. seek_from_entry (k + size x) es e i d.1 r)
  where
    by : (b : Bool) → eqb i k ≡ b → (entry_at (k + size x) es i ≡ Some e → seek (k + size x) es e ≡ Some i) → cond (same e x) (Some k) (seek (k + size x) es e) ≡ Some i
    by true is later =
        let j : Some x ≡ Some e = sym (ap (λ (b : Bool). cond b (Some x) (entry_at (k + size x) es i)) is) ∙ h in
        let n : x ≡ e = cc in
        rw (← n, same_self x) (ap (λ (m : ℕ). Some m) (sym (eqb-true i k is)))
    by false is later =
        let j : entry_at (k + size x) es i ≡ Some e = sym (ap (λ (b : Bool). cond b (Some x) (entry_at (k + size x) es i)) is) ∙ h in
        let r = later j in
        other (same e x) refl r
      where
        other : (b : Bool) → same e x ≡ b → seek (k + size x) es e ≡ Some i → cond (same e x) (Some k) (seek (k + size x) es e) ≡ Some i
        other true equal r =
            let there : has es e ≡ true = has_seek (k + size x) es e ∙ ap is_some r in
            absurd (true≢false (sym there ∙ ap (λ (y : Entry). has es y) (same_is e x equal) ∙ d.0))
        other false not r = rw not r

pub one_index : (ms : List Entry) (e : Entry) (i : ℕ) → (seek 1 (with_mentions ms []) e ≡ Some i → entry_at 1 (with_mentions ms []) i ≡ Some e) × (entry_at 1 (with_mentions ms []) i ≡ Some e → seek 1 (with_mentions ms []) e ≡ Some i)
unfolding Distinct
one_index ms e i = (entry_from_seek 1 (with_mentions ms []) e i, seek_from_entry 1 (with_mentions ms []) e i (distinct_mentions ms [] tt))
