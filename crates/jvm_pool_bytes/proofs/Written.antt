-- The bytes of a pool, entry by entry.
use Rattle.std.proofs.Common.{◌≡◌, ℕ, zero, suc, ◌+◌, ◌<◌, Bool, true, false, ◌||◌, List, [], ◌∷◌, ◌++◌, length, take, get_or, Option, Some, None, is_some, IsSome, sym, ap, subst, refl, ◌∙◌, append_assoc, arith, true≢false}
use Rattle.std.specs.List.{flat_map}
use Rattle.std.proofs.lemmas.List.{append-nil, take_more}
use Rattle.std.proofs.lemmas.Grind.{flat_map-append}
use Rattle.jvm_pool.specs.declared.entries.Entry.{Entry}
use Rattle.jvm_pool.specs.Entries.{same}
use Rattle.jvm_pool.specs.Mentions.{has, seek}
use Rattle.jvm_pool.proofs.Same.{same_self}
use Rattle.jvm_pool.proofs.Seeking.{has_seek}
use Rattle.jvm_pool_bytes.specs.Spelling.{IsEntry, AreEntries, cp_info}

-- one entry more is written
pub entry_more : (pool es : List Entry) (i : ℕ) (e : Entry) (old into new head : List ℕ) → i < length es
    → e ≡ get_or es i e → into ≡ old ++ (head ++ flat_map (cp_info pool) (take i es)) → new ≡ into ++ cp_info pool e
    → new ≡ old ++ (head ++ flat_map (cp_info pool) (take (i + 1) es))
entry_more pool es i e old into new head lt is first second =
    let f = flat_map (cp_info pool) in
    let more : f (take (i + 1) es) ≡ f (take i es) ++ cp_info pool e =
    ap f (take_more es i e lt ∙ ap (λ y. take i es ++ y ∷ []) (sym is))
    ∙ flat_map-append (cp_info pool) (take i es) (e ∷ [])
    ∙ ap (λ l. f (take i es) ++ l) (append-nil (cp_info pool e)) in
    second
    ∙ ap (λ l. l ++ cp_info pool e) first
    ∙ append_assoc old (head ++ f (take i es)) (cp_info pool e)
    ∙ ap (λ l. old ++ l) (append_assoc head (f (take i es)) (cp_info pool e) ∙ ap (λ l. head ++ l) (sym more))

pub entry_kept : (es : List Entry) (i : ℕ) (d : Entry) → AreEntries es → i < length es → IsEntry (get_or es i d)
entry_kept [] i d entries lt = absurd (omega arith)
entry_kept (e ∷ es) zero d entries lt = entries.0
entry_kept (e ∷ es) (suc i) d entries lt = entry_kept es i d entries.1 (omega arith)

pub entry_there : (es : List Entry) (i : ℕ) (d : Entry) → i < length es → has es (get_or es i d) ≡ true
entry_there [] i d lt = absurd (omega arith)
entry_there (e ∷ es) zero d lt = rw (same_self e) refl
entry_there (e ∷ es) (suc i) d lt = by (same (get_or es i d) e) (entry_there es i d (omega arith))
  where
    by : (b : Bool) → has es (get_or es i d) ≡ true → (b || has es (get_or es i d)) ≡ true
    by true later = refl
    by false later = later

some : {A : Type 0} (o : Option A) → is_some o ≡ true → (a : A) × (o ≡ Some a)
some None h = absurd (true≢false (sym h))
some (Some a) h = (a, refl)

pub has_index : (es : List Entry) (e : Entry) (o : Option ℕ) → o ≡ seek 1 es e → has es e ≡ true → IsSome o
has_index es e o is there =
    let found = some (seek 1 es e) (sym (has_seek 1 es e) ∙ there) in
    subst IsSome (sym (is ∙ found.1)) refl
