-- A writer that takes one piece after the other spells all of them behind its last pool.
use Rattle.std.proofs.Common.{◌≡◌, ℕ, ◌+◌, Bool, true, false, List, [], ◌∷◌, ◌++◌, Option, Some, None, is_some, refl, sym, ap, ◌∙◌, append_assoc, true≢false}
use Rattle.std.specs.Int.{w16, to_be_bytes}
use Rattle.std.proofs.lemmas.List.{append-nil}
use Rattle.jvm_pool.specs.declared.entries.Entry.{Entry}
use Rattle.jvm_pool.specs.Entries.{units}
use Rattle.jvm_pool.specs.Mentions.{has, seek, with_mention, with_mentions}
use Rattle.jvm_pool.proofs.Order.{mentions_keep, in_order, in_order_is}
use Rattle.jvm_pool.proofs.Seeking.{has_seek}
use Rattle.jvm_pool.proofs.Growing.{mention_known, new_index}
use Rattle.jvm_pool.proofs.Kept.{seek_kept}
use Rattle.jvm_pieces.specs.Pieces.{Piece, Bytes, Mention, mentions, index, found, pieces, Draft, draft, with_pieces, Spells}

some_of : (o : Option ℕ) → is_some o ≡ true → (i : ℕ) × (o ≡ Some i)
some_of None h = absurd (true≢false (sym h))
some_of (Some i) h = (i, refl)

-- a mentioned entry has an index
mentioned : (e : Entry) (es : List Entry) → (i : ℕ) × (seek 1 (with_mention e es) e ≡ Some i)
mentioned e es = by (has es e) refl
  where
    by : (b : Bool) → has es e ≡ b → (i : ℕ) × (seek 1 (with_mention e es) e ≡ Some i)
    by true is =
        let s = some_of (seek 1 es e) (sym (has_seek 1 es e) ∙ is) in
        (s.0, ap (λ (l : List Entry). seek 1 l e) (sym (mention_known es e is)) ∙ s.1)
    by false is = (1 + units es, new_index es e is)

-- its index stays, whatever is mentioned behind it
index_kept : (e : Entry) (es : List Entry) (ms : List Entry) → index (with_mention e es) e ≡ index (with_mentions ms (with_mention e es)) e
index_kept e es ms =
    let m = mentioned e es in
    let x = (mentions_keep [] ms).extends (with_mention e es) in
    ap found (m.1 ∙ sym (seek_kept 1 (with_mention e es) x.0 e m.0 m.1)) ∙ ap (λ (l : List Entry). index l e) (sym x.1)

-- after each piece in turn the writer has the pool of all mentions, and all pieces behind it
written : (ps : List Piece) (d : Draft) → with_pieces ps d ≡ draft (with_mentions (mentions ps) d.pool) (d.body ++ pieces (with_mentions (mentions ps) d.pool) ps)
unfolding with_pieces with_mentions
written [] d = ap (draft d.pool) (sym (append-nil d.body))
written (Bytes bytes ∷ ps) d =
    written ps (draft d.pool (d.body ++ bytes)) ∙ ap (draft (with_mentions (mentions ps) d.pool)) (append_assoc d.body bytes (pieces (with_mentions (mentions ps) d.pool) ps))
written (Mention e ∷ ps) d =
    written ps (draft (with_mention e d.pool) (d.body ++ to_be_bytes w16 (index (with_mention e d.pool) e)))
    ∙ ap (draft (with_mentions (mentions ps) (with_mention e d.pool)))
    (append_assoc d.body (to_be_bytes w16 (index (with_mention e d.pool) e)) (pieces (with_mentions (mentions ps) (with_mention e d.pool)) ps)
    ∙ ap (λ (i : ℕ). d.body ++ (to_be_bytes w16 i ++ pieces (with_mentions (mentions ps) (with_mention e d.pool)) ps)) (index_kept e d.pool (mentions ps)))

pub written_spells : (ps : List Piece) (d : Draft) → d ≡ with_pieces ps (draft [] []) → Spells d.pool d.body ps
written_spells ps d is =
    let e : d ≡ draft (with_mentions (mentions ps) []) (pieces (with_mentions (mentions ps) []) ps) = is ∙ written ps (draft [] []) in
    record {
      order = in_order d.pool (mentions ps) (ap (λ (d : Draft). d.pool) e);
      bytes = ap (λ (d : Draft). d.body) e ∙ ap (λ (es : List Entry). pieces es ps) (sym (ap (λ (d : Draft). d.pool) e));
    }

pub one_spelling : (ps : List Piece) (es other : List Entry) (body bytes : List ℕ) → Spells es body ps → Spells other bytes ps → (es ≡ other) × (body ≡ bytes)
one_spelling ps es other body bytes p q =
    let e : es ≡ other = in_order_is es (mentions ps) p.order ∙ sym (in_order_is other (mentions ps) q.order) in
    (e, p.bytes ∙ ap (λ (l : List Entry). pieces l ps) e ∙ sym q.bytes)

pub writes_in_parts : (ps qs : List Piece) (d : Draft) → with_pieces (ps ++ qs) d ≡ with_pieces qs (with_pieces ps d)
unfolding with_pieces
writes_in_parts [] qs d = refl
writes_in_parts (Bytes bytes ∷ ps) qs d = writes_in_parts ps qs (draft d.pool (d.body ++ bytes))
writes_in_parts (Mention e ∷ ps) qs d = writes_in_parts ps qs (draft (with_mention e d.pool) (d.body ++ to_be_bytes w16 (index (with_mention e d.pool) e)))
