-- The parts of the entries of a pool are among its entries.
use Rattle.std.proofs.Common.{◌≡◌, ℕ, zero, suc, ◌<◌, Bool, true, false, ◌||◌, List, [], ◌∷◌, length, get_or, Option, Some, None, IsSome, is_some, refl, sym, ap, subst, ◌∙◌, true≢false, arith}
use Rattle.jvm_pool.specs.declared.entries.Entry.{Entry}
use Rattle.jvm_pool.specs.Entries.{behind, same}
use Rattle.jvm_pool.specs.Mentions.{has, seek, with_mentions, IsInOrder}
use Rattle.jvm_pool.proofs.Closed.{mentions_stand, parts_stand}
use Rattle.jvm_pool.proofs.Order.{in_order_is}
use Rattle.jvm_pool.proofs.Same.{same_self}
use Rattle.jvm_pool.proofs.Seeking.{has_seek}
use Rattle.jvm_pieces.specs.Pieces.{Piece, Draft, draft, mentions, with_pieces}
use Rattle.jvm_pieces.proofs.Drafts.{written_spells}
use Rattle.jvm_class_first.specs.ClassFile.{IsClosed, class_pieces}
use Rattle.jvm_class_first.specs.Laws.{EntriesStand}

-- ---- an entry that is there has an index

some : (o : Option ℕ) → is_some o ≡ true → (i : ℕ) × (o ≡ Some i)
some (Some i) is = (i, refl)
some None is = absurd (true≢false (sym is))

pub has_index : (es : List Entry) (e : Entry) (o : Option ℕ) → o ≡ seek 1 es e → has es e ≡ true → IsSome o
has_index es e o is there =
    let found = some (seek 1 es e) (sym (has_seek 1 es e) ∙ there) in
    subst IsSome (sym (is ∙ found.1)) refl

pub entry_there : (es : List Entry) (i : ℕ) (d : Entry) → i < length es → has es (get_or es i d) ≡ true
entry_there [] i d lt = absurd (omega arith)
entry_there (e ∷ es) zero d lt = rw (same_self e) refl
entry_there (e ∷ es) (suc i) d lt = by (same (get_or es i d) e) (entry_there es i d (omega arith))
  where
    by : (b : Bool) → has es (get_or es i d) ≡ true → (b || has es (get_or es i d)) ≡ true
    by true later = refl
    by false later = later

-- ---- entries in the order of their first mention

grown_parts : (ms : List Entry) (e p : Entry) → has (with_mentions ms []) e ≡ true → has (behind e) p ≡ true → has (with_mentions ms []) p ≡ true
grown_parts ms e p there part =
    let index = some (seek 1 (with_mentions ms []) e) (sym (has_seek 1 (with_mentions ms []) e) ∙ there) in
    has_seek 1 (with_mentions ms []) p ∙ ap is_some (parts_stand ms e p index.0 index.1 part).1

pub parts_there : (es ms : List Entry) → IsInOrder es ms → (e p : Entry) → has es e ≡ true → has (behind e) p ≡ true → has es p ≡ true
parts_there es ms order e p there part =
    let is = in_order_is es ms order in
    ap (λ (l : List Entry). has l p) is ∙ grown_parts ms e p (ap (λ (l : List Entry). has l e) (sym is) ∙ there) part

pub mention_there : (es ms : List Entry) → IsInOrder es ms → (e : Entry) → has ms e ≡ true → has es e ≡ true
mention_there es ms order e there =
    ap (λ (l : List Entry). has l e) (in_order_is es ms order) ∙ (has_seek 1 (with_mentions ms []) e ∙ ap is_some (mentions_stand ms e there).1)

pub draft_closed : (ps : List Piece) (d : Draft) → d ≡ with_pieces ps (draft [] []) → IsClosed d.pool
draft_closed ps d is e there p part = parts_there d.pool (mentions ps) (written_spells ps d is).order e p there part

pub entries_stand : EntriesStand
entries_stand bytes code c = (
  (λ e there p part. parts_there c.entries (mentions (class_pieces code)) c.spells.order e p there part),
  (λ e there. mention_there c.entries (mentions (class_pieces code)) c.spells.order e there),
)
