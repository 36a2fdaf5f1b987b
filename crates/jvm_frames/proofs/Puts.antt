-- Pieces that are written one behind the other.
use Rattle.std.proofs.Common.{◌≡◌, ℕ, suc, ◌+◌, ◌<◌, ◌≤◌, ◌%◌, List, [], ◌∷◌, ◌++◌, length, take, drop, get_or, Result, Ok, Err, OnOk, OnErr, refl, sym, ap, subst, ◌∙◌, append_assoc, arith, add-one}
use Rattle.std.specs.Int.{w8, w16, to_be_bytes}
use Rattle.std.proofs.Math.ListN.{drop_of_length-le}
use Rattle.std.proofs.Math.Seq.{drop-cons}
use Rattle.std.proofs.lemmas.List.{append-nil, take_at}
use Rattle.jvm_pool.specs.declared.entries.Entry.{Entry}
use Rattle.jvm_pool.specs.declared.errors.PoolErr.{PoolErr}
use Rattle.jvm_pool.specs.declared.errors.PoolErr.TheVariants.{Full, NoMemory}
use Rattle.jvm_pool.specs.Entries.{units}
use Rattle.jvm_pool.specs.Mentions.{with_mention, with_mentions}
use Rattle.jvm_pool.proofs.Order.{mentions_keep}
use Rattle.jvm_pool.proofs.Same.{units-append}
use Rattle.jvm_pieces.specs.Pieces.{Piece, Bytes, Mention, mentions, index, Draft, draft, with_piece, with_pieces}
use Rattle.jvm_pieces.proofs.Drafts.{writes_in_parts}
use Rattle.jvm_class_types.specs.declared.frames.FrameType.{FrameType}
use Rattle.jvm_class_types.specs.declared.frames.FrameType.TheVariants as type
use Rattle.jvm_maps.specs.Types.{type_tag}
use Rattle.jvm_maps.specs.Frames.{kind_tag}
use Rattle.jvm_frames_forms.specs.declared.kinds.Kind as rust_kind
use Rattle.jvm_frames_forms.specs.declared.kinds.Kind.TheVariants as kind
use Rattle.jvm_frames_forms.specs.KindsSeen.{kind_seen, IsKind}
use Rattle.jvm_frames.specs.Putting.{Grew, PutsErr, Puts}

-- the pool behind pieces is that of their mentions
pub pool_after : (ps : List Piece) (d : Draft) → (with_pieces ps d).pool ≡ with_mentions (mentions ps) d.pool
unfolding with_pieces with_mentions
pool_after [] d = refl
pool_after (Bytes bytes ∷ ps) d = pool_after ps (draft d.pool (d.body ++ bytes))
pool_after (Mention e ∷ ps) d =
    pool_after ps (draft (with_mention e d.pool) (d.body ++ to_be_bytes w16 (index (with_mention e d.pool) e)))

-- ---- growing

pub grew_nothing : (d : Draft) → Grew d d
grew_nothing d = record {
  entries = [];
  bytes = [];
  pool_is = sym (append-nil d.pool);
  body_is = sym
      (append-nil d.body);
}

pub grew_both : (a b c : Draft) → Grew a b → Grew b c → Grew a c
grew_both a b c g h = record {
  entries = g.entries ++ h.entries;
  bytes = g.bytes ++ h.bytes;
  pool_is = h.pool_is ∙ ap (λ (l : List Entry). l ++ h.entries) g.pool_is ∙ append_assoc a.pool g.entries h.entries;
  body_is = h.body_is ∙ ap (λ (l : List ℕ). l ++ h.bytes) g.body_is ∙ append_assoc a.body g.bytes h.bytes;
}

pub grew_pieces : (ps : List Piece) (d : Draft) → Grew d (with_pieces ps d)
unfolding with_pieces with_mentions
grew_pieces [] d = grew_nothing d
grew_pieces (Bytes bytes ∷ ps) d =
    grew_both d (draft d.pool (d.body ++ bytes)) (with_pieces ps (draft d.pool (d.body ++ bytes)))
    record { entries = []; bytes = bytes; pool_is = sym (append-nil d.pool); body_is = refl }
    (grew_pieces ps (draft d.pool (d.body ++ bytes)))
grew_pieces (Mention e ∷ ps) d =
    let x = (mentions_keep [] (e ∷ [])).extends d.pool in
    let b = to_be_bytes w16 (index (with_mention e d.pool) e) in
    grew_both d (draft (with_mention e d.pool) (d.body ++ b)) (with_pieces ps (draft (with_mention e d.pool)
    (d.body ++ b)))
    record { entries = x.0; bytes = b; pool_is = one e d.pool x.0 x.1; body_is = refl }
    (grew_pieces ps (draft (with_mention e d.pool) (d.body ++ b)))
  where
    one : (e : Entry) (es more : List Entry) → with_mentions (e ∷ []) es ≡ es ++ more → with_mention e es ≡ es ++ more
    one e es more h = h

-- ---- one behind the other

more_units : (ms es : List Entry) → units es ≤ units (with_mentions ms es)
more_units ms es =
    let x = (mentions_keep [] ms).extends es in
    omega (arith, ap units x.1, units-append es x.0)

-- what fails of the pieces that are left fails of all
pub left_fails : (old now new : Draft) (ps rest all : List Piece) (e : PoolErr)
    → with_pieces (ps ++ rest) now ≡ with_pieces all old → Grew old now → PutsErr now new ps e → PutsErr old new all e
left_fails old now new ps rest all NoMemory left grew h = grew_both old now new grew h
left_fails old now new ps rest all Full left grew h =
    let pools : with_mentions (mentions all) old.pool ≡ with_mentions (mentions rest) (with_mentions
    (mentions ps) now.pool) =
    sym (pool_after all old) ∙ ap (λ (d : Draft). d.pool) (sym left)
    ∙ ap (λ (d : Draft). d.pool) (writes_in_parts ps rest now) ∙ pool_after rest (with_pieces ps now)
    ∙ ap (with_mentions (mentions rest)) (pool_after ps now) in
    let big : 65535 < 1 + units (with_mentions (mentions all) old.pool) =
    omega (arith, h.0, ap units pools, more_units (mentions rest) (with_mentions (mentions ps) now.pool)) in
    (big, grew_both old now new grew h.1)

-- the first part fails
pub puts_stops : (old new : Draft) (ps rest : List Piece) (e : PoolErr) → PutsErr old new ps e
    → PutsErr old new (ps ++ rest) e
puts_stops old new ps rest e h = left_fails old old new ps rest (ps ++ rest) e refl (grew_nothing old) h

-- the second part is written, or fails, behind the first
pub puts_then : {T : Type 0} (old mid new : Draft) (ps rest : List Piece) (r : Result T PoolErr)
    → mid ≡ with_pieces ps old → Puts mid new rest r → Puts old new (ps ++ rest) r
puts_then old mid new ps rest (Ok x) first h =
    h ∙ ap (with_pieces rest) first ∙ sym (writes_in_parts ps rest old)
puts_then old mid new ps rest (Err e) first h =
    let left : with_pieces (rest ++ []) mid ≡ with_pieces (ps ++ rest) old =
    ap (λ (l : List Piece). with_pieces l mid) (append-nil rest) ∙ ap (with_pieces rest) first
    ∙ sym (writes_in_parts ps rest old) in
    left_fails old mid new rest [] (ps ++ rest) e left (subst (Grew old) (sym first) (grew_pieces ps old)) h

-- bytes are a piece
pub bytes_put : (pool : List Entry) (old new bytes : List ℕ) → new ≡ old ++ bytes
    → draft pool new ≡ with_pieces (Bytes bytes ∷ []) (draft pool old)
unfolding with_pieces
bytes_put pool old new bytes h = ap (draft pool) h

pub same_grew : (pool more : List Entry) (old new : List ℕ) → more ≡ pool → new ≡ old → Grew (draft pool old)
    (draft more new)
same_grew pool more old new p q = record {
  entries = [];
  bytes = [];
  pool_is = p ∙ sym (append-nil pool);
  body_is = q ∙ sym (append-nil old);
}

-- bytes stand in front of what is written behind them
pub bytes_then : {T : Type 0} (pool : List Entry) (old mid bytes : List ℕ) (new : Draft) (rest : List Piece)
    (r : Result T PoolErr) → mid ≡ old ++ bytes → Puts (draft pool mid) new rest r
    → Puts (draft pool old) new (Bytes bytes ∷ rest) r
bytes_then pool old mid bytes new rest r is h =
    puts_then (draft pool old) (draft pool mid) new (Bytes bytes ∷ []) rest r (bytes_put pool old mid bytes is) h

-- a mention is a piece
pub mention_put : {T : Type 0} (e : Entry) (pool more : List Entry) (old new : List ℕ) (r : Result T PoolErr)
    → OnOk r (draft more new ≡ with_piece (Mention e) (draft pool old))
    → (r ≡ Err Full → 65535 < 1 + units (with_mention e pool))
    → OnErr r ((more ≡ pool) × (new ≡ old)) → Puts (draft pool old) (draft more new) (Mention e ∷ []) r
unfolding with_pieces with_mentions
mention_put e pool more old new (Ok x) ok full err = ok
mention_put e pool more old new (Err Full) ok full err = (full refl, same_grew pool more old new err.0 err.1)
mention_put e pool more old new (Err NoMemory) ok full err = same_grew pool more old new err.0 err.1

-- a pool and bytes that grew, cut back
pub cut_pool : (pool more : List Entry) (old new : List ℕ) → Grew (draft pool old) (draft more new)
    → take (length pool) more ≡ pool
cut_pool pool more old new g = ap (take (length pool)) g.pool_is ∙ take_at pool g.entries (length pool) refl

pub cut_bytes : (pool more : List Entry) (old new : List ℕ) → Grew (draft pool old) (draft more new)
    → take (length old) new ≡ old
cut_bytes pool more old new g = ap (take (length old)) g.body_is ∙ take_at old g.bytes (length old) refl

pub bytes_grew : (pool : List Entry) (old mid new bytes : List ℕ) → mid ≡ old ++ bytes → new ≡ mid
    → Grew (draft pool old) (draft pool new)
bytes_grew pool old mid new bytes p q =
    record { entries = []; bytes = bytes; pool_is = sym (append-nil pool); body_is = q ∙ p }

-- ---- a list, one by one

-- an element of a list and what is behind it
pub next_of : {A : Type 0} (l : List A) (i : ℕ) (x : A) → i < length l → x ≡ get_or l i x → drop i l ≡ x ∷ drop
    (i + 1) l
next_of {A} l i x lt is = rw add-one (drop-cons l i x lt ∙ ap (λ (y : A). y ∷ drop (suc i) l) (sym is))

pub none_behind : {A : Type 0} (l : List A) (i : ℕ) → (i < length l → ⊥) → drop i l ≡ []
none_behind l i h = drop_of_length-le l (omega (arith, h))

-- the next pieces are written
pub left_goes_on : (now new end : Draft) (ps rest : List Piece) → with_pieces (ps ++ rest) now ≡ end
    → new ≡ with_pieces ps now → with_pieces rest new ≡ end
left_goes_on now new end ps rest left is =
    ap (with_pieces rest) is ∙ sym (writes_in_parts ps rest now) ∙ left

pub grew_on : (old now new : Draft) (ps : List Piece) → Grew old now → new ≡ with_pieces ps now → Grew old new
grew_on old now new ps grew is = grew_both old now new grew (subst (Grew now) (sym is) (grew_pieces ps now))

-- ---- errors

pub grew_of : (old new : Draft) (ps : List Piece) (e : PoolErr) → PutsErr old new ps e → Grew old new
grew_of old new ps Full h = h.1
grew_of old new ps NoMemory h = h

pub full_of : (old new : Draft) (ps : List Piece) (e : PoolErr) → PutsErr old new ps e → e ≡ Full
    → 65535 < 1 + units (with_mentions (mentions ps) old.pool)
full_of old new ps Full h is = h.0
full_of old new ps NoMemory h is = absurd cc

-- a number of one byte and its bytes
pub one_byte : (n m : ℕ) → n ≡ m → m < 256 → (n ∷ []) ≡ to_be_bytes w8 m
one_byte n m is lt = let e : n ≡ m % 256 = omega (arith, is, lt) in ap (λ (k : ℕ). k ∷ []) e

pub type_small : (t : FrameType) → type_tag t < 256
type_small type.Top = omega arith
type_small type.Integer = omega arith
type_small type.Long = omega arith
type_small type.Null = omega arith
type_small type.UninitializedThis = omega arith
type_small (type.Object n) = omega arith
type_small (type.Uninitialized at) = omega arith

pub kind_small : (k : rust_kind.Kind) → IsKind k → kind_tag (kind_seen k) < 256
kind_small (kind.Same d) h = omega (arith, h)
kind_small (kind.SameOne d) h = omega (arith, h)
kind_small kind.SameOneFar h = omega arith
kind_small (kind.Chop k) h = omega arith
kind_small kind.SameFar h = omega arith
kind_small (kind.Append k) h = let few : k ≤ 3 = h.1 in omega (arith, few)
kind_small kind.Full h = omega arith
