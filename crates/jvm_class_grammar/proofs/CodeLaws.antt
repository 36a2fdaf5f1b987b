-- Code that is read is spelled so, and what is spelled is read.
use Rattle.std.proofs.Common.{◌≡◌, ℕ, ◌+◌, ◌^◌, ◌<◌, ◌≤◌, Bool, true, false, cond, ltb, List, [], ◌∷◌, ◌++◌, length, length-append, take, drop, Option, Some, None, Result, Ok, Err, refl, sym, ap, subst, ◌∙◌, arith}
use Rattle.std.specs.Int.{w16, to_be_bytes}
use Rattle.std.specs.List.{flat_map, AllByRecursion}
use Rattle.std.proofs.lemmas.Bool.{ltb-false, le-ltb}
use Rattle.std.proofs.lemmas.List.{append-nil, take_at, drop_at, take-append-drop, length-take}
use Rattle.jvm_code_instructions.specs.Table.{Operands, Nothing, Byte, Half, LocalAmount, Near, Far, Called, Ints, Table, Lookup, Wide, WideAmount, Row}
use Rattle.jvm_code_instructions.specs.Spelling.{operand_bytes, row_bytes}
use Rattle.jvm_code.specs.declared.error.CodeErr.{CodeErr}
use Rattle.jvm_code.specs.Spelling.{spelling}
use Rattle.jvm_code.specs.Decoding.{decode_of}
use Rattle.jvm_code.proofs.Theorem.{decode_takes, decode_again}
use Rattle.jvm_pool.specs.declared.entries.Entry.{Entry}
use Rattle.jvm_pool.specs.Mentions.{then_count, count_mention, count_mentions}
use Rattle.jvm_pieces.specs.Pieces.{Piece, Bytes, Mention, mentions, index, found, pieces}
use Rattle.jvm_class_formats.specs.Formats.{Spot, spot, here, ◌>>=◌, named, said, moved, mentioned}
use Rattle.jvm_class_formats.specs.Lawful.{IsBytes, Lawful}
use Rattle.jvm_class_formats.proofs.Steps.{bind_ok, unless_ok, done, done_is, some_is, bytes_behind, bytes_before, mentions-append, pieces-append, count_both, count_parts}
use Rattle.jvm_class_formats.proofs.Parts.{named_is, said_ok, said_again, mentioned_ok, one_count}
use Rattle.jvm_class_grammar.specs.declared.kinds.EntryKind.{EntryKind}
use Rattle.jvm_class_grammar.specs.Kinds.{Needed, needed_at, needed, is_of, is_called, kind_of_opcode}
use Rattle.jvm_class_grammar.specs.Instructions.{if_kind, of_kind, behind_index, mention_pieces, pieces_of, row_pieces, IsNamed, Names, counted_at, mentions_at, decoded, code_at, code}

abbrev needing : Needed → Option Needed
needing k = Some k

abbrev read_as : List (ℕ × Row) → Result (List (ℕ × Row)) CodeErr
read_as is = Ok is

kind_kept : (b : Bool) (e f : Entry) → if_kind b e ≡ Some f → (b ≡ true) × (e ≡ f)
kind_kept true e f h = (refl, cc)
kind_kept false e f h = absurd cc

module _ (es : List Entry) where
  -- ---- the bytes of an instruction are those of its pieces

  half_bytes : (opcode at i : ℕ) (o : Option EntryKind) (k : Needed) (e : Entry) → needed_at i o ≡ Some k → named es k.0 ≡ Some e
      → pieces es (Bytes (opcode ∷ []) ∷ Mention e ∷ Bytes [] ∷ []) ≡ opcode ∷ to_be_bytes w16 i
  half_bytes opcode at i None k e is there = absurd cc
  half_bytes opcode at i (Some m) k e is there =
      let n : (i, is_of m) ≡ k = cc in
      let at_index : index es e ≡ i = ap found (named_is es k.0 e there) ∙ sym (ap (λ (x : Needed). x.0) n) in
      ap (λ (l : List ℕ). opcode ∷ l) (append-nil (to_be_bytes w16 (index es e)) ∙ ap (to_be_bytes w16) at_index)

  called_bytes : (opcode at i count : ℕ) (k : Needed) (e : Entry) → needing (i, is_called count) ≡ Some k
      → named es k.0 ≡ Some e
      → pieces es (Bytes (opcode ∷ []) ∷ Mention e ∷ Bytes (count ∷ 0 ∷ []) ∷ [])
      ≡ opcode ∷ (to_be_bytes w16 i ++ count ∷ 0 ∷ [])
  called_bytes opcode at i count k e is there =
      let n : (i, is_called count) ≡ k = cc in
      let at_index : index es e ≡ i = ap found (named_is es k.0 e there) ∙ sym (ap (λ (x : Needed). x.0) n) in
      ap (λ (j : ℕ). opcode ∷ (to_be_bytes w16 j ++ count ∷ 0 ∷ [])) at_index

  mention_bytes : (at opcode : ℕ) (o : Operands) (k : Needed) (e : Entry) → needed opcode o ≡ Some k → named es k.0 ≡ Some e
      → pieces es (Bytes (opcode ∷ []) ∷ Mention e ∷ Bytes (behind_index o) ∷ []) ≡ opcode ∷ operand_bytes at o
  mention_bytes at opcode (Half i) k e is there = half_bytes opcode at i (kind_of_opcode opcode) k e is there
  mention_bytes at opcode (Called i count) k e is there = called_bytes opcode at i count k e is there
  mention_bytes at opcode Nothing k e is there = absurd cc
  mention_bytes at opcode (Byte n) k e is there = absurd cc
  mention_bytes at opcode (LocalAmount n m) k e is there = absurd cc
  mention_bytes at opcode (Near t) k e is there = absurd cc
  mention_bytes at opcode (Far t) k e is there = absurd cc
  mention_bytes at opcode Ints k e is there = absurd cc
  mention_bytes at opcode (Table d l ts) k e is there = absurd cc
  mention_bytes at opcode (Lookup d ps) k e is there = absurd cc
  mention_bytes at opcode (Wide c n) k e is there = absurd cc
  mention_bytes at opcode (WideAmount n m) k e is there = absurd cc

  -- what an instruction's pieces are, where its mention is named
  pub record Spelled (i : ℕ × Row) (o : Option Needed) : Type 0 where
    pub bytes : pieces es (pieces_of es i.0 i.1 o) ≡ row_bytes i.0 i.1

  row_bytes_are : (i : ℕ × Row) (o : Option Needed) → needed i.1.opcode i.1.operands ≡ o → IsNamed es o
      → pieces es (pieces_of es i.0 i.1 o) ≡ row_bytes i.0 i.1
  row_bytes_are i None is names = append-nil (row_bytes i.0 i.1)
  row_bytes_are i (Some k) is names =
      ap (λ (e : Option Entry). pieces es (mention_pieces es i.0 i.1.opcode i.1.operands e)) names.1
      ∙ mention_bytes i.0 i.1.opcode i.1.operands k names.0 is names.1

  pub bytes_are : (is : List (ℕ × Row)) → AllByRecursion (Names es) is → pieces es (flat_map (row_pieces es) is) ≡ spelling is
  bytes_are [] names = refl
  bytes_are (i ∷ is) names =
      pieces-append es (row_pieces es i) (flat_map (row_pieces es) is)
      ∙ ap (λ (l : List ℕ). l ++ pieces es (flat_map (row_pieces es) is))
      (row_bytes_are i (needed i.1.opcode i.1.operands) refl names.0)
      ∙ ap (λ (l : List ℕ). row_bytes i.0 i.1 ++ l) (bytes_are is names.1)

  -- ---- what is read

  pub record Counted (o : Option Needed) (ps : List Piece) (s t : Spot) : Type 0 where
    pub names : IsNamed es o
    pub count : count_mentions es (mentions ps) s.counter ≡ Some t.counter
    pub bytes : s.bytes ≡ t.bytes
    pub total : s.total ≡ t.total

  spot_is : (s t : Spot) → done s ≡ Ok t → s ≡ t
  spot_is s t e = done_is s t e

  counted_found : (at : ℕ) (i : ℕ × Row) (o : Option Needed) (s t : Spot) → counted_at es at s o ≡ Ok t
      → Counted o (pieces_of es i.0 i.1 o) s t
  unfolding count_mentions
  counted_found at i None s t h =
      subst (λ (y : Spot). Counted None (pieces_of es i.0 i.1 None) s y) (spot_is s t h)
      record { names = tt; count = refl; bytes = refl; total = refl }
  counted_found at i (Some k) s t h =
      let e = bind_ok (mentioned es s at s.counter (said (of_kind k.1) (named es k.0))) (λ e. Ok e.1) t h in
      let m = mentioned_ok es s at s.counter (said (of_kind k.1) (named es k.0)) e.0 e.1 in
      let p = said_ok (of_kind k.1) (named es k.0) (m.0, e.0.0) m.1 in
      let q = kind_kept (k.1 m.0) m.0 e.0.0 p.1 in
      subst (λ (y : Spot). Counted (Some k) (pieces_of es i.0 i.1 (Some k)) s y) (spot_is e.0.1 t e.2)
      record {
        names = (m.0, p.0, q.0);
        count = ap (λ (o : Option Entry). count_mentions es (mentions (mention_pieces es i.0 i.1.opcode i.1.operands o)) s.counter) p.0
            ∙ ap (λ (o : Option ℕ). then_count o (λ c. Some c)) m.2;
        bytes = m.3;
        total = m.4;
      }

  pub record AllCounted (is : List (ℕ × Row)) (s t : Spot) : Type 0 where
    pub names : AllByRecursion (Names es) is
    pub count : count_mentions es (mentions (flat_map (row_pieces es) is)) s.counter ≡ Some t.counter
    pub bytes : s.bytes ≡ t.bytes
    pub total : s.total ≡ t.total

  mentions_found : (start : ℕ) (is : List (ℕ × Row)) (s t : Spot) → mentions_at es start is s ≡ Ok t → AllCounted is s t
  unfolding count_mentions
  mentions_found start [] s t h =
      subst (λ (y : Spot). AllCounted [] s y) (spot_is s t h) record { names = tt; count = refl; bytes = refl; total = refl }
  mentions_found start (i ∷ is) s t h =
      let a = bind_ok (counted_at es (start + i.0) s (needed i.1.opcode i.1.operands)) (λ t. mentions_at es start is t) t h in
      let first = counted_found (start + i.0) i (needed i.1.opcode i.1.operands) s a.0 a.1 in
      let others = mentions_found start is a.0 t a.2 in
      record {
        names = (first.names, others.names);
        count = rw (mentions-append (row_pieces es i) (flat_map (row_pieces es) is))
            (count_both es (mentions (row_pieces es i)) (mentions (flat_map (row_pieces es) is)) s.counter a.0.counter t.counter
            first.count others.count);
        bytes = first.bytes ∙ others.bytes;
        total = first.total ∙ others.total;
      }

  -- ---- what is spelled

  counted_again : (at : ℕ) (i : ℕ × Row) (o : Option Needed) (t b c : ℕ) (bytes : List ℕ) → IsNamed es o
      → count_mentions es (mentions (pieces_of es i.0 i.1 o)) b ≡ Some c
      → counted_at es at (spot t b bytes) o ≡ Ok (spot t c bytes)
  unfolding count_mentions
  counted_again at i None t b c bytes names count = ap (λ (k : ℕ). done (spot t k bytes)) (some_is b c count)
  counted_again at i (Some k) t b c bytes names count =
      let counted : count_mentions es (names.0 ∷ []) b ≡ Some c =
      sym (ap (λ (o : Option Entry). count_mentions es (mentions (mention_pieces es i.0 i.1.opcode i.1.operands o)) b) names.1)
      ∙ count in
      let one : count_mention es names.0 b ≡ Some c = one_count es names.0 b c counted in
      let is_kind : of_kind k.1 names.0 ≡ Some names.0 = ap (λ (y : Bool). if_kind y names.0) names.2 in
      ap (λ (o : Option Entry). mentioned es (spot t b bytes) at b (said (of_kind k.1) o) >>= λ e. done e.1) names.1
      ∙ ap (λ (o : Option (Entry × Entry)). mentioned es (spot t b bytes) at b o >>= λ e. done e.1)
      (said_again (of_kind k.1) names.0 names.0 is_kind)
      ∙ ap (λ (o : Option ℕ). moved (spot t b bytes) at names.0 o >>= λ e. done e.1) one

  mentions_again : (start : ℕ) (is : List (ℕ × Row)) (t b c : ℕ) (bytes : List ℕ) → AllByRecursion (Names es) is
      → count_mentions es (mentions (flat_map (row_pieces es) is)) b ≡ Some c
      → mentions_at es start is (spot t b bytes) ≡ Ok (spot t c bytes)
  unfolding count_mentions
  mentions_again start [] t b c bytes names count = ap (λ (k : ℕ). done (spot t k bytes)) (some_is b c count)
  mentions_again start (i ∷ is) t b d bytes names count =
      let m : count_mentions es (mentions (row_pieces es i) ++ mentions (flat_map (row_pieces es) is)) b ≡ Some d =
      ap (λ (ms : List Entry). count_mentions es ms b)
      (sym (mentions-append (row_pieces es i) (flat_map (row_pieces es) is))) ∙ count in
      let c = count_parts es (mentions (row_pieces es i)) (mentions (flat_map (row_pieces es) is)) b d m in
      let first = counted_again (start + i.0) i (needed i.1.opcode i.1.operands) t b c.0 bytes names.0 c.1 in
      ap (λ (r : Result Spot ℕ). r >>= λ t. mentions_at es start is t) first
      ∙ mentions_again start is t c.0 d bytes names.1 c.2

  decoded_ok : (s : Spot) (n : ℕ) (r : Result (List (ℕ × Row)) CodeErr) (x : List (ℕ × Row) × Spot) → decoded es s n r ≡ Ok x
      → (r ≡ Ok x.0) × (mentions_at es (here s) x.0 (spot s.total s.counter (drop n s.bytes)) ≡ Ok x.1)
  decoded_ok s n (Err e) x h = absurd cc
  decoded_ok s n (Ok is) x h =
      let t = bind_ok (mentions_at es (here s) is (spot s.total s.counter (drop n s.bytes))) (λ t. Ok (is, t)) x h in
      subst (λ (y : List (ℕ × Row) × Spot). (read_as is ≡ Ok y.0)
      × (mentions_at es (here s) y.0 (spot s.total s.counter (drop n s.bytes)) ≡ Ok y.1)) (done_is (is, t.0) x t.2) (refl, t.1)

  pub lawful_code : (n : ℕ) → n < 2 ^ 32 → Lawful es (code es n)
  lawful_code n small = record {
    found = λ s x fits h.
        let g = unless_ok (ltb (length s.bytes) n) s.total (decoded es s n (decode_of (take n s.bytes))) x h in
        let d = decoded_ok s n (decode_of (take n s.bytes)) x g.1 in
        let long : n ≤ length s.bytes = ltb-false _ _ g.0 in
        let len : length (take n s.bytes) ≡ n = omega (arith, length-take n s.bytes) in
        let short : length (take n s.bytes) < 2 ^ 32 = omega (arith, len) in
        let t = decode_takes (take n s.bytes) x.0 short (bytes_before n s.bytes fits) d.0 in
        let l = mentions_found (here s) x.0 (spot s.total s.counter (drop n s.bytes)) x.1 d.1 in (
          (sym (ap length t.1) ∙ len, t.0, l.names),
          record {
            parts = sym (take-append-drop n s.bytes)
                ∙ ap (λ (b : List ℕ). b ++ drop n s.bytes) (t.1 ∙ sym (bytes_are x.0 l.names))
                ∙ ap (λ (b : List ℕ). pieces es (flat_map (row_pieces es) x.0) ++ b) l.bytes;
            counted = l.count;
            total = l.total;
            rest_fits = subst IsBytes l.bytes (bytes_behind n s.bytes fits);
          },
        );
    only = λ is t b c bytes allowed count.
        let len : length (spelling is) ≡ n = allowed.0 in
        let short : length (spelling is) < 2 ^ 32 = omega (arith, len, small) in
        let long : ltb (length (spelling is ++ bytes)) n ≡ false =
        le-ltb _ _ (omega (arith, len, length-append (spelling is) bytes)) in
        let s = spot t b (spelling is ++ bytes) in
        let read = decode_again is short allowed.1 in
        ap (λ (l : List ℕ). code_at es n (spot t b (l ++ bytes))) (bytes_are is allowed.2)
        ∙ ap (λ (y : Bool). cond y (Err t) (decoded es s n (decode_of (take n (spelling is ++ bytes))))) long
        ∙ ap (λ (l : List ℕ). decoded es s n (decode_of l)) (take_at (spelling is) bytes n len)
        ∙ ap (decoded es s n) read
        ∙ ap (λ (l : List ℕ). mentions_at es (here s) is (spot t b l) >>= λ t. done {A = List (ℕ × Row) × Spot} (is, t))
        (drop_at (spelling is) bytes n len)
        ∙ ap (λ (r : Result Spot ℕ). r >>= λ t. done {A = List (ℕ × Row) × Spot} (is, t))
        (mentions_again (here s) is t b c bytes allowed.2 count);
  }
