-- The judgements of code judge its format.
use Rattle.std.proofs.Common.{◌≡◌, ℕ, ◌+◌, ◌*◌, ◌^◌, ◌<◌, ◌≤◌, Bool, true, false, List, [], ◌∷◌, ◌++◌, length, Option, None, Some, refl, sym, ap, subst, ◌∙◌, arith}
use Rattle.std.specs.Prelude.{◌==◌}
use Rattle.std.specs.Int.{w16, w32}
use Rattle.std.specs.List.{flat_map, AllByRecursion}
use Rattle.std.proofs.lemmas.Bool.{eq-eqb, eqb-true}
use Rattle.jvm_code_instructions.specs.Table.{Row}
use Rattle.jvm_code_instructions.specs.Spelling.{row_bytes}
use Rattle.jvm_code.specs.Spelling.{spelling}
use Rattle.jvm_code.specs.Decoding.{IsLaid}
use Rattle.jvm_pool.specs.declared.entries.Entry.{Entry}
use Rattle.jvm_pool.specs.Mentions.{then_count, count_mention, count_mentions}
use Rattle.jvm_pieces.specs.Pieces.{Piece, Bytes, Mention, mentions, pieces}
use Rattle.jvm_class_types.specs.Seen.{Code, Handler, Frame}
use Rattle.jvm_class_formats.specs.Formats.{named, number, u2, seq, counted, widths}
use Rattle.jvm_class_formats.proofs.Steps.{half, word, mentions-append, count_both, count_parts, widths_are}
use Rattle.jvm_class_formats.proofs.Parts.{one_count}
use Rattle.jvm_maps.specs.Frames.{Before}
use Rattle.jvm_class_grammar.specs.Kinds.{Needed, needed}
use Rattle.jvm_class_grammar.specs.Instructions.{behind_index, code, mention_pieces, row_pieces, pieces_of, Names, IsNamed}
use Rattle.jvm_class_grammar.specs.Grammar.{code_attributes, code_body, code_of, code_parts, handler, is_code_length}
use Rattle.jvm_class_grammar.proofs.CodeLaws.{bytes_are}
use Rattle.jvm_class_tally.specs.declared.tally.Tally.{Tally}
use Rattle.jvm_class_tally.specs.Tallies.{tally, on, when, left, took, moved, judge_number, judge_seq, judge_counted}
use Rattle.jvm_class_tally.specs.Judges.{Runs, IsSmall, Judges}
use Rattle.jvm_class_judging.specs.Judging.{judge_two, judge_handler, judge_found, judge_needed, judge_row, judge_rows, judge_code, judge_code_attributes, judge_code_body, LaidCode}
use Rattle.jvm_class_tally.proofs.Steps.{when_some, so_when, on_some, so_on, some_eq, took_is, took_so, moved_is, moved_so, one_counts, none_counts, counts_none}
use Rattle.jvm_class_tally.proofs.Judged.{Any, knows, judges_number, judges_two, judges_seq, judges_as, judges_counted}
use Rattle.jvm_class_judging.proofs.Parted.{judges_handler}
use Rattle.jvm_class_judging.proofs.Framed.{judges_code_attributes}

then_some : (o : Option ℕ) (f : ℕ → Option ℕ) (d : ℕ) → then_count o f ≡ Some d
    → (c : ℕ) × (o ≡ Some c) × (f c ≡ Some d)
then_some None f d h = absurd cc
then_some (Some c) f d h = (c, refl, h)

-- each entry of the table is known to keep what every value keeps
all_any : {A : Type 0} (l : List A) → AllByRecursion (λ (a : A). Unit {0}) l
all_any [] = tt
all_any (a ∷ l) = (tt, all_any l)

module _ (es : List Entry) where
  -- ---- one instruction

  found_so : (n : Needed) (o : Option Entry) (at : ℕ) (r : Row) (c d : ℕ) → named es n.0 ≡ o → judge_found es n.1 o c ≡ Some d
      → IsNamed es (Some n) × (count_mentions es (mentions (mention_pieces es at r.opcode r.operands o)) c ≡ Some d)
  found_so n None at r c d is h = absurd cc
  found_so n (Some e) at r c d is h =
      let q = when_some (n.1 e) (count_mention es e c) d h in ((e, is, q.0), one_counts es e c d q.1)

  needed_found : (o : Option Needed) (at : ℕ) (r : Row) (c d : ℕ) → judge_needed es o c ≡ Some d
      → IsNamed es o × (count_mentions es (mentions (pieces_of es at r o)) c ≡ Some d)
  needed_found None at r c d h = (tt, none_counts es c ∙ h)
  needed_found (Some n) at r c d h = found_so n (named es n.0) at r c d refl h

  found_only : (n : Needed) (o : Option Entry) (at : ℕ) (r : Row) (c d : ℕ) → named es n.0 ≡ o → IsNamed es (Some n)
      → count_mentions es (mentions (mention_pieces es at r.opcode r.operands o)) c ≡ Some d
      → judge_found es n.1 o c ≡ Some d
  found_only n None at r c d is allowed count = absurd (let e : None ≡ Some allowed.0 = sym is ∙ allowed.1 in cc)
  found_only n (Some e) at r c d is allowed count =
      let same : e ≡ allowed.0 = some_eq e allowed.0 (sym is ∙ allowed.1) in
      so_when (n.1 e) (count_mention es e c) d (ap n.1 same ∙ allowed.2) (one_count es e c d count)

  needed_only : (o : Option Needed) (at : ℕ) (r : Row) (c d : ℕ) → IsNamed es o
      → count_mentions es (mentions (pieces_of es at r o)) c ≡ Some d → judge_needed es o c ≡ Some d
  needed_only None at r c d allowed count = ap (λ (k : ℕ). Some k) (counts_none es c d count)
  needed_only (Some n) at r c d allowed count = found_only n (named es n.0) at r c d refl allowed count

  -- ---- instructions one behind the other

  rows_found : (is : List (ℕ × Row)) (c d : ℕ) → judge_rows es is c ≡ Some d
      → AllByRecursion (Names es) is × (count_mentions es (mentions (flat_map (row_pieces es) is)) c ≡ Some d)
  rows_found [] c d h = (tt, none_counts es c ∙ h)
  rows_found (i ∷ is) c e h =
      let q = then_some (judge_row es i c) (judge_rows es is) e h in
      let r = needed_found (needed i.1.opcode i.1.operands) i.0 i.1 c q.0 q.1 in
      let v = rows_found is q.0 e q.2 in (
        (r.0, v.0),
        rw (mentions-append (row_pieces es i) (flat_map (row_pieces es) is))
            (count_both es (mentions (row_pieces es i)) (mentions (flat_map (row_pieces es) is)) c q.0 e r.1 v.1),
      )

  rows_only : (is : List (ℕ × Row)) (c d : ℕ) → AllByRecursion (Names es) is
      → count_mentions es (mentions (flat_map (row_pieces es) is)) c ≡ Some d → judge_rows es is c ≡ Some d
  rows_only [] c d allowed count = ap (λ (k : ℕ). Some k) (counts_none es c d count)
  rows_only (i ∷ is) c e allowed count =
      let q = count_parts es (mentions (row_pieces es i)) (mentions (flat_map (row_pieces es) is)) c e
      (ap (λ (ms : List Entry). count_mentions es ms c)
      (sym (mentions-append (row_pieces es i) (flat_map (row_pieces es) is))) ∙ count) in
      ap (λ (o : Option ℕ). then_count o (judge_rows es is))
      (needed_only (needed i.1.opcode i.1.operands) i.0 i.1 c q.0 allowed.0 q.1)
      ∙ rows_only is q.0 e allowed.1 q.2

  -- instructions take the bytes that spell them
  rows_width : (is : List (ℕ × Row)) → AllByRecursion (Names es) is → widths (flat_map (row_pieces es) is) ≡ length (spelling is)
  rows_width is names = sym (widths_are es (flat_map (row_pieces es) is)) ∙ ap length (bytes_are es is names)

  pub judges_code : (n : ℕ) → Judges es (code es n) IsLaid (judge_code es n)
  judges_code n = record {
    found = λ is s t laid small h.
        let q = when_some (length (spelling is) == n)
        (on (took (length (spelling is)) s) (λ u. moved u (judge_rows es is u.counter))) t h in
        let r = on_some (took (length (spelling is)) s) (λ u. moved u (judge_rows es is u.counter)) t q.1 in
        let v = took_is (length (spelling is)) s r.0 r.1 in
        let m = moved_is r.0 (judge_rows es is r.0.counter) t r.2 in
        let rows = rows_found is s.counter t.counter (ap (judge_rows es is) v.0 ∙ m.0) in (
          (eqb-true (length (spelling is)) n q.0, laid, rows.0),
          record {
            counted = rows.1;
            room = ap (λ (k : ℕ). left k s.room) (rows_width is rows.0) ∙ v.1 ∙ ap (λ (o : Option ℕ). Some o) m.1;
          },
        );
    only = λ is s t laid allowed runs.
        let names = allowed.2 in
        let u = tally s.counter t.room in
        so_when (length (spelling is) == n)
        (on (took (length (spelling is)) s) (λ u. moved u (judge_rows es is u.counter))) t
        (eq-eqb (length (spelling is)) n allowed.0)
        (so_on (took (length (spelling is)) s) (λ u. moved u (judge_rows es is u.counter)) u t
        (took_so (length (spelling is)) s u refl (ap (λ (k : ℕ). left k s.room) (sym (rows_width is names)) ∙ runs.room))
        (moved_so u (judge_rows es is s.counter) t (rows_only is s.counter t.counter names runs.counted) refl));
  }

  pub judges_code_body : (start : Before) → Judges es (code_body es start) LaidCode (judge_code_body es start)
  judges_code_body start =
      knows es (code_body es start) (judge_code_body es start)
      (λ c laid. (tt, (tt, (tt, (laid, (all_any c.handlers, tt))))))
      (judges_as es (code_of es) (code_parts es)
      (seq u2 (λ stack. seq u2 (λ locals. seq (number w32 (is_code_length es))
      (λ n. seq (code es n) (λ is. seq (counted (handler es)) (λ handlers. code_attributes es start))))))
      (judge_seq judge_two (λ stack. judge_seq judge_two (λ locals. judge_seq (judge_number w32 (is_code_length es))
      (λ n. judge_seq (judge_code es n) (λ is. judge_seq (judge_counted (judge_handler es))
      (λ handlers. judge_code_attributes es start))))))
      (judges_seq es _ _ _ _ (judges_two es) (λ stack. judges_seq es _ _ _ _ (judges_two es)
      (λ locals. judges_seq es _ _ _ _ (judges_number es w32 word (is_code_length es))
      (λ n. judges_seq es _ _ _ _ (judges_code n) (λ is. judges_seq es _ _ _ _
      (judges_counted es (handler es) (judge_handler es) (judges_handler es))
      (λ handlers. judges_code_attributes es start)))))))
