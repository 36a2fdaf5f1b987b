-- The judgements of names, flags, fields and handlers judge their formats.
use Rattle.std.proofs.Common.{◌≡◌, ◌↔◌, ℕ, zero, suc, ◌+◌, ◌-◌, ◌*◌, ◌^◌, ◌<◌, ◌≤◌, Bool, true, false, ◌&&◌, cond, eqb, List, [], ◌∷◌, ◌++◌, length, take, drop, codes, Option, None, Some, refl, sym, ap, subst, ◌∙◌, arith}
use Rattle.std.specs.Prelude.{nat_lt, nat_le, ◌==◌, find}
use Rattle.std.specs.Int.{w8, w16, w32, byte_len}
use Rattle.std.specs.List.{flat_map, AllByRecursion}
use Rattle.std.proofs.lemmas.Bool.{and_parts, ltb-true, lt-ltb, le-ltb, eq-eqb, eqb-true}
use Rattle.jvm_code_instructions.specs.Table.{Row}
use Rattle.jvm_code.specs.Spelling.{spelling}
use Rattle.jvm_code.specs.Decoding.{IsLaid}
use Rattle.jvm_pool.specs.declared.entries.Entry.{Entry}
use Rattle.jvm_pool.specs.declared.entries.Entry.TheVariants as entry
use Rattle.jvm_pool.specs.Mentions.{then_count, count_mention, count_mentions}
use Rattle.jvm_pool_bytes.specs.Names.{is_name, is_field_descriptor, is_method_descriptor}
use Rattle.jvm_pieces.specs.Pieces.{Piece, Bytes, Mention, mentions, pieces}
use Rattle.jvm_class_types.specs.declared.frames.FrameType.{FrameType}
use Rattle.jvm_class_types.specs.declared.frames.FrameType.TheVariants as type
use Rattle.jvm_class_types.specs.declared.flags.ClassFlags.{ClassFlags}
use Rattle.jvm_class_types.specs.declared.flags.ClassFlags.TheVariants as class_flag
use Rattle.jvm_class_types.specs.declared.flags.FieldFlags.{FieldFlags}
use Rattle.jvm_class_types.specs.declared.flags.FieldFlags.TheVariants as field_flag
use Rattle.jvm_class_types.specs.declared.flags.MethodFlags.{MethodFlags}
use Rattle.jvm_class_types.specs.declared.flags.MethodFlags.TheVariants as method_flag
use Rattle.jvm_class_types.specs.Flags.{class_flags, class_flags_of, field_flags, field_flags_of, method_flags, method_flags_of}
use Rattle.jvm_class_types.specs.Seen.{Frame, Handler, Code, Field, Method, Class}
use Rattle.jvm_class_formats.specs.Formats.{Format, any, named, number, u2, the, mention, optional, seq, as_named, variant, choose, times, counted, sized, widths}
use Rattle.jvm_class_formats.proofs.Steps.{HasWidth, byte, half, word, mentions-append, count_both, count_parts, widths_are}
use Rattle.jvm_class_formats.proofs.Parts.{one_count}
use Rattle.jvm_maps.specs.Types.{class_inside, class_name, object_inside, uninitialized_inside, is_type_tag, type_tag, bare, bare_type, behind_tag, frame_type}
use Rattle.jvm_class_grammar.specs.Coded.{coded}
use Rattle.jvm_class_grammar.specs.Kinds.{Needed, needed, if_so, text_is, name_inside, field_descriptor_inside, method_descriptor_inside, this_text}
use Rattle.jvm_class_grammar.specs.Instructions.{code, row_pieces, pieces_of, Names, IsNamed}
use Rattle.jvm_class_grammar.specs.Grammar.{attribute, field, field_of, field_parts, handler, handler_of, handler_parts}
use Rattle.jvm_class_grammar.proofs.CodeLaws.{bytes_are}
use Rattle.jvm_class_tally.specs.declared.tally.Tally.{Tally}
use Rattle.jvm_class_tally.specs.Tallies.{tally, on, when, left, took, moved, judge_number, judge_mention, judge_optional, judge_seq, judge_in, judge_one, judge_each, judge_counted, judge_sized}
use Rattle.jvm_class_tally.specs.Judges.{Runs, IsSmall, Judges}
use Rattle.jvm_class_judging.specs.Judging.{judge_two, judge_this, judge_flags, judge_name, judge_field_descriptor, judge_method_descriptor, judge_class_name, judge_attribute, judge_field, judge_type, judge_types, judge_handler, judge_found, judge_needed, judge_row, judge_rows, judge_code}
use Rattle.jvm_class_tally.proofs.Steps.{when_some, so_when, on_some, so_on, both, some_eq, took_is, took_so, moved_is, moved_so, one_counts, none_counts, counts_none, runs_both, runs_parts, took_runs, runs_took}
use Rattle.jvm_class_tally.proofs.Judged.{Any, KnownIn, knows, judged_as, judges_number, judges_two, judges_mention, judges_optional, judges_seq, judges_as, judges_variant, judges_one, judges_times, judges_counted, judges_sized}

-- ---- what a place asks of an entry

if_so_is : (b : Bool) (t : List ℕ) → (b ≡ true) ↔ (if_so b t ≡ Some t)
if_so_is true t = (λ h. refl, λ h. refl)
if_so_is false t = (λ h. absurd cc, λ h. absurd cc)

always : (t : List ℕ) → (true ≡ true) ↔ (class_inside (entry.Class t) ≡ Some t)
always t = (λ h. refl, λ h. refl)

module _ (es : List Entry) where
  pub judges_this : (k : ℕ) → Judges es (the w16 k) Any (judge_this k)
  judges_this k = judges_number es w16 half (λ n. n == k)

  pub judges_name : Judges es (mention es entry.Utf8 name_inside) Any (judge_name es)
  judges_name = judges_mention es entry.Utf8 name_inside is_name (λ t. if_so_is (is_name t) t)

  pub judges_field_descriptor :
      Judges es (mention es entry.Utf8 field_descriptor_inside) Any (judge_field_descriptor es)
  judges_field_descriptor =
      judges_mention es entry.Utf8 field_descriptor_inside is_field_descriptor
      (λ t. if_so_is (is_field_descriptor t) t)

  pub judges_method_descriptor :
      Judges es (mention es entry.Utf8 method_descriptor_inside) Any (judge_method_descriptor es)
  judges_method_descriptor =
      judges_mention es entry.Utf8 method_descriptor_inside is_method_descriptor
      (λ t. if_so_is (is_method_descriptor t) t)

  pub judges_class_name : Judges es (class_name es) Any (judge_class_name es)
  judges_class_name = judges_mention es entry.Class class_inside (λ name. true) always

  pub judges_attribute : {A : Type 0} {P : A → Type 0} (name : List ℕ) (f : Format A) (j : A → Tally → Option Tally)
      → Judges es f P j → Judges es (attribute es name f) P (judge_attribute es name j)
  judges_attribute {A} {P} name f j inner =
      let whole = judges_seq es (mention es entry.Utf8 (this_text name)) (λ n. sized f)
      (judge_mention es entry.Utf8 (text_is name)) (λ n. judge_sized j)
      (judges_mention es entry.Utf8 (this_text name) (text_is name) (λ t. if_so_is (text_is name t) t))
      (λ n. judges_sized es f j inner) in
      record {
        found = λ a s t p small h. whole.found (name, a) s t (tt, p) small h;
        only = λ a s t p allowed runs. whole.only (name, a) s t (tt, p) allowed runs;
      }

  -- ---- flags

  judges_coded : {A : Type 0} (number_of : A → ℕ) (of_number : ℕ → Option A)
      → ((a : A) → (number_of a < 2 ^ 16) × (of_number (number_of a) ≡ Some a))
      → Judges es (coded w16 number_of of_number) Any judge_flags
  judges_coded number_of of_number all = record {
    found = λ a s t p small h. (all a, took_runs es 2 _ s t refl h);
    only = λ a s t p allowed runs. runs_took es 2 _ s t refl runs;
  }

  pub judges_class_flags : Judges es (coded w16 class_flags class_flags_of) Any judge_flags
  judges_class_flags = judges_coded class_flags class_flags_of all
    where
      all : (f : ClassFlags) → (class_flags f < 2 ^ 16) × (class_flags_of (class_flags f) ≡ Some f)
      all class_flag.Open = (omega arith, refl)
      all class_flag.Final = (omega arith, refl)
      all class_flag.Abstract = (omega arith, refl)
      all class_flag.Interface = (omega arith, refl)

  pub judges_field_flags : Judges es (coded w16 field_flags field_flags_of) Any judge_flags
  judges_field_flags = judges_coded field_flags field_flags_of all
    where
      all : (f : FieldFlags) → (field_flags f < 2 ^ 16) × (field_flags_of (field_flags f) ≡ Some f)
      all field_flag.Variable = (omega arith, refl)
      all field_flag.Final = (omega arith, refl)

  pub judges_method_flags : Judges es (coded w16 method_flags method_flags_of) Any judge_flags
  judges_method_flags = judges_coded method_flags method_flags_of all
    where
      all : (f : MethodFlags) → (method_flags f < 2 ^ 16) × (method_flags_of (method_flags f) ≡ Some f)
      all method_flag.Instance = (omega arith, refl)
      all method_flag.Static = (omega arith, refl)
      all method_flag.Abstract = (omega arith, refl)

  -- ---- fields and handlers

  pub judges_field : Judges es (field es) Any (judge_field es)
  judges_field =
      knows es (field es) (judge_field es) (λ f u. (tt, (tt, (tt, tt))))
      (judges_as es (field_of es) (field_parts es)
      (seq (coded w16 field_flags field_flags_of) (λ flags. seq (mention es entry.Utf8 name_inside)
      (λ name. seq (mention es entry.Utf8 field_descriptor_inside) (λ d. the w16 0))))
      (judge_seq judge_flags (λ flags. judge_seq (judge_name es) (λ name. judge_seq (judge_field_descriptor es)
      (λ d. judge_this 0))))
      (judges_seq es _ _ _ _ judges_field_flags (λ flags. judges_seq es _ _ _ _ judges_name
      (λ name. judges_seq es _ _ _ _ judges_field_descriptor (λ d. judges_this 0)))))

  pub judges_handler : Judges es (handler es) Any (judge_handler es)
  judges_handler =
      knows es (handler es) (judge_handler es) (λ h u. (tt, (tt, (tt, tt))))
      (judges_as es (handler_of es) (handler_parts es)
      (seq u2 (λ start. seq u2 (λ end. seq u2 (λ handler. optional es entry.Class class_inside))))
      (judge_seq judge_two (λ start. judge_seq judge_two (λ end. judge_seq judge_two
      (λ handler. judge_optional es entry.Class (λ name. true)))))
      (judges_seq es _ _ _ _ (judges_two es) (λ start. judges_seq es _ _ _ _ (judges_two es)
      (λ end. judges_seq es _ _ _ _ (judges_two es)
      (λ handler. judges_optional es entry.Class class_inside (λ name. true) always)))))
