-- The judgement of a class judges its format, and with it whether the class has a class file.
use Rattle.std.proofs.Common.{◌≡◌, ◌↔◌, ℕ, ◌+◌, ◌^◌, ◌<◌, Bool, true, false, List, [], ◌∷◌, ◌++◌, codes, Option, None, Some, refl, sym, ap, subst, ◌∙◌, arith}
use Rattle.std.specs.Int.{w16}
use Rattle.std.specs.List.{AllByRecursion}
use Rattle.jvm_pool.specs.declared.entries.Entry.{Entry}
use Rattle.jvm_pool.specs.Entries.{units}
use Rattle.jvm_pool_bytes.specs.Spelling.{pool, AreEntries}
use Rattle.jvm_pieces.specs.Pieces.{pieces, mentions}
use Rattle.jvm_class_types.specs.Flags.{class_flags, class_flags_of, method_flags, method_flags_of}
use Rattle.jvm_class_types.specs.Seen.{Code, Field, Method, Class}
use Rattle.jvm_class_types.specs.declared.flags.MethodFlags.{MethodFlags}
use Rattle.jvm_class_formats.specs.Formats.{Format, the, mention, seq, as_named, variant, choose, counted, widths}
use Rattle.jvm_maps.specs.Types.{class_name}
use Rattle.jvm_maps.specs.Frames.{Before}
use Rattle.jvm_class_grammar.specs.Coded.{coded}
use Rattle.jvm_class_grammar.specs.File.{head_bytes, HasClassFile, IsClassFile}
use Rattle.jvm_class_grammar.specs.Grammar.{at_start, attribute, class, class_of, class_parts, code_body, code_inside, field, is_abstract, method, method_descriptor, method_of, method_parts, named, no_code, none_inside, some_code}
use Rattle.jvm_class_tally.specs.declared.tally.Tally.{Tally}
use Rattle.jvm_class_tally.specs.Tallies.{tally, left, judge_seq, judge_in, judge_one, judge_counted}
use Rattle.jvm_class_tally.specs.Judges.{Runs, IsSmall, Judges}
use Rattle.jvm_class_judging.specs.Judging.{judge_this, judge_flags, judge_name, judge_method_descriptor, judge_class_name, judge_attribute, judge_field, judge_code_body, judge_no_code, judge_some_code, judge_method, judge_class, LaidCode, LaidOption, LaidMethod}
use Rattle.jvm_class_tally.proofs.Steps.{some_eq}
use Rattle.jvm_class_tally.proofs.Judged.{Any, KnownIn, knows, judges_seq, judges_as, judges_variant, judges_one, judges_counted}
use Rattle.jvm_class_judging.proofs.Parted.{judges_this, judges_name, judges_method_descriptor, judges_class_name, judges_attribute, judges_class_flags, judges_method_flags, judges_field}
use Rattle.jvm_class_judging.proofs.Coded.{judges_code_body}

all_any : {A : Type 0} (l : List A) → AllByRecursion (λ (a : A). Unit {0}) l
all_any [] = tt
all_any (a ∷ l) = (tt, all_any l)

module _ (es : List Entry) where
  judges_no_code : Judges es (no_code es) LaidOption (judge_no_code es)
  judges_no_code =
      knows es (no_code es) (judge_no_code es) (λ o laid. known (none_inside es o))
      (judges_variant es (λ (n : ℕ). None) (none_inside es) (the w16 0) (judge_this 0) (judges_this es 0))
    where
      known : (o : Option ℕ) → KnownIn es (λ (n : ℕ). Unit {0}) o
      known None = tt
      known (Some n) = tt

  judges_some_code : (start : Before) → Judges es (some_code es start) LaidOption (judge_some_code es start)
  judges_some_code start =
      knows es (some_code es start) (judge_some_code es start) known
      (judges_variant es (λ (x : ℕ × Code). Some x.1) (code_inside es)
      (seq (the w16 1) (λ n. attribute es (codes "Code") (code_body es start)))
      (judge_seq (judge_this 1) (λ n. judge_attribute es (codes "Code") (judge_code_body es start)))
      (judges_seq es (the w16 1) (λ n. attribute es (codes "Code") (code_body es start)) (judge_this 1)
      (λ n. judge_attribute es (codes "Code") (judge_code_body es start)) (judges_this es 1)
      (λ n. judges_attribute es (codes "Code") (code_body es start) (judge_code_body es start) (judges_code_body es start))))
    where
      known : (o : Option Code) → LaidOption o → KnownIn es (λ (x : ℕ × Code). Unit {0} × LaidCode x.1) (code_inside es o)
      known None laid = tt
      known (Some c) laid = (tt, laid)

  judges_method : (name : List ℕ) → Judges es (method es name) LaidMethod (judge_method es name)
  judges_method class =
      knows es (method es class) (judge_method es class) (λ m laid. (tt, (tt, (tt, laid))))
      (judges_as es (method_of es) (method_parts es)
      (seq (coded w16 method_flags method_flags_of) (λ flags. seq (named es) (λ name. seq (method_descriptor es)
      (λ descriptor. choose (is_abstract es flags) (no_code es) (some_code es (at_start class flags name descriptor))))))
      (judge_seq judge_flags (λ flags. judge_seq (judge_name es) (λ name. judge_seq (judge_method_descriptor es)
      (λ descriptor. judge_one (is_abstract es flags) (judge_no_code es)
      (judge_some_code es (at_start class flags name descriptor))))))
      (judges_seq es _ _ _ _ (judges_method_flags es) (λ flags. judges_seq es _ _ _ _ (judges_name es)
      (λ name. judges_seq es _ _ _ _ (judges_method_descriptor es)
      (λ descriptor. judges_one es (is_abstract es flags) _ _ _ _ judges_no_code
      (judges_some_code (at_start class flags name descriptor)))))))

  abbrev pub LaidClass : Class → Type 0
  LaidClass c = AllByRecursion LaidMethod c.methods

  pub judges_class : Judges es (class es) LaidClass (judge_class es)
  judges_class =
      knows es (class es) (judge_class es)
      (λ c laid. (tt, (tt, (tt, (all_any c.interfaces, (all_any c.fields, (laid, tt)))))))
      (judges_as es (class_of es) (class_parts es)
      (seq (coded w16 class_flags class_flags_of) (λ flags. seq (class_name es) (λ name. seq (class_name es)
      (λ above. seq (counted (class_name es)) (λ interfaces. seq (counted (field es)) (λ fields.
      seq (counted (method es name)) (λ methods. the w16 0)))))))
      (judge_seq judge_flags (λ flags. judge_seq (judge_class_name es) (λ name. judge_seq (judge_class_name es)
      (λ above. judge_seq (judge_counted (judge_class_name es)) (λ interfaces. judge_seq (judge_counted (judge_field es))
      (λ fields. judge_seq (judge_counted (judge_method es name)) (λ methods. judge_this 0)))))))
      (judges_seq es _ _ _ _ (judges_class_flags es) (λ flags. judges_seq es _ _ _ _ (judges_class_name es)
      (λ name. judges_seq es _ _ _ _ (judges_class_name es) (λ above. judges_seq es _ _ _ _
      (judges_counted es (class_name es) (judge_class_name es) (judges_class_name es))
      (λ interfaces. judges_seq es _ _ _ _ (judges_counted es (field es) (judge_field es) (judges_field es))
      (λ fields. judges_seq es _ _ _ _
      (judges_counted es (method es name) (judge_method es name) (judges_method name))
      (λ methods. judges_this es 0))))))))

  -- ---- whole class files

  -- what is known of the code of a class that has a class file
  option_laid : (b : Bool) (start : Before) (o : Option Code)
      → (choose b (no_code es) (some_code es start)).allows o → LaidOption o
  option_laid true start None allowed = tt
  option_laid true start (Some c) allowed = absurd allowed
  option_laid false start None allowed = tt
  option_laid false start (Some c) allowed = allowed.1.1.0.1.1.1.0.1

  methods_laid : (name : List ℕ) (ms : List Method) → AllByRecursion (method es name).allows ms → AllByRecursion LaidMethod ms
  methods_laid name [] allowed = tt
  methods_laid name (m ∷ ms) allowed = (
    option_laid (is_abstract es m.flags) (at_start name m.flags m.name m.descriptor) m.code allowed.0.1.1.1,
    methods_laid name ms allowed.1,
  )

  pub file_laid : (c : Class) → HasClassFile es c → LaidClass c
  file_laid c h = methods_laid c.name c.methods h.1.class_is.1.1.1.1.1.0.1.1

  -- a class that is judged well, and mentions its whole pool, has a class file
  pub has_file : (c : Class) (t : Tally) → AreEntries es → 1 + units es < 2 ^ 16 → LaidClass c
      → judge_class es c (tally 1 None) ≡ Some t → t.counter ≡ 1 + units es → HasClassFile es c
  has_file c t entries count laid judged whole =
      let q = judges_class.found c (tally 1 None) t laid tt judged in
      let behind = pieces es ((class es).spell c) in (
        head_bytes ++ (pool es ++ behind),
        record {
          behind = behind;
          entries = entries;
          count = count;
          class_is = q.0;
          spells = record { order = q.1.counted ∙ ap (λ (k : ℕ). Some k) whole; bytes = refl };
          bytes_are = refl;
        },
      )

  pub file_judged : (c : Class) → HasClassFile es c
      → (t : Tally) × (judge_class es c (tally 1 None) ≡ Some t) × (t.counter ≡ 1 + units es)
  file_judged c h =
      let t = tally (1 + units es) None in (
        t,
        judges_class.only c (tally 1 None) t (file_laid c h) h.1.class_is
            (record { counted = h.1.spells.order; room = refl }),
        refl,
      )
