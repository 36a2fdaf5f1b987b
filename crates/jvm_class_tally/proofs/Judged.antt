-- One lemma for each way to make a part.
use Rattle.std.proofs.Common.{◌≡◌, ◌↔◌, ℕ, ◌+◌, ◌-◌, ◌*◌, ◌^◌, ◌<◌, ◌≤◌, Bool, true, false, ◌&&◌, List, [], ◌∷◌, ◌++◌, length, Option, None, Some, refl, sym, ap, subst, ◌∙◌, arith}
use Rattle.std.specs.Prelude.{nat_lt}
use Rattle.std.specs.Int.{Width, w16, w32, byte_len, to_be_bytes}
use Rattle.std.specs.List.{flat_map, AllByRecursion}
use Rattle.std.proofs.lemmas.Bool.{and_parts, ltb-true, lt-ltb}
use Rattle.jvm_pool.specs.declared.entries.Entry.{Entry}
use Rattle.jvm_pool.specs.Mentions.{count_mention}
use Rattle.jvm_pieces.specs.Pieces.{Piece, Bytes, Mention, mentions}
use Rattle.jvm_class_formats.specs.Formats.{Format, any, number, u2, mention, optional, optional_allows, optional_spell, seq, as_named, allowed_in, spelled_in, variant, choose, times, counted, widths, sized}
use Rattle.jvm_class_formats.proofs.Steps.{HasWidth, half, word}
use Rattle.jvm_class_formats.proofs.Parts.{one_count}
use Rattle.jvm_class_tally.specs.declared.tally.Tally.{Tally}
use Rattle.jvm_class_tally.specs.Tallies.{tally, on, when, left, took, moved, judge_number, judge_entry, judge_mention, judge_optional, judge_seq, judge_in, judge_one, judge_each, judge_counted, entered, left_behind, judge_within, judge_sized}
use Rattle.jvm_class_tally.specs.Judges.{Runs, IsSmall, Judges}
use Rattle.jvm_class_tally.proofs.Steps.{when_some, so_when, on_some, so_on, both, some_eq, left_small, left_fits, left_so, left_none, took_is, took_so, moved_is, moved_so, one_counts, runs_nothing, nothing_runs, runs_both, runs_parts, took_runs, runs_took}

abbrev pub Any : {A : Type 0} → A → Type 0
Any a = Unit {0}

module _ (es : List Entry) where
  -- what is known beforehand may be more
  pub knows : {A : Type 0} {P Q : A → Type 0} (f : Format A) (j : A → Tally → Option Tally) → ((a : A) → Q a → P a)
      → Judges es f P j → Judges es f Q j
  knows f j so inner = record { found = λ a s t q small h. inner.found a s t (so a q) small h; only = λ a s t q allowed runs. inner.only a s t (so a q) allowed runs }

  -- the same judgement in other words
  pub judged_as : {A : Type 0} {P : A → Type 0} (f : Format A) (j k : A → Tally → Option Tally)
      → ((a : A) (t : Tally) → j a t ≡ k a t) → Judges es f P j → Judges es f P k
  judged_as f j k same inner = record {
    found = λ a s t p small h. inner.found a s t p small (same a s ∙ h);
    only = λ a s t p allowed runs. sym (same a s) ∙ inner.only a s t p allowed runs;
  }

  number_width : (w : Width) → HasWidth w → (n : ℕ) → widths (Bytes (to_be_bytes w n) ∷ []) ≡ byte_len w
  number_width w width n = let len = width.len n in omega (arith, len)

  pub judges_number : (w : Width) → HasWidth w → (rule : ℕ → Bool) → Judges es (number w rule) Any (judge_number w rule)
  judges_number w width rule = record {
    found = λ n s t p small h.
        let q = when_some (nat_lt n (2 ^ (8 * byte_len w)) && rule n) (took (byte_len w) s) t h in
        let r = and_parts (nat_lt n (2 ^ (8 * byte_len w))) (rule n) q.0 in (
          (ltb-true n (2 ^ (8 * byte_len w)) r.0, r.1),
          took_runs es (byte_len w) (to_be_bytes w n) s t (number_width w width n) q.1,
        );
    only = λ n s t p allowed runs.
        so_when (nat_lt n (2 ^ (8 * byte_len w)) && rule n) (took (byte_len w) s) t
        (both (nat_lt n (2 ^ (8 * byte_len w))) (rule n) (lt-ltb n (2 ^ (8 * byte_len w)) allowed.0) allowed.1)
        (runs_took es (byte_len w) (to_be_bytes w n) s t (number_width w width n) runs);
  }

  pub judges_two : Judges es u2 Any (judge_number w16 any)
  judges_two = judges_number w16 half any

  -- ---- mentions

  entry_runs : (e : Entry) (s t : Tally) → judge_entry es e s ≡ Some t → Runs es (Mention e ∷ []) s t
  entry_runs e s t h =
      let p = on_some (took 2 s) (λ u. moved u (count_mention es e u.counter)) t h in
      let q = took_is 2 s p.0 p.1 in
      let r = moved_is p.0 (count_mention es e p.0.counter) t p.2 in
      record {
        counted = one_counts es e s.counter t.counter (ap (count_mention es e) q.0 ∙ r.0);
        room = q.1 ∙ ap (λ (o : Option ℕ). Some o) r.1;
      }

  runs_entry : (e : Entry) (s t : Tally) → Runs es (Mention e ∷ []) s t → judge_entry es e s ≡ Some t
  runs_entry e s t h =
      so_on (took 2 s) (λ u. moved u (count_mention es e u.counter)) (tally s.counter t.room) t
      (took_so 2 s (tally s.counter t.room) refl h.room)
      (moved_so (tally s.counter t.room) (count_mention es e s.counter) t
      (one_count es e s.counter t.counter h.counted) refl)

  pub judges_mention : {A : Type 0} (entry : A → Entry) (inside : Entry → Option A) (keeps : A → Bool)
      → ((a : A) → (keeps a ≡ true) ↔ (inside (entry a) ≡ Some a))
      → Judges es (mention es entry inside) Any (judge_mention es entry keeps)
  judges_mention entry inside keeps same = record {
    found = λ a s t p small h.
        let q = when_some (keeps a) (judge_entry es (entry a) s) t h in ((same a).0 q.0, entry_runs (entry a) s t q.1);
    only = λ a s t p allowed runs.
        so_when (keeps a) (judge_entry es (entry a) s) t ((same a).1 allowed) (runs_entry (entry a) s t runs);
  }

  pub judges_optional : {A : Type 0} (entry : A → Entry) (inside : Entry → Option A) (keeps : A → Bool)
      → ((a : A) → (keeps a ≡ true) ↔ (inside (entry a) ≡ Some a))
      → Judges es (optional es entry inside) Any (judge_optional es entry keeps)
  judges_optional {A} entry inside keeps same = record { found = found_so; only = only_so }
    where
      found_so : (o : Option A) (s t : Tally) → Unit {0} → IsSmall s.room → judge_optional es entry keeps o s ≡ Some t
          → optional_allows entry inside o × Runs es (optional_spell entry o) s t
      found_so None s t p small h = (tt, (judges_two.found 0 s t tt small h).1)
      found_so (Some a) s t p small h = (judges_mention entry inside keeps same).found a s t tt small h

      only_so : (o : Option A) (s t : Tally) → Unit {0} → optional_allows entry inside o → Runs es (optional_spell entry o) s t
          → judge_optional es entry keeps o s ≡ Some t
      only_so None s t p allowed runs = judges_two.only 0 s t tt (omega arith, refl) runs
      only_so (Some a) s t p allowed runs = (judges_mention entry inside keeps same).only a s t tt allowed runs

  -- ---- parts of parts

  pub judges_seq : {A B : Type 0} {P : A → Type 0} {Q : A → B → Type 0} (f : Format A) (g : A → Format B)
      (j : A → Tally → Option Tally) (k : A → B → Tally → Option Tally) → Judges es f P j
      → ((a : A) → Judges es (g a) (Q a) (k a)) → Judges es (seq f g) (λ x. P x.0 × Q x.0 x.1) (judge_seq j k)
  judges_seq f g j k first next = record {
    found = λ x s u p small h.
        let q = on_some (j x.0 s) (k x.0 x.1) u h in
        let r = first.found x.0 s q.0 p.0 small q.1 in
        let fits = left_small (widths (f.spell x.0)) s.room q.0.room small r.1.room in
        let v = (next x.0).found x.1 q.0 u p.1 fits q.2 in
        ((r.0, v.0), runs_both es (f.spell x.0) ((g x.0).spell x.1) s q.0 u r.1 v.1);
    only = λ x s u p allowed runs.
        let q = runs_parts es (f.spell x.0) ((g x.0).spell x.1) s u runs in
        so_on (j x.0 s) (k x.0 x.1) q.0 u (first.only x.0 s q.0 p.0 allowed.0 q.1)
        ((next x.0).only x.1 q.0 u p.1 allowed.1 q.2);
  }

  pub judges_as : {A B : Type 0} {P : A → Type 0} (make : A → B) (parts : B → A) (f : Format A)
      (j : A → Tally → Option Tally) → Judges es f P j
      → Judges es (as_named make parts f) (λ b. P (parts b)) (λ b. j (parts b))
  judges_as make parts f j inner = record {
    found = λ b s t p small h. inner.found (parts b) s t p small h;
    only = λ b s t p allowed runs. inner.only (parts b) s t p allowed runs;
  }

  abbrev pub KnownIn : {A : Type 0} → (A → Type 0) → Option A → Type 0
  KnownIn P None = Unit {0}
  KnownIn P (Some a) = P a

  pub judges_variant : {A B : Type 0} {P : A → Type 0} (make : A → B) (inside : B → Option A) (f : Format A)
      (j : A → Tally → Option Tally) → Judges es f P j
      → Judges es (variant make inside f) (λ b. KnownIn P (inside b)) (λ b. judge_in j (inside b))
  judges_variant {A} {B} {P} make inside f j inner = record {
    found = λ b s t p small h. found_so (inside b) s t p small h;
    only = λ b s t p allowed runs. only_so (inside b) s t p allowed runs;
  }
    where
      found_so : (o : Option A) (s t : Tally) → KnownIn P o → IsSmall s.room → judge_in j o s ≡ Some t
          → allowed_in f o × Runs es (spelled_in f o) s t
      found_so None s t p small h = absurd cc
      found_so (Some a) s t p small h = inner.found a s t p small h

      only_so : (o : Option A) (s t : Tally) → KnownIn P o → allowed_in f o → Runs es (spelled_in f o) s t → judge_in j o s ≡ Some t
      only_so None s t p allowed runs = absurd allowed
      only_so (Some a) s t p allowed runs = inner.only a s t p allowed runs

  pub judges_one : {A : Type 0} {P : A → Type 0} (b : Bool) (f g : Format A) (j k : A → Tally → Option Tally)
      → Judges es f P j → Judges es g P k → Judges es (choose b f g) P (judge_one b j k)
  judges_one true f g j k first second = first
  judges_one false f g j k first second = second

  each_found : {A : Type 0} {P : A → Type 0} (f : Format A) (j : A → Tally → Option Tally) → Judges es f P j
      → (l : List A) (s u : Tally) → AllByRecursion P l → IsSmall s.room → judge_each j l s ≡ Some u
      → AllByRecursion f.allows l × Runs es (flat_map f.spell l) s u
  each_found f j inner [] s u p small h =
      (tt, subst (λ (t : Tally). Runs es [] s t) (some_eq s u h) (runs_nothing es s))
  each_found f j inner (a ∷ l) s u p small h =
      let q = on_some (j a s) (judge_each j l) u h in
      let r = inner.found a s q.0 p.0 small q.1 in
      let fits = left_small (widths (f.spell a)) s.room q.0.room small r.1.room in
      let v = each_found f j inner l q.0 u p.1 fits q.2 in
      ((r.0, v.0), runs_both es (f.spell a) (flat_map f.spell l) s q.0 u r.1 v.1)

  each_only : {A : Type 0} {P : A → Type 0} (f : Format A) (j : A → Tally → Option Tally) → Judges es f P j
      → (l : List A) (s u : Tally) → AllByRecursion P l → AllByRecursion f.allows l → Runs es (flat_map f.spell l) s u
      → judge_each j l s ≡ Some u
  each_only f j inner [] s u p allowed runs = ap (λ (t : Tally). Some t) (nothing_runs es s u runs)
  each_only f j inner (a ∷ l) s u p allowed runs =
      let q = runs_parts es (f.spell a) (flat_map f.spell l) s u runs in
      so_on (j a s) (judge_each j l) q.0 u (inner.only a s q.0 p.0 allowed.0 q.1)
      (each_only f j inner l q.0 u p.1 allowed.1 q.2)

  pub judges_times : {A : Type 0} {P : A → Type 0} (f : Format A) (j : A → Tally → Option Tally) → Judges es f P j
      → (n : ℕ) → Judges es (times f n) (λ l. (length l ≡ n) × AllByRecursion P l) (judge_each j)
  judges_times f j inner n = record {
    found = λ l s t p small h. let q = each_found f j inner l s t p.1 small h in ((p.0, q.0), q.1);
    only = λ l s t p allowed runs. each_only f j inner l s t p.1 allowed.1 runs;
  }

  -- parts behind their number
  pub judges_counted : {A : Type 0} {P : A → Type 0} (f : Format A) (j : A → Tally → Option Tally) → Judges es f P j
      → Judges es (counted f) (AllByRecursion P) (judge_counted j)
  judges_counted f j inner =
      let whole = judges_seq u2 (times f) (judge_number w16 any) (λ n. judge_each j) judges_two (judges_times f j inner) in
      record {
        found = λ l s t p small h. whole.found (length l, l) s t (tt, (refl, p)) small h;
        only = λ l s t p allowed runs. whole.only (length l, l) s t (tt, (refl, p)) allowed runs;
      }

  -- ---- a part behind its length

  sized_number : (n : ℕ) → widths (Bytes (to_be_bytes w32 n) ∷ []) ≡ 4
  sized_number n = number_width w32 word n

  within_found : {A : Type 0} {P : A → Type 0} (f : Format A) (j : A → Tally → Option Tally) → Judges es f P j
      → (a : A) (s t : Tally) (o : Option ℕ) → s.room ≡ o → P a → IsSmall o → judge_within j a s o ≡ Some t
      → (f.allows a × (widths (f.spell a) < 2 ^ 32)) × Runs es (f.spell a) s t
  within_found {A} {P} f j inner a s t None is p small h = by (j a (entered s)) refl h
    where
      by : (o : Option Tally) → j a (entered s) ≡ o → left_behind o ≡ Some t
          → (f.allows a × (widths (f.spell a) < 2 ^ 32)) × Runs es (f.spell a) s t
      by None judged h = absurd cc
      by (Some u) judged h =
          let small : 2 ^ 32 - 1 < 2 ^ 32 = omega arith in
          let r = inner.found a (entered s) u p small judged in
          let fits = left_fits (widths (f.spell a)) (2 ^ 32 - 1) u.room r.1.room in
          let e : tally u.counter None ≡ t = some_eq (tally u.counter None) t h in (
            (r.0, omega (arith, fits)),
            record {
              counted = r.1.counted ∙ ap (λ (v : Tally). Some v.counter) e;
              room = ap (left (widths (f.spell a))) is ∙ ap (λ (v : Tally). Some v.room) e;
            },
          )
  within_found f j inner a s t (Some room) is p small h =
      let r = inner.found a s t p (subst IsSmall (sym is) small) h in
      let fits = left_fits (widths (f.spell a)) room t.room (ap (left (widths (f.spell a))) (sym is) ∙ r.1.room) in
      ((r.0, omega (arith, fits, small)), r.1)

  within_only : {A : Type 0} {P : A → Type 0} (f : Format A) (j : A → Tally → Option Tally) → Judges es f P j
      → (a : A) (s t : Tally) (o : Option ℕ) → s.room ≡ o → P a → f.allows a → widths (f.spell a) < 2 ^ 32
      → Runs es (f.spell a) s t → judge_within j a s o ≡ Some t
  within_only f j inner a s t None is p allowed lt runs =
      let le : widths (f.spell a) ≤ 2 ^ 32 - 1 = omega (arith, lt) in
      let room = left_so (widths (f.spell a)) (2 ^ 32 - 1) le in
      let u = tally t.counter room.0 in
      let judged = inner.only a (entered s) u p allowed (record { counted = runs.counted; room = room.1 }) in
      let e : None ≡ t.room = some_eq None t.room (sym (ap (left (widths (f.spell a))) is) ∙ runs.room) in
      ap left_behind judged ∙ ap (λ (o : Option ℕ). Some (tally t.counter o)) e
  within_only f j inner a s t (Some room) is p allowed lt runs = inner.only a s t p allowed runs

  pub judges_sized : {A : Type 0} {P : A → Type 0} (f : Format A) (j : A → Tally → Option Tally) → Judges es f P j
      → Judges es (sized f) P (judge_sized j)
  judges_sized f j inner = record {
    found = λ a s t p small h.
        let len = Bytes (to_be_bytes w32 (widths (f.spell a))) ∷ [] in
        let q = on_some (took 4 s) (λ u. judge_within j a u u.room) t h in
        let r = took_is 4 s q.0 q.1 in
        let fits = left_small 4 s.room q.0.room small r.1 in
        let v = within_found f j inner a q.0 t q.0.room refl p fits q.2 in (
          v.0,
          runs_both es len (f.spell a) s q.0 t
              (took_runs es 4 (to_be_bytes w32 (widths (f.spell a))) s q.0 (sized_number (widths (f.spell a))) q.1) v.1,
        );
    only = λ a s t p allowed runs.
        let len = Bytes (to_be_bytes w32 (widths (f.spell a))) ∷ [] in
        let q = runs_parts es len (f.spell a) s t runs in
        so_on (took 4 s) (λ u. judge_within j a u u.room) q.0 t
        (runs_took es 4 (to_be_bytes w32 (widths (f.spell a))) s q.0 (sized_number (widths (f.spell a))) q.1)
        (within_only f j inner a q.0 t q.0.room refl p allowed.0 allowed.1 q.2);
  }
