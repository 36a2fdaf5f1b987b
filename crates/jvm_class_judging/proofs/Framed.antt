-- The judgements of frames judge their format.
use Rattle.std.proofs.Common.{◌≡◌, ℕ, zero, suc, ◌+◌, ◌-◌, ◌*◌, ◌^◌, ◌<◌, ◌≤◌, Bool, true, false, ◌&&◌, cond, eqb, List, [], ◌∷◌, ◌++◌, length, take, drop, codes, Option, None, Some, refl, sym, ap, subst, ◌∙◌, arith}
use Rattle.std.specs.Prelude.{nat_lt, nat_le, ◌==◌, find}
use Rattle.std.specs.Int.{w8, w16, byte_len}
use Rattle.std.specs.List.{AllByRecursion}
use Rattle.std.proofs.lemmas.Bool.{and_parts, ltb-true, lt-ltb, le-ltb, leb-true, eq-eqb, eqb-true}
use Rattle.jvm_pool.specs.declared.entries.Entry.{Entry}
use Rattle.jvm_class_types.specs.declared.frames.FrameType.{FrameType}
use Rattle.jvm_class_types.specs.declared.frames.FrameType.TheVariants as type
use Rattle.jvm_class_types.specs.Seen.{Frame}
use Rattle.jvm_class_formats.specs.Formats.{Format, any, number, u2, seq, as_named, variant, choose, times, counted, widths}
use Rattle.jvm_class_formats.proofs.Steps.{byte, half}
use Rattle.jvm_maps.specs.Types.{class_name, object_inside, uninitialized_inside, is_type_tag, type_tag, bare, bare_type, behind_tag, frame_type, same_type, same_types}
use Rattle.jvm_maps.specs.Frames.{Form, Same, SameOne, SameOneFar, Chop, SameFar, Append, Full, Kind, IsSame, IsSameOne, IsSameOneFar, IsChop, IsSameFar, IsAppend, IsFull, kind_of, kind_tag, tagged, is_frame_tag, same_inside, same_one_inside, same_one_far_inside, chop_inside, same_far_inside, append_inside, full_inside, nothing, behind_kind, behind, form, Before, frame, frames, frames_spell, AreFrames, after, form_of, form_with, appended, chopped, lacks, has_more, one_to_three, step_of, is_later}
use Rattle.jvm_maps.proofs.TypeLaws.{same_type_is, same_type_self, same_types_are}
use Rattle.jvm_class_grammar.specs.Grammar.{attribute, code_attributes, counted_frames, is_some_count, is_table_count, no_frames, no_frames_inside, table_count}
use Rattle.jvm_class_tally.specs.declared.tally.Tally.{Tally}
use Rattle.jvm_class_tally.specs.Tallies.{tally, on, when, left, took, judge_number, judge_seq, judge_in, judge_one, judge_each, judge_counted}
use Rattle.jvm_class_tally.specs.Judges.{Runs, IsSmall, Judges}
use Rattle.jvm_class_judging.specs.Judging.{judge_two, judge_class_name, judge_attribute, judge_type, judge_types, judge_form, judge_frame, judge_frames, judge_counted_frames, judge_code_attributes}
use Rattle.jvm_class_tally.proofs.Steps.{when_some, so_when, on_some, so_on, both, some_eq, left_small, runs_nothing, nothing_runs, runs_both, runs_parts}
use Rattle.jvm_class_tally.proofs.Judged.{Any, KnownIn, knows, judged_as, judges_number, judges_two, judges_seq, judges_as, judges_variant, judges_one, judges_times, judges_counted}
use Rattle.jvm_class_judging.proofs.Parted.{judges_class_name, judges_attribute}

on_done : (o : Option Tally) → on o (λ t. Some t) ≡ o
on_done None = refl
on_done (Some t) = refl

-- ---- types

abbrev judge_bare : Option FrameType → FrameType → Tally → Option Tally
judge_bare None t s = None
judge_bare (Some u) t s = when (same_type u t) (Some s)

module _ (es : List Entry) where
  judges_bare : (tag : ℕ) → Judges es (bare tag) Any (judge_bare (bare_type tag))
  judges_bare tag = record {
    found = λ t s u p small h. found_so (bare_type tag) t s u refl h;
    only = λ t s u p allowed runs. only_so (bare_type tag) t s u allowed runs;
  }
    where
      found_so : (o : Option FrameType) (t : FrameType) (s u : Tally) → bare_type tag ≡ o → judge_bare o t s ≡ Some u
          → (o ≡ Some t) × Runs es [] s u
      found_so None t s u is h = absurd cc
      found_so (Some v) t s u is h =
          let q = when_some (same_type v t) (Some s) u h in (
            ap (λ (w : FrameType). Some w) (same_type_is v t q.0),
            subst (λ (w : Tally). Runs es [] s w) (some_eq s u q.1) (runs_nothing es s),
          )

      only_so : (o : Option FrameType) (t : FrameType) (s u : Tally) → o ≡ Some t → Runs es [] s u
          → judge_bare o t s ≡ Some u
      only_so None t s u allowed runs = absurd cc
      only_so (Some v) t s u allowed runs =
          let e : v ≡ t = some_eq v t allowed in
          so_when (same_type v t) (Some s) u (subst (λ (w : FrameType). same_type v w ≡ true) e (same_type_self v))
          (ap (λ (w : Tally). Some w) (nothing_runs es s u runs))

  abbrev judge_behind_tag : ℕ → FrameType → Tally → Option Tally
  judge_behind_tag tag =
      judge_one (tag == 7) (λ t. judge_in (judge_class_name es) (object_inside t))
      (judge_one (tag == 8) (λ t. judge_in judge_two (uninitialized_inside t)) (judge_bare (bare_type tag)))

  type_judged : (t : FrameType) (s : Tally)
      → judge_seq (judge_number w8 is_type_tag) judge_behind_tag (type_tag t, t) s ≡ judge_type es t s
  unfolding bare_type
  type_judged type.Top s = on_done (took 1 s)
  type_judged type.Integer s = on_done (took 1 s)
  type_judged type.Long s = on_done (took 1 s)
  type_judged type.Null s = on_done (took 1 s)
  type_judged type.UninitializedThis s = on_done (took 1 s)
  type_judged (type.Object name) s = refl
  type_judged (type.Uninitialized at) s = refl

  none_known : (o : Option (List ℕ)) → KnownIn es (λ (n : List ℕ). Unit {0}) o
  none_known None = tt
  none_known (Some n) = tt

  no_offset_known : (o : Option ℕ) → KnownIn es (λ (n : ℕ). Unit {0}) o
  no_offset_known None = tt
  no_offset_known (Some n) = tt

  judges_behind_tag : (tag : ℕ) → Judges es (behind_tag es tag) Any (judge_behind_tag tag)
  judges_behind_tag tag =
      judges_one es (tag == 7) _ _ _ _
      (knows es _ _ (λ t u. none_known (object_inside t)) (judges_variant es type.Object object_inside (class_name es)
      (judge_class_name es) (judges_class_name es)))
      (judges_one es (tag == 8) _ _ _ _
      (knows es _ _ (λ t u. no_offset_known (uninitialized_inside t)) (judges_variant es type.Uninitialized
      uninitialized_inside u2 judge_two (judges_two es)))
      (judges_bare tag))

  pub judges_type : Judges es (frame_type es) Any (judge_type es)
  judges_type =
      judged_as es (frame_type es) (λ t. judge_seq (judge_number w8 is_type_tag) judge_behind_tag (type_tag t, t))
      (judge_type es) type_judged
      (knows es (frame_type es) _ (λ t u. (tt, tt))
      (judges_as es (λ (x : ℕ × FrameType). x.1) (λ (t : FrameType). (type_tag t, t))
      (seq (number w8 is_type_tag) (behind_tag es)) (judge_seq (judge_number w8 is_type_tag) judge_behind_tag)
      (judges_seq es _ _ _ _ (judges_number es w8 byte is_type_tag) judges_behind_tag)))

-- ---- forms that the writer chooses

-- a near form's delta is below 64, 1 to 3 locals are chopped or appended, and as many are listed
abbrev pub IsSound : Form → Type 0
IsSound (Same d) = d < 64
IsSound (SameOne d t) = d < 64
IsSound (Chop k d) = (0 < k) × (k ≤ 3)
IsSound (Append k d more) = (0 < k) × (k ≤ 3) × (length more ≡ k)
IsSound _ = Unit {0}

one_of_three : (k : ℕ) → 0 < k → k ≤ 3 → (P : ℕ → Type 0) → P 1 → P 2 → P 3 → P k
one_of_three zero lt le P a b c = absurd (omega arith)
one_of_three (suc zero) lt le P a b c = a
one_of_three (suc (suc zero)) lt le P a b c = b
one_of_three (suc (suc (suc zero))) lt le P a b c = c
one_of_three (suc (suc (suc (suc n)))) lt le P a b c = absurd (omega arith)

-- the number that is found is one of the three, and passes the test
found_one : (test : ℕ → Bool) (k : ℕ) → find test one_to_three ≡ Some k → (0 < k) × (k ≤ 3) × (test k ≡ true)
found_one test k h = first (test 1) refl h
  where
    third : (b : Bool) → test 3 ≡ b → cond b (Some 3) None ≡ Some k → (0 < k) × (k ≤ 3) × (test k ≡ true)
    third true is h = subst (λ (n : ℕ). (0 < n) × (n ≤ 3) × (test n ≡ true)) (some_eq 3 k h) (omega arith, omega arith, is)
    third false is h = absurd cc

    second : (b : Bool) → test 2 ≡ b → cond b (Some 2) (cond (test 3) (Some 3) None) ≡ Some k
        → (0 < k) × (k ≤ 3) × (test k ≡ true)
    second true is h = subst (λ (n : ℕ). (0 < n) × (n ≤ 3) × (test n ≡ true)) (some_eq 2 k h) (omega arith, omega arith, is)
    second false is h = third (test 3) refl h

    first : (b : Bool) → test 1 ≡ b → cond b (Some 1) (cond (test 2) (Some 2) (cond (test 3) (Some 3) None)) ≡ Some k
        → (0 < k) × (k ≤ 3) × (test k ≡ true)
    first true is h = subst (λ (n : ℕ). (0 < n) × (n ≤ 3) × (test n ≡ true)) (some_eq 1 k h) (omega arith, omega arith, is)
    first false is h = second (test 2) refl h

drop_count : {A : Type 0} (n k : ℕ) (l : List A) → length l ≡ n + k → length (drop n l) ≡ k
drop_count zero k l h = omega (arith, h)
drop_count (suc n) k [] h = absurd (omega (arith, h))
drop_count (suc n) k (x ∷ l) h = drop_count n k l (omega (arith, h))

sound_appended : (start : List FrameType) (d : ℕ) (locals : List FrameType) (o : Option ℕ)
    → find (has_more start locals) one_to_three ≡ o → IsSound (appended start d locals o)
sound_appended start d locals None is = tt
sound_appended start d locals (Some k) is =
    let q = found_one (has_more start locals) k is in
    let r = and_parts (length locals == length start + k) _ q.2 in
    (q.0, q.1, drop_count (length start) k locals (eqb-true (length locals) (length start + k) r.0))

sound_chopped : (start : List FrameType) (d : ℕ) (locals : List FrameType) (o : Option ℕ)
    → find (lacks start locals) one_to_three ≡ o → IsSound (chopped start d locals o)
sound_chopped start d locals None is = sound_appended start d locals (find (has_more start locals) one_to_three) refl
sound_chopped start d locals (Some k) is = let q = found_one (lacks start locals) k is in (q.0, q.1)

pub sound : (start : List FrameType) (d : ℕ) (locals stack : List FrameType) → IsSound (form_with start d locals stack)
sound start d locals [] = by (same_types locals start) (nat_lt d 64) refl
  where
    by : (b c : Bool) → nat_lt d 64 ≡ c
        → IsSound (cond b (cond c (Same d) (SameFar d)) (chopped start d locals (find (lacks start locals) one_to_three)))
    by true true is = ltb-true d 64 is
    by true false is = tt
    by false c is = sound_chopped start d locals (find (lacks start locals) one_to_three) refl
sound start d locals (t ∷ []) = by (same_types locals start) (nat_lt d 64) refl
  where
    by : (b c : Bool) → nat_lt d 64 ≡ c
        → IsSound (cond b (cond c (SameOne d t) (SameOneFar d t)) (Full d locals (t ∷ [])))
    by true true is = ltb-true d 64 is
    by true false is = tt
    by false c is = tt
sound start d locals (t ∷ u ∷ stack) = tt

kind_again : (f : Form) → IsSound f → tagged (kind_tag (kind_of f)) ≡ Some (kind_of f)
unfolding tagged
kind_again (Same d) lt = rw (lt-ltb d 64 lt) refl
kind_again (SameOne d t) lt =
    let high : nat_lt (64 + d) 64 ≡ false = le-ltb (64 + d) 64 (omega arith) in
    let low : nat_lt (64 + d) 128 ≡ true = lt-ltb (64 + d) 128 (omega (arith, lt)) in
    let back : 64 + d - 64 ≡ d = omega arith in
    rw (high, low, back) refl
kind_again (SameOneFar d t) u = refl
kind_again (Chop k d) h = one_of_three k h.0 h.1 (λ j. tagged (251 - j) ≡ Some (IsChop j)) refl refl refl
kind_again (SameFar d) u = refl
kind_again (Append k d more) h = one_of_three k h.0 h.1 (λ j. tagged (251 + j) ≡ Some (IsAppend j)) refl refl refl
kind_again (Full d locals stack) u = refl

tag_small : (f : Form) → IsSound f → kind_tag (kind_of f) < 2 ^ 8
tag_small (Same d) lt = omega (arith, lt)
tag_small (SameOne d t) lt = omega (arith, lt)
tag_small (SameOneFar d t) u = omega arith
tag_small (Chop k d) h = omega arith
tag_small (SameFar d) u = omega arith
tag_small (Append k d more) h = omega (arith, h.1)
tag_small (Full d locals stack) u = omega arith

same_into : (d : ℕ) → same_inside d (Same d) ≡ Some tt
same_into d = ap (λ (b : Bool). cond b (Some tt) None) (eq-eqb d d refl)

same_one_into : (d : ℕ) (t : FrameType) → same_one_inside d (SameOne d t) ≡ Some t
same_one_into d t = ap (λ (b : Bool). cond b (Some t) None) (eq-eqb d d refl)

chop_into : (k d : ℕ) → chop_inside k (Chop k d) ≡ Some d
chop_into k d = ap (λ (b : Bool). cond b (Some d) None) (eq-eqb k k refl)

append_into : (k d : ℕ) (more : List FrameType) → append_inside k (Append k d more) ≡ Some (d, more)
append_into k d more = ap (λ (b : Bool). cond b (Some (d, more)) None) (eq-eqb k k refl)

module _ (es : List Entry) where
  abbrev judge_kind : Kind → Form → Tally → Option Tally
  judge_kind (IsSame d) f t = judge_in (λ u s. Some s) (same_inside d f) t
  judge_kind (IsSameOne d) f t = judge_in (judge_type es) (same_one_inside d f) t
  judge_kind IsSameOneFar f t = judge_in (judge_seq judge_two (λ d. judge_type es)) (same_one_far_inside f) t
  judge_kind (IsChop k) f t = judge_in judge_two (chop_inside k f) t
  judge_kind IsSameFar f t = judge_in judge_two (same_far_inside f) t
  judge_kind (IsAppend k) f t = judge_in (judge_seq judge_two (λ d. judge_types es)) (append_inside k f) t
  judge_kind IsFull f t =
      judge_in (judge_seq judge_two (λ d. judge_seq (judge_counted (judge_type es))
      (λ locals. judge_counted (judge_type es)))) (full_inside f) t

  judges_nothing : Judges es nothing Any (λ u s. Some s)
  judges_nothing = record {
    found = λ a s t p small h. (tt, subst (λ (u : Tally). Runs es [] s u) (some_eq s t h) (runs_nothing es s));
    only = λ a s t p allowed runs. ap (λ (u : Tally). Some u) (nothing_runs es s t runs);
  }

  -- what is known of the types that are appended: their number
  abbrev KnownMore : ℕ → Form → Type 0
  KnownMore k f = KnownIn es (λ (x : ℕ × List FrameType). length x.1 ≡ k) (append_inside k f)

  abbrev Known : Kind → Form → Type 0
  Known (IsAppend k) f = KnownMore k f
  Known _ f = Unit {0}

  in_known : {A : Type 0} {P : A → Type 0} → ((a : A) → P a) → (o : Option A) → KnownIn es P o
  in_known all None = tt
  in_known all (Some a) = all a

  all_known : (l : List FrameType) → AllByRecursion (λ (t : FrameType). Unit {0}) l
  all_known [] = tt
  all_known (t ∷ l) = (tt, all_known l)

  judges_kind : (k : Kind) → Judges es (behind_kind es k) (Known k) (judge_kind k)
  judges_kind (IsSame d) =
      knows es _ _ (λ f u. in_known (λ a. tt) (same_inside d f))
      (judges_variant es (λ (u : Unit {0}). Same d) (same_inside d) nothing (λ u s. Some s) judges_nothing)
  judges_kind (IsSameOne d) =
      knows es _ _ (λ f u. in_known (λ a. tt) (same_one_inside d f))
      (judges_variant es (SameOne d) (same_one_inside d) (frame_type es) (judge_type es) (judges_type es))
  judges_kind IsSameOneFar =
      knows es _ _ (λ f u. in_known (λ a. (tt, tt)) (same_one_far_inside f))
      (judges_variant es (λ (x : ℕ × FrameType). SameOneFar x.0 x.1) same_one_far_inside
      (seq u2 (λ d. frame_type es)) (judge_seq judge_two (λ d. judge_type es))
      (judges_seq es u2 (λ d. frame_type es) judge_two (λ d. judge_type es) (judges_two es) (λ d. judges_type es)))
  judges_kind (IsChop k) =
      knows es _ _ (λ f u. in_known (λ a. tt) (chop_inside k f))
      (judges_variant es (Chop k) (chop_inside k) u2 judge_two (judges_two es))
  judges_kind IsSameFar =
      knows es _ _ (λ f u. in_known (λ a. tt) (same_far_inside f))
      (judges_variant es SameFar same_far_inside u2 judge_two (judges_two es))
  judges_kind (IsAppend k) =
      knows es _ _ (λ f known. more_known f (append_inside k f) known)
      (judges_variant es (λ (x : ℕ × List FrameType). Append k x.0 x.1) (append_inside k)
      (seq u2 (λ d. times (frame_type es) k)) (judge_seq judge_two (λ d. judge_types es))
      (judges_seq es u2 (λ d. times (frame_type es) k) judge_two (λ d. judge_types es) (judges_two es)
      (λ d. judges_times es (frame_type es) (judge_type es) (judges_type es) k)))
    where
      more_known : (f : Form) (o : Option (ℕ × List FrameType)) → KnownIn es (λ (x : ℕ × List FrameType). length x.1 ≡ k) o
          → KnownIn es (λ (x : ℕ × List FrameType). Unit {0} × ((length x.1 ≡ k) × AllByRecursion (λ (t : FrameType). Unit {0}) x.1)) o
      more_known f None known = tt
      more_known f (Some x) known = (tt, (known, all_known x.1))
  judges_kind IsFull =
      knows es _ _ (λ f u. in_known (λ x. (tt, (all_known x.1.0, all_known x.1.1))) (full_inside f))
      (judges_variant es (λ (x : ℕ × (List FrameType × List FrameType)). Full x.0 x.1.0 x.1.1) full_inside
      (seq u2 (λ d. seq (counted (frame_type es)) (λ locals. counted (frame_type es))))
      (judge_seq judge_two (λ d. judge_seq (judge_counted (judge_type es)) (λ locals. judge_counted (judge_type es))))
      (judges_seq es u2 _ judge_two _ (judges_two es)
      (λ d. judges_seq es (counted (frame_type es)) (λ locals. counted (frame_type es)) (judge_counted (judge_type es))
      (λ locals. judge_counted (judge_type es)) (judges_counted es (frame_type es) (judge_type es) (judges_type es))
      (λ locals. judges_counted es (frame_type es) (judge_type es) (judges_type es)))))

  abbrev judge_behind : Option Kind → Form → Tally → Option Tally
  judge_behind None f t = None
  judge_behind (Some k) f t = judge_kind k f t

  abbrev KnownBehind : Option Kind → Form → Type 0
  KnownBehind None f = Unit {0}
  KnownBehind (Some k) f = Known k f

  judges_behind : (o : Option Kind) → Judges es (behind es o) (KnownBehind o) (judge_behind o)
  judges_behind None = record { found = λ a s t p small h. absurd cc; only = λ a s t p allowed runs. absurd allowed }
  judges_behind (Some k) = judges_kind k

  -- a form that is sound is judged by its kind
  kind_judged : (f : Form) → IsSound f → (s : Tally) → on (took 1 s) (judge_kind (kind_of f) f) ≡ judge_form es f s
  kind_judged (Same d) lt s =
      ap (λ (o : Option (Unit {0})). on (took 1 s) (judge_in (λ u t. Some t) o)) (same_into d) ∙ on_done (took 1 s)
  kind_judged (SameOne d t) lt s =
      ap (λ (o : Option FrameType). on (took 1 s) (judge_in (judge_type es) o)) (same_one_into d t)
  kind_judged (SameOneFar d t) u s = refl
  kind_judged (Chop k d) h s = ap (λ (o : Option ℕ). on (took 1 s) (judge_in judge_two o)) (chop_into k d)
  kind_judged (SameFar d) u s = refl
  kind_judged (Append k d more) h s =
      ap (λ (o : Option (ℕ × List FrameType)). on (took 1 s) (judge_in (judge_seq judge_two (λ d. judge_types es)) o))
      (append_into k d more)
  kind_judged (Full d locals stack) u s = refl

  form_judged : (f : Form) → IsSound f → (s : Tally)
      → judge_seq (judge_number w8 is_frame_tag) (λ t. judge_behind (tagged t)) (kind_tag (kind_of f), f) s ≡ judge_form es f s
  form_judged f is s =
      let small = lt-ltb (kind_tag (kind_of f)) (2 ^ 8) (tag_small f is) in
      let again = kind_again f is in
      rw (small, again) (kind_judged f is s)

  known_behind : (f : Form) → IsSound f → Known (kind_of f) f
  known_behind (Same d) lt = tt
  known_behind (SameOne d t) lt = tt
  known_behind (SameOneFar d t) u = tt
  known_behind (Chop k d) h = tt
  known_behind (SameFar d) u = tt
  known_behind (Append k d more) h =
      subst (KnownIn es (λ (x : ℕ × List FrameType). length x.1 ≡ k)) (sym (append_into k d more)) h.2
  known_behind (Full d locals stack) u = tt

  pub judges_form : Judges es (form es) IsSound (judge_form es)
  judges_form =
      let whole = judges_seq es (number w8 is_frame_tag) (λ t. behind es (tagged t)) (judge_number w8 is_frame_tag)
      (λ t. judge_behind (tagged t)) (judges_number es w8 byte is_frame_tag) (λ t. judges_behind (tagged t)) in
      let known = λ (f : Form) (is : IsSound f). subst (λ (o : Option Kind). KnownBehind o f) (sym (kind_again f is)) (known_behind f is) in
      record {
        found = λ f s t is small h.
            whole.found (kind_tag (kind_of f), f) s t (tt, known f is) small (form_judged f is s ∙ h);
        only = λ f s t is allowed runs.
            sym (form_judged f is s) ∙ whole.only (kind_tag (kind_of f), f) s t (tt, known f is) allowed runs;
      }

  -- ---- frames

  pub judges_frame : (b : Before) → Judges es (frame es b) Any (judge_frame es b)
  judges_frame b = record {
    found = λ f s t p small h.
        let tests = is_later b.offset f.offset && nat_lt f.offset (2 ^ 32) in
        let q = when_some tests (judge_form es (form_of b.locals (step_of b f)) s) t h in
        let r = and_parts (is_later b.offset f.offset) (nat_lt f.offset (2 ^ 32)) q.0 in
        let v = judges_form.found (form_of b.locals (step_of b f)) s t (chosen b f) small q.1 in
        ((r.0, ltb-true f.offset (2 ^ 32) r.1, v.0), v.1);
    only = λ f s t p allowed runs.
        so_when (is_later b.offset f.offset && nat_lt f.offset (2 ^ 32)) (judge_form es (form_of b.locals (step_of b f)) s) t
        (both (is_later b.offset f.offset) (nat_lt f.offset (2 ^ 32)) allowed.0 (lt-ltb f.offset (2 ^ 32) allowed.1))
        (judges_form.only (form_of b.locals (step_of b f)) s t (chosen b f) allowed.2 runs);
  }
    where
      chosen : (b : Before) (f : Frame) → IsSound (form_of b.locals (step_of b f))
      chosen b f = sound b.locals (step_of b f).delta f.locals f.stack

  frames_found : (b : Before) (fs : List Frame) (s u : Tally) → IsSmall s.room → judge_frames es b fs s ≡ Some u
      → AreFrames es b fs × Runs es (frames_spell es b fs) s u
  frames_found b [] s u small h = (tt, subst (λ (t : Tally). Runs es [] s t) (some_eq s u h) (runs_nothing es s))
  frames_found b (f ∷ fs) s u small h =
      let q = on_some (judge_frame es b f s) (judge_frames es (after f) fs) u h in
      let r = (judges_frame b).found f s q.0 tt small q.1 in
      let fits = left_small (widths ((frame es b).spell f)) s.room q.0.room small r.1.room in
      let v = frames_found (after f) fs q.0 u fits q.2 in
      ((r.0, v.0), runs_both es ((frame es b).spell f) (frames_spell es (after f) fs) s q.0 u r.1 v.1)

  frames_only : (b : Before) (fs : List Frame) (s u : Tally) → AreFrames es b fs
      → Runs es (frames_spell es b fs) s u → judge_frames es b fs s ≡ Some u
  frames_only b [] s u allowed runs = ap (λ (t : Tally). Some t) (nothing_runs es s u runs)
  frames_only b (f ∷ fs) s u allowed runs =
      let q = runs_parts es ((frame es b).spell f) (frames_spell es (after f) fs) s u runs in
      so_on (judge_frame es b f s) (judge_frames es (after f) fs) q.0 u
      ((judges_frame b).only f s q.0 tt allowed.0 q.1) (frames_only (after f) fs q.0 u allowed.1 q.2)

  judges_frames : (b : Before) (n : ℕ) → Judges es (frames es b n) (λ fs. length fs ≡ n) (judge_frames es b)
  judges_frames b n = record {
    found = λ fs s t is small h. let q = frames_found b fs s t small h in ((is, q.0), q.1);
    only = λ fs s t is allowed runs. frames_only b fs s t allowed.1 runs;
  }

  judges_counted_frames : (start : Before) → Judges es (counted_frames es start) Any (judge_counted_frames es start)
  judges_counted_frames start =
      let whole = judges_seq es (number w16 (is_some_count es)) (frames es start) (judge_number w16 (is_some_count es))
      (λ n. judge_frames es start) (judges_number es w16 half (is_some_count es)) (judges_frames start) in
      record {
        found = λ fs s t p small h. whole.found (length fs, fs) s t (tt, refl) small h;
        only = λ fs s t p allowed runs. whole.only (length fs, fs) s t (tt, refl) allowed runs;
      }

  -- the attributes of code
  abbrev judge_table : Before → ℕ → List Frame → Tally → Option Tally
  judge_table start n =
      judge_one (n == 0) (λ fs. judge_in (λ u s. Some s) (no_frames_inside es fs))
      (judge_attribute es (codes "StackMapTable") (judge_counted_frames es start))

  attributes_judged : (start : Before) (fs : List Frame) (s : Tally)
      → judge_seq (judge_number w16 (is_table_count es)) (judge_table start) (table_count es fs, fs) s
      ≡ judge_code_attributes es start fs s
  attributes_judged start [] s = on_done (took 2 s)
  attributes_judged start (f ∷ fs) s = refl

  judges_table : (start : Before) (n : ℕ)
      → Judges es (choose (n == 0) (no_frames es) (attribute es (codes "StackMapTable") (counted_frames es start))) Any
      (judge_table start n)
  judges_table start n =
      judges_one es (n == 0) _ _ _ _
      (knows es _ _ (λ fs u. in_known (λ a. tt) (no_frames_inside es fs))
      (judges_variant es (λ (u : Unit {0}). []) (no_frames_inside es) nothing (λ u s. Some s) judges_nothing))
      (judges_attribute es (codes "StackMapTable") (counted_frames es start) (judge_counted_frames es start)
      (judges_counted_frames start))

  pub judges_code_attributes : (start : Before) → Judges es (code_attributes es start) Any (judge_code_attributes es start)
  judges_code_attributes start =
      let whole = judges_seq es (number w16 (is_table_count es))
      (λ n. choose (n == 0) (no_frames es) (attribute es (codes "StackMapTable") (counted_frames es start)))
      (judge_number w16 (is_table_count es)) (judge_table start) (judges_number es w16 half (is_table_count es))
      (judges_table start) in
      record {
        found = λ fs s t p small h.
            whole.found (table_count es fs, fs) s t (tt, tt) small (attributes_judged start fs s ∙ h);
        only = λ fs s t p allowed runs.
            sym (attributes_judged start fs s) ∙ whole.only (table_count es fs, fs) s t (tt, tt) allowed runs;
      }
