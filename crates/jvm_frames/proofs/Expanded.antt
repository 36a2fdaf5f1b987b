-- Bytes that are frames to their end.
use Rattle.std.proofs.Common.{◌≡◌, ℕ, zero, suc, ◌+◌, ◌<◌, Bool, true, false, cond, List, [], ◌∷◌, ◌++◌, length, length-append, Option, Some, None, Ok, Err, refl, sym, ap, subst, ◌∙◌, arith, true≢false}
use Rattle.std.specs.Prelude.{nat_lt, ◌==◌}
use Rattle.std.specs.Global.{Vec}
use Rattle.std.proofs.lemmas.Bool.{lt-ltb, eqb-true}
use Rattle.std.proofs.lemmas.List.{append-nil}
use Rattle.jvm_pool.specs.declared.entries.Entry.{Entry}
use Rattle.jvm_pool.specs.Entries.{size, units, behind}
use Rattle.jvm_pool.specs.Mentions.{seek, place, then_count, count_each, count_mention, count_mentions}
use Rattle.jvm_pieces.specs.Pieces.{mentions, pieces}
use Rattle.jvm_class_types.specs.Seen.{Frame, frame_seen}
use Rattle.jvm_class_types.specs.declared.frames.Frame as rust_frame
use Rattle.jvm_class_formats.specs.Formats.{Spot, spot, ◌>>=◌}
use Rattle.jvm_class_formats.specs.Lawful.{IsBytes, IsPool}
use Rattle.jvm_class_formats.specs.Reads.{Reads}
use Rattle.jvm_class_formats.specs.declared.errors.ReadErr.{ReadErr}
use Rattle.jvm_class_formats.specs.declared.errors.ReadErr.TheVariants as read_err
use Rattle.jvm_class_formats.proofs.Steps.{bind_ok, done, done_is, widths_are}
use Rattle.jvm_class_formats.proofs.Parts.{seek_below}
use Rattle.jvm_maps.specs.Frames.{Before, frame, after, frames_spell, frames_at}
use Rattle.jvm_maps.proofs.FrameLaws.{lawful_frame, frames_are_lawful}
use Rattle.jvm_frames.specs.Behind.{behind_all}
use Rattle.jvm_frames.specs.Expanding.{at_all, SpellsFrames, Stops, Gives, IfBad}
use Rattle.jvm_frames.specs.FrameErrs.{frame_err}

-- ---- a counter behind all entries stays

stays_at : (es : List Entry) (e : Entry) (o : Option ℕ) (r : Option ℕ) (d : ℕ) → seek 1 es e ≡ o
    → place o (1 + units es) r ≡ Some d → d ≡ 1 + units es
stays_at es e None r d is h = absurd cc
stays_at es e (Some i) r d is h =
    let below : i < 1 + units es = seek_below 1 es e i is in
    let t : cond (nat_lt i (1 + units es)) (Some (1 + units es)) (cond (i == (1 + units es)) r None) ≡ Some d = h in
    let k : Some (1 + units es) ≡ Some d =
    sym (ap (λ (b : Bool). cond b (Some (1 + units es)) (cond (i == (1 + units es)) r None)) (lt-ltb i
    (1 + units es) below)) ∙ t in
    cc

all_stay : (es ms : List Entry) (c d : ℕ) → c ≡ 1 + units es → count_mentions es ms c ≡ Some d → d ≡ 1 + units es
unfolding count_mentions
all_stay es [] c d is h = let e : c ≡ d = cc in sym e ∙ is
all_stay es (m ∷ ms) c d is h = by (count_mention es m c) refl h (λ k. λ at. λ g. all_stay es ms k d at g)
  where
    by : (o : Option ℕ) → count_mention es m c ≡ o → then_count o (count_mentions es ms) ≡ Some d
        → ((k : ℕ) → k ≡ 1 + units es → count_mentions es ms k ≡ Some d → d ≡ 1 + units es) → d ≡ 1 + units es
    by None is' h rest = absurd cc
    by (Some k) is' h rest =
        let counted : count_mention es m (1 + units es) ≡ Some k = ap (count_mention es m) (sym is) ∙ is' in
        rest k (stays_at es m (seek 1 es m) (count_each es (behind m) (1 + units es + size m)) k refl counted) h

module _ (es : List Entry) (pool : IsPool es) where
  -- a frame takes a byte at least
  pub shorter : (b : Before) (s : Spot) (x : Frame × Spot) → IsBytes s.bytes → (frame es b).read s ≡ Ok x
      → length x.1.bytes < length s.bytes
  shorter b s x fits h =
      let t = (lawful_frame es pool b).found s x fits h in
      let rest = widths_are es ((frame es b).spell x.0) in
      let len = ap length t.1.parts ∙ length-append (pieces es ((frame es b).spell x.0)) x.1.bytes in
      omega (arith, len, rest)

  none_left : (b : Before) (s : Spot) (x : Frame × Spot) → s.bytes ≡ [] → IsBytes s.bytes → (frame es b).read s
      ≡ Ok x → ⊥
  none_left b s x empty fits h = let e = ap length empty in absurd (omega (arith, shorter b s x fits h, e))

  behind_fits : (b : Before) (s : Spot) (x : Frame × Spot) → IsBytes s.bytes → (frame es b).read s ≡ Ok x
      → IsBytes x.1.bytes
  behind_fits b s x fits h = ((lawful_frame es pool b).found s x fits h).1.rest_fits

  pub all_fit : (b : Before) (n : ℕ) (s t : Spot) (fs : List Frame) → IsBytes s.bytes → frames_at es b n s ≡ Ok (fs, t)
      → IsBytes t.bytes
  all_fit b n s t fs fits h = ((frames_are_lawful es b n pool).found s (fs, t) fits h).1.rest_fits

  Parts : (b : Before) (n : ℕ) (s : Spot) (y : List Frame × Spot) → Type 0
  Parts b n s y = (a : Frame × Spot) × ((frame es b).read s ≡ Ok a)
      × ((r : List Frame × Spot) × (frames_at es (after a.0) n a.1 ≡ Ok r) × ((a.0 ∷ r.0, r.1) ≡ y))

  parts : (b : Before) (n : ℕ) (s : Spot) (y : List Frame × Spot) → frames_at es b (suc n) s ≡ Ok y → Parts b n s y
  unfolding Parts
  parts b n s y h =
      let a = bind_ok ((frame es b).read s)
      (λ a. frames_at es (after a.0) n a.1 >>= λ rest. done (a.0 ∷ rest.0, rest.1)) y h in
      let r = bind_ok (frames_at es (after a.0.0) n a.0.1) (λ rest. done (a.0.0 ∷ rest.0, rest.1)) y a.2 in
      (a.0, a.1, (r.0, r.1, done_is (a.0.0 ∷ r.0.0, r.0.1) y r.2))

  -- frames that are read to the end are the only ones
  pub one_reading : (b : Before) (n m : ℕ) (s t u : Spot) (fs gs : List Frame) → IsBytes s.bytes
      → frames_at es b n s ≡ Ok (fs, t) → t.bytes ≡ [] → frames_at es b m s ≡ Ok (gs, u) → u.bytes ≡ [] → fs ≡ gs
  unfolding Parts
  one_reading b zero zero s t u fs gs fits h ended g done' =
      ap (λ (y : List Frame × Spot). y.0) (sym (done_is ([], s) (fs, t) h) ∙ done_is ([], s) (gs, u) g)
  one_reading b zero (suc m) s t u fs gs fits h ended g done' =
      let p = parts b m s (gs, u) g in
      let same : s ≡ t = ap (λ (y : List Frame × Spot). y.1) (done_is ([], s) (fs, t) h) in
      absurd (none_left b s p.0 (ap (λ (y : Spot). y.bytes) same ∙ ended) fits p.1)
  one_reading b (suc n) zero s t u fs gs fits h ended g done' =
      let p = parts b n s (fs, t) h in
      let same : s ≡ u = ap (λ (y : List Frame × Spot). y.1) (done_is ([], s) (gs, u) g) in
      absurd (none_left b s p.0 (ap (λ (y : Spot). y.bytes) same ∙ done') fits p.1)
  one_reading b (suc n) (suc m) s t u fs gs fits h ended g done' =
      let p = parts b n s (fs, t) h in
      let q = parts b m s (gs, u) g in
      let same : p.0 ≡ q.0 = done_is p.0 q.0 (sym p.1 ∙ q.1) in
      let read : frames_at es (after p.0.0) m p.0.1 ≡ Ok q.2.0 =
      ap (λ (a : Frame × Spot). frames_at es (after a.0) m a.1) same ∙ q.2.1 in
      let end : p.2.0.1.bytes ≡ [] = ap (λ (y : List Frame × Spot). y.1.bytes) p.2.2 ∙ ended in
      let end' : q.2.0.1.bytes ≡ [] = ap (λ (y : List Frame × Spot). y.1.bytes) q.2.2 ∙ done' in
      let rest = one_reading (after p.0.0) n m p.0.1 p.2.0.1 q.2.0.1 p.2.0.0 q.2.0.0 (behind_fits b s p.0 fits p.1)
      p.2.1 end read end' in
      sym (ap (λ (y : List Frame × Spot). y.0) p.2.2)
      ∙ ap (λ (f : Frame). f ∷ p.2.0.0) (ap (λ (a : Frame × Spot). a.0) same)
      ∙ ap (λ (l : List Frame). q.0.0 ∷ l) rest
      ∙ ap (λ (y : List Frame × Spot). y.0) q.2.2

  -- where the next frame is refused, none are read to the end
  pub no_reading : (b : Before) (n m : ℕ) (s t u : Spot) (fs gs : List Frame) (at : ℕ) → IsBytes s.bytes
      → frames_at es b n s ≡ Ok (fs, t) → 0 < length t.bytes → (frame es (behind_all b fs)).read t ≡ Err at
      → frames_at es b m s ≡ Ok (gs, u) → u.bytes ≡ [] → ⊥
  unfolding Parts
  no_reading b zero zero s t u fs gs at fits h some bad g done' =
      let same : t ≡ u =
      ap (λ (y : List Frame × Spot). y.1) (sym (done_is ([], s) (fs, t) h) ∙ done_is ([], s) (gs, u) g) in
      let e = ap length (ap (λ (y : Spot). y.bytes) same ∙ done') in
      omega (arith, some, e)
  no_reading b zero (suc m) s t u fs gs at fits h some bad g done' =
      let p = parts b m s (gs, u) g in
      let e = done_is ([], s) (fs, t) h in
      let read : (frame es b).read s ≡ Err at =
      ap (λ (y : List Frame × Spot). (frame es (behind_all b y.0)).read y.1) e ∙ bad in
      let clash : Ok p.0 ≡ Err at = sym p.1 ∙ read in
      absurd cc
  no_reading b (suc n) zero s t u fs gs at fits h some bad g done' =
      let p = parts b n s (fs, t) h in
      let same : s ≡ u = ap (λ (y : List Frame × Spot). y.1) (done_is ([], s) (gs, u) g) in
      none_left b s p.0 (ap (λ (y : Spot). y.bytes) same ∙ done') fits p.1
  no_reading b (suc n) (suc m) s t u fs gs at fits h some bad g done' =
      let p = parts b n s (fs, t) h in
      let q = parts b m s (gs, u) g in
      let same : p.0 ≡ q.0 = done_is p.0 q.0 (sym p.1 ∙ q.1) in
      let read : frames_at es (after p.0.0) m p.0.1 ≡ Ok q.2.0 =
      ap (λ (a : Frame × Spot). frames_at es (after a.0) m a.1) same ∙ q.2.1 in
      let left : 0 < length p.2.0.1.bytes =
      subst (λ (y : List Frame × Spot). 0 < length y.1.bytes) (sym p.2.2) some in
      let refused : (frame es (behind_all (after p.0.0) p.2.0.0)).read p.2.0.1 ≡ Err at =
      ap (λ (y : List Frame × Spot). (frame es (behind_all b y.0)).read y.1) p.2.2 ∙ bad in
      let end' : q.2.0.1.bytes ≡ [] = ap (λ (y : List Frame × Spot). y.1.bytes) q.2.2 ∙ done' in
      no_reading (after p.0.0) n m p.0.1 p.2.0.1 q.2.0.1 p.2.0.0 q.2.0.0 at (behind_fits b s p.0 fits p.1) p.2.1 left
      refused read end'

  -- what is read to the end is spelled so
  pub spelled_so : (b : Before) (n : ℕ) (bytes : List ℕ) (fs : List Frame) (t : Spot) → IsBytes bytes
      → frames_at es b n (at_all es bytes) ≡ Ok (fs, t) → t.bytes ≡ [] → SpellsFrames es b bytes fs
  spelled_so b n bytes fs t fits h ended =
      let p = (frames_are_lawful es b n pool).found (at_all es bytes) (fs, t) fits h in
      let stays = all_stay es (mentions (frames_spell es b fs)) (1 + units es) t.counter refl p.1.counted in record {
        frames = p.0.1;
        in_pool = p.1.counted ∙ ap (λ (c : ℕ). Some c) stays;
        bytes_are = p.1.parts ∙ ap (λ (l : List ℕ). pieces es (frames_spell es b fs) ++ l) ended
            ∙ append-nil (pieces es (frames_spell es b fs));
      }

  -- what is spelled so is read to the end
  pub read_so : (b : Before) (bytes : List ℕ) (fs : List Frame) → SpellsFrames es b bytes fs
      → frames_at es b (length fs) (at_all es bytes) ≡ Ok (fs, spot (length bytes) (1 + units es) [])
  read_so b bytes fs s =
      ap (λ (l : List ℕ). frames_at es b (length fs) (spot (length bytes) (1 + units es) l))
      (s.bytes_are ∙ sym (append-nil (pieces es (frames_spell es b fs))))
      ∙ (frames_are_lawful es b (length fs) pool).only fs (length bytes) (1 + units es) (1 + units es) []
      (refl, s.frames) s.in_pool

  -- a refusal of the next frame: no frames are these bytes
  pub bad_only : (e : ReadErr) (b : Before) (n : ℕ) (bytes : List ℕ) (fs : List Frame) (t : Spot) → IsBytes bytes
      → frames_at es b n (at_all es bytes) ≡ Ok (fs, t) → 0 < length t.bytes
      → Reads (λ (x : rust_frame.Frame × Spot). (frame_seen x.0, x.1)) (Err e) ((frame es (behind_all b fs)).read t)
      → (gs : List Frame) → SpellsFrames es b bytes gs → Gives (Err (frame_err e)) gs
  bad_only (read_err.BadBytes at) b n bytes fs t fits h some bad gs s =
      no_reading b n (length gs) (at_all es bytes) t (spot (length bytes) (1 + units es) []) fs gs at fits h some bad
      (read_so b bytes gs s) refl
  bad_only read_err.NoMemory b n bytes fs t fits h some bad gs s = tt

  pub bad_stops : (e : ReadErr) (b : Before) (bytes : List ℕ) (fs : List Frame) (t : Spot)
      → frames_at es b (length fs) (at_all es bytes) ≡ Ok (fs, t) → 0 < length t.bytes
      → Reads (λ (x : rust_frame.Frame × Spot). (frame_seen x.0, x.1)) (Err e) ((frame es (behind_all b fs)).read t)
      → IfBad {T = Vec rust_frame.Frame} (Err (frame_err e)) (Stops es b bytes)
  bad_stops (read_err.BadBytes at) b bytes fs t h some bad =
      record { read = fs; rest = t; front = h; some_left = some; refused = bad }
  bad_stops read_err.NoMemory b bytes fs t h some bad = tt

pub empty_is : (l : List ℕ) → length l ≡ 0 → l ≡ []
empty_is [] h = refl
empty_is (x ∷ l) h = absurd (omega (arith, h))

-- what a test for no bytes tells of the bytes of a place
pub none_there : (bytes : List ℕ) (s t : Spot) (b : Bool) → s ≡ t → s.bytes ≡ bytes → b ≡ (length bytes == 0) → b ≡ true
    → t.bytes ≡ []
none_there bytes s t b same is test yes' =
    let empty : length bytes ≡ 0 = eqb-true (length bytes) 0 (sym test ∙ yes') in
    sym (ap (λ (x : Spot). x.bytes) same) ∙ is ∙ empty_is bytes empty

pub some_there : (bytes : List ℕ) (s t : Spot) (b : Bool) → s ≡ t → s.bytes ≡ bytes → b ≡ (length bytes == 0) → b
    ≡ false
    → 0 < length t.bytes
some_there bytes s t b same is test isn't =
    let there : t.bytes ≡ bytes = sym (ap (λ (x : Spot). x.bytes) same) ∙ is in
    some_of bytes (sym test ∙ isn't) there
  where
    some_of : (l : List ℕ) → (length l == 0) ≡ false → t.bytes ≡ l → 0 < length t.bytes
    some_of [] h e = absurd (true≢false h)
    some_of (x ∷ l) h e = let n = ap length e in omega (arith, n)
