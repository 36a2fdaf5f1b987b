-- Frames that are read one behind the other.
use Rattle.std.proofs.Common.{◌≡◌, ℕ, zero, suc, ◌+◌, ◌-◌, List, [], ◌∷◌, ◌++◌, length, map, Some, None, Result, Ok, Err, zero-add, arith, refl, sym, ap, ◌∙◌}
use Rattle.jvm_pool.specs.declared.entries.Entry.{Entry}
use Rattle.std.specs.Prelude.{slice_get}
use Rattle.jvm_class_types.specs.declared.frames.Frame as rust_frame
use Rattle.jvm_class_types.specs.Seen.{Frame, frame_seen}
use Rattle.jvm_class_formats.specs.Formats.{Spot, ◌>>=◌}
use Rattle.jvm_class_formats.proofs.Steps.{bind_ok, done, done_is}
use Rattle.jvm_maps.specs.Frames.{Before, frame, after, frames_at}
use Rattle.jvm_class_formats.specs.Reads.{Reads}
use Rattle.jvm_class_formats.specs.declared.errors.ReadErr.{ReadErr}
use Rattle.jvm_class_formats.specs.declared.errors.ReadErr.TheVariants.{BadBytes, NoMemory}
use Rattle.jvm_frames.specs.Behind.{behind_all}

pub behind_push : (b : Before) (fs : List Frame) (f : Frame) → behind_all b (fs ++ f ∷ []) ≡ after f
behind_push b [] f = refl
behind_push b (g ∷ fs) f = behind_push (after g) fs f

module _ (es : List Entry) where
  next : (b : Before) (n : ℕ) → Frame × Spot → Result (List Frame × Spot) ℕ
  next b n x = frames_at es (after x.0) n x.1 >>= λ rest. done (x.0 ∷ rest.0, rest.1)

  -- one more frame is read
  pub one_more : (b : Before) (n : ℕ) (s : Spot) (fs : List Frame) (t : Spot) (x : Frame × Spot)
      → frames_at es b n s ≡ Ok (fs, t) → (frame es (behind_all b fs)).read t ≡ Ok x
      → frames_at es b (suc n) s ≡ Ok (fs ++ x.0 ∷ [], x.1)
  one_more b zero s fs t x h more =
      let e = done_is ([], s) (fs, t) h in
      let fs_is : [] ≡ fs = ap (λ (y : List Frame × Spot). y.0) e in
      let t_is : s ≡ t = ap (λ (y : List Frame × Spot). y.1) e in
      let first : (frame es b).read s ≡ Ok x =
      ap (λ (y : List Frame × Spot). (frame es (behind_all b y.0)).read y.1) e ∙ more in
      ap (λ (r : Result (Frame × Spot) ℕ).
      r >>= λ a. frames_at es (after a.0) zero a.1 >>= λ rest. done {A = List Frame × Spot}
      (a.0 ∷ rest.0, rest.1)) first
      ∙ ap (λ (l : List Frame). done {A = List Frame × Spot} (l ++ x.0 ∷ [], x.1)) fs_is
  one_more b (suc n) s fs t x h more =
      let a = bind_ok ((frame es b).read s)
      (λ a. frames_at es (after a.0) n a.1 >>= λ rest. done (a.0 ∷ rest.0, rest.1)) (fs, t) h in
      let r = bind_ok (frames_at es (after a.0.0) n a.0.1) (λ rest. done (a.0.0 ∷ rest.0, rest.1)) (fs, t) a.2 in
      let e : (a.0.0 ∷ r.0.0, r.0.1) ≡ (fs, t) = done_is (a.0.0 ∷ r.0.0, r.0.1) (fs, t) r.2 in
      let later : (frame es (behind_all (after a.0.0) r.0.0)).read r.0.1 ≡ Ok x =
      ap (λ (y : List Frame × Spot). (frame es (behind_all b y.0)).read y.1) e ∙ more in
      let rest = one_more (after a.0.0) n a.0.1 r.0.0 r.0.1 x r.1 later in
      ap (λ (r : Result (Frame × Spot) ℕ).
      r >>= λ a. frames_at es (after a.0) (suc n) a.1 >>= λ rest. done {A = List Frame × Spot}
      (a.0 ∷ rest.0, rest.1)) a.1
      ∙ ap (λ (r : Result (List Frame × Spot) ℕ). r >>= λ rest. done {A = List Frame × Spot}
      (a.0.0 ∷ rest.0, rest.1)) rest
      ∙ ap (λ (l : List Frame). done {A = List Frame × Spot} (l ++ x.0 ∷ [], x.1)) (ap (λ
      (y : List Frame × Spot). y.0) e)

  -- where the next is refused, so are these with it
  pub refused_then : (b : Before) (n m : ℕ) (s : Spot) (fs : List Frame) (t : Spot) (at : ℕ)
      → frames_at es b n s ≡ Ok (fs, t) → (frame es (behind_all b fs)).read t ≡ Err at
      → frames_at es b (n + suc m) s ≡ Err at
  refused_then b zero m s fs t at h more =
      let e = done_is ([], s) (fs, t) h in
      let first : (frame es b).read s ≡ Err at =
      ap (λ (y : List Frame × Spot). (frame es (behind_all b y.0)).read y.1) e ∙ more in
      rw zero-add (ap (λ (r : Result (Frame × Spot) ℕ).
      r >>= λ a. frames_at es (after a.0) m a.1 >>= λ rest. done {A = List Frame × Spot} (a.0 ∷ rest.0, rest.1)) first)
  refused_then b (suc n) m s fs t at h more =
      let a = bind_ok ((frame es b).read s)
      (λ a. frames_at es (after a.0) n a.1 >>= λ rest. done (a.0 ∷ rest.0, rest.1)) (fs, t) h in
      let r = bind_ok (frames_at es (after a.0.0) n a.0.1) (λ rest. done (a.0.0 ∷ rest.0, rest.1)) (fs, t) a.2 in
      let e : (a.0.0 ∷ r.0.0, r.0.1) ≡ (fs, t) = done_is (a.0.0 ∷ r.0.0, r.0.1) (fs, t) r.2 in
      let later : (frame es (behind_all (after a.0.0) r.0.0)).read r.0.1 ≡ Err at =
      ap (λ (y : List Frame × Spot). (frame es (behind_all b y.0)).read y.1) e ∙ more in
      let rest = refused_then (after a.0.0) n m a.0.1 r.0.0 r.0.1 at r.1 later in
      let size : suc n + suc m ≡ suc (n + suc m) = omega arith in
      ap (λ (k : ℕ). frames_at es b k s) size
      ∙ ap (λ (r : Result (Frame × Spot) ℕ).
      r >>= λ a. frames_at es (after a.0) (n + suc m) a.1 >>= λ rest. done {A = List Frame × Spot}
      (a.0 ∷ rest.0, rest.1)) a.1
      ∙ ap (λ (r : Result (List Frame × Spot) ℕ). r >>= λ rest. done {A = List Frame × Spot}
      (a.0.0 ∷ rest.0, rest.1)) rest

  pub next_refused : {X Z : Type 0} (view : X → Frame × Spot) (seen : Z → List Frame × Spot) (e : ReadErr) (b : Before)
      (n m : ℕ) (s : Spot) (fs : List Frame) (t : Spot) → frames_at es b n s ≡ Ok (fs, t)
      → Reads view (Err e) ((frame es (behind_all b fs)).read t) → Reads seen (Err e) (frames_at es b (n + suc m) s)
  next_refused view seen (BadBytes at) b n m s fs t h more = refused_then b n m s fs t at h more
  next_refused view seen NoMemory b n m s fs t h more = tt

-- ---- the last of some frames

last_at : (b : Before) (fs : List rust_frame.Frame) (n : ℕ) (f : rust_frame.Frame) → length fs ≡ suc n
    → slice_get fs n ≡ Some f → behind_all b (map frame_seen fs) ≡ after (frame_seen f)
last_at b [] n f len is = absurd cc
last_at b (g ∷ []) zero f len is =
    let e : g ≡ f = cc in ap (λ (x : rust_frame.Frame). after (frame_seen x)) e
last_at b (g ∷ []) (suc n) f len is = absurd cc
last_at b (g ∷ h ∷ fs) zero f len is = absurd (omega (arith, len))
last_at b (g ∷ h ∷ fs) (suc n) f len is =
    let e : length (h ∷ fs) ≡ suc n = omega (arith, len) in last_at (after (frame_seen g)) (h ∷ fs) n f e is

pub last_behind : (b : Before) (fs : List rust_frame.Frame) (f : rust_frame.Frame)
    → Some f ≡ slice_get fs (length fs - 1) → behind_all b (map frame_seen fs) ≡ after (frame_seen f)
last_behind b [] f is = absurd cc
last_behind b (g ∷ fs) f is =
    let n : length (g ∷ fs) - 1 ≡ length fs = omega arith in
    last_at b (g ∷ fs) (length fs) f (omega arith) (ap (slice_get (g ∷ fs)) (sym n) ∙ sym is)

some_last : (g : rust_frame.Frame) (fs : List rust_frame.Frame) (n : ℕ) → n ≡ length fs
    → (x : rust_frame.Frame) × (slice_get (g ∷ fs) n ≡ Some x)
some_last g [] zero is = (g, refl)
some_last g [] (suc n) is = absurd (omega (arith, is))
some_last g (h ∷ fs) zero is = absurd (omega (arith, is))
some_last g (h ∷ fs) (suc n) is = some_last h fs n (omega (arith, is))

pub none_last : (b : Before) (fs : List rust_frame.Frame) → None ≡ slice_get fs (length fs - 1)
    → behind_all b (map frame_seen fs) ≡ b
none_last b [] is = refl
none_last b (g ∷ fs) is =
    let x = some_last g fs (length (g ∷ fs) - 1) (omega arith) in
    absurd cc
