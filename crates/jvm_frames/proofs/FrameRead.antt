-- A frame is read by its tag, then what stands behind the tag, and is judged by its kind.
use Rattle.std.proofs.Common.{◌≡◌, ℕ, ◌^◌, Bool, true, false, ◌&&◌, cond, List, Option, Some, Result, Ok, Err, refl, sym, ap, ◌∙◌}
use Rattle.std.specs.Prelude.{nat_lt}
use Rattle.std.specs.Int.{w8}
use Rattle.jvm_pool.specs.declared.entries.Entry.{Entry}
use Rattle.jvm_class_types.specs.Seen.{Frame}
use Rattle.jvm_class_formats.specs.Formats.{Spot, here, ◌>>=◌, number_at, seq, times, counted, u2}
use Rattle.jvm_class_formats.proofs.Steps.{bind_ok, done, done_is}
use Rattle.jvm_maps.specs.Types.{frame_type}
use Rattle.jvm_maps.specs.Frames.{Step, Form, Same, SameOne, SameOneFar, Chop, SameFar, Append, Full, meaning, form_of, Kind, IsSame, IsSameOne, IsSameOneFar, IsChop, IsSameFar, IsAppend, IsFull, kind_of, tagged, is_frame_tag, behind_kind, behind, same_form, Before, offset_of, frame_of, framed, inside}
use Rattle.jvm_maps.proofs.FormLaws.{form_means}
use Rattle.jvm_frames_forms.specs.KindsSeen.{same_kind}
use Rattle.jvm_frames_forms.proofs.KindsTell.{kinds_tell}
use Rattle.jvm_class_formats.specs.Reads.{Reads}
use Rattle.jvm_class_formats.specs.declared.errors.ReadErr.{ReadErr}
use Rattle.jvm_class_formats.specs.declared.errors.ReadErr.TheVariants.{BadBytes, NoMemory}
use Rattle.jvm_frames.specs.StepSeen.{meant, judged, placed, framed_so}

-- what is read behind the tag of a kind is of the kind
pub kind_read : (es : List Entry) (k : Kind) (s : Spot) (x : Form × Spot) → (behind_kind es k).read s ≡ Ok x
    → kind_of x.0 ≡ k
kind_read es (IsSame d) s x h = sym (ap (λ (y : Form × Spot). kind_of y.0) (done_is (Same d, s) x h))
kind_read es (IsSameOne d) s x h =
    let a = bind_ok ((frame_type es).read s) (λ a. done (SameOne d a.0, a.1)) x h in
    sym (ap (λ (y : Form × Spot). kind_of y.0) (done_is (SameOne d a.0.0, a.0.1) x a.2))
kind_read es IsSameOneFar s x h =
    let f = seq u2 (λ d. frame_type es) in
    let a = bind_ok (f.read s) (λ a. done (SameOneFar a.0.0 a.0.1, a.1)) x h in
    sym (ap (λ (y : Form × Spot). kind_of y.0) (done_is (SameOneFar a.0.0.0 a.0.0.1, a.0.1) x a.2))
kind_read es (IsChop k) s x h =
    let a = bind_ok (u2.read s) (λ a. done (Chop k a.0, a.1)) x h in
    sym (ap (λ (y : Form × Spot). kind_of y.0) (done_is (Chop k a.0.0, a.0.1) x a.2))
kind_read es IsSameFar s x h =
    let a = bind_ok (u2.read s) (λ a. done (SameFar a.0, a.1)) x h in
    sym (ap (λ (y : Form × Spot). kind_of y.0) (done_is (SameFar a.0.0, a.0.1) x a.2))
kind_read es (IsAppend k) s x h =
    let f = seq u2 (λ d. times (frame_type es) k) in
    let a = bind_ok (f.read s) (λ a. done (Append k a.0.0 a.0.1, a.1)) x h in
    sym (ap (λ (y : Form × Spot). kind_of y.0) (done_is (Append k a.0.0.0 a.0.0.1, a.0.1) x a.2))
kind_read es IsFull s x h =
    let f = seq u2 (λ d. seq (counted (frame_type es)) (λ locals. counted (frame_type es))) in
    let a = bind_ok (f.read s) (λ a. done (Full a.0.0 a.0.1.0 a.0.1.1, a.1)) x h in
    sym (ap (λ (y : Form × Spot). kind_of y.0) (done_is (Full a.0.0.0 a.0.0.1.0 a.0.0.1.1, a.0.1) x a.2))

passed_on : (t at : ℕ) (b : Before) (r : Result (Form × Spot) ℕ)
    → ((r >>= λ x. done {A = (ℕ × Form) × Spot} ((t, x.0), x.1)) >>= (λ a. done {A = Form × Spot}
    (a.0.1, a.1)) >>= framed b at)
    ≡ (r >>= framed b at)
passed_on t at b (Ok x) = refl
passed_on t at b (Err e) = refl

-- behind its tag a frame is read by its kind
pub tag_read : (es : List Entry) (b : Before) (s t : Spot) (tag : ℕ) (k : Kind) → number_at w8 is_frame_tag s ≡ Ok
    (tag, t)
    → tagged tag ≡ Some k → (inside es b).read s ≡ ((behind_kind es k).read t >>= framed b (here s))
tag_read es b s t tag k is kind =
    ap (λ (r : Result (ℕ × Spot) ℕ). (r >>= λ a. (behind es (tagged a.0)).read a.1 >>= λ x. done {A =
    (ℕ × Form) × Spot} ((a.0, x.0), x.1))
    >>= (λ a. done {A = Form × Spot} (a.0.1, a.1)) >>= framed b (here s)) is
    ∙ ap (λ (o : Option Kind). ((behind es o).read t >>= λ x. done {A = (ℕ × Form) × Spot} ((tag, x.0), x.1))
    >>= (λ a. done {A = Form × Spot} (a.0.1, a.1)) >>= framed b (here s)) kind
    ∙ passed_on tag (here s) b ((behind_kind es k).read t)

chosen : {A : Type 0} (c : Bool) (a : A) (s : Spot) (at : ℕ)
    → cond c (done {A = A × Spot} (a, s)) (Err at) ≡ placed s (cond c (done a) (Err at))
chosen true a s at = refl
chosen false a s at = refl

-- a form that was read is judged by its kind and by what it stands for
pub judged_so : (b : Before) (at : ℕ) (k : Kind) (r : Result (Form × Spot) ℕ) (st : Step) (s : Spot)
    → ((x : Form × Spot) → r ≡ Ok x → kind_of x.0 ≡ k) → meant b.locals r ≡ Ok (st, s)
    → (r >>= framed b at) ≡ placed s (judged at b k st)
judged_so b at k (Err e) st s kinds h = absurd cc
judged_so b at k (Ok x) st s kinds h =
    let e : (meaning b.locals x.0, x.1) ≡ (st, s) = done_is (meaning b.locals x.0, x.1) (st, s) h in
    let means : meaning b.locals x.0 ≡ st = ap (λ (y : Step × Spot). y.0) e in
    let behind_is : x.1 ≡ s = ap (λ (y : Step × Spot). y.1) e in
    let first : same_form (form_of b.locals (meaning b.locals x.0)) x.0
    ≡ same_kind (kind_of (form_of b.locals (meaning b.locals x.0))) k =
    kinds_tell b.locals (form_of b.locals (meaning b.locals x.0)) x.0 (form_means b.locals (meaning b.locals x.0))
    ∙ ap (same_kind (kind_of (form_of b.locals (meaning b.locals x.0)))) (kinds x refl) in
    ap (λ (c : Bool). cond (c && nat_lt (offset_of b.offset (meaning b.locals x.0).delta) (2 ^ 32))
    (done {A = Frame × Spot} (frame_of b (meaning b.locals x.0), x.1)) (Err at)) first
    ∙ ap (λ (y : Step × Spot). cond (same_kind (kind_of (form_of b.locals y.0)) k && nat_lt
    (offset_of b.offset y.0.delta) (2 ^ 32))
    (done {A = Frame × Spot} (frame_of b y.0, y.1)) (Err at)) e
    ∙ chosen (same_kind (kind_of (form_of b.locals st)) k && nat_lt (offset_of b.offset st.delta) (2 ^ 32))
    (frame_of b st) s at

pub meant_fails : (b : Before) (at stop : ℕ) (r : Result (Form × Spot) ℕ) → meant b.locals r ≡ Err stop
    → (r >>= framed b at) ≡ Err stop
meant_fails b at stop (Ok x) h = absurd cc
meant_fails b at stop (Err e) h = let is : e ≡ stop = cc in ap (λ (n : ℕ). Err n) is

-- ---- refusals

pub judged_refused : {X Y : Type 0} (view : X → Frame) (seen : Y → Frame × Spot) (e : ReadErr) (b : Before) (at : ℕ)
    (k : Kind) (r : Result (Form × Spot) ℕ) (st : Step) (s : Spot) → ((x : Form × Spot) → r ≡ Ok x → kind_of x.0 ≡ k)
    → meant b.locals r ≡ Ok (st, s) → Reads view (Err e) (judged at b k st) → Reads seen (Err e) (framed_so b at r)
judged_refused view seen (BadBytes stop) b at k r st s kinds h bad = judged_so b at k r st s kinds h ∙ ap (placed s) bad
judged_refused view seen NoMemory b at k r st s kinds h bad = tt

pub meant_refused : {X Y : Type 0} (view : X → Step × Spot) (seen : Y → Frame × Spot) (e : ReadErr) (b : Before)
    (at : ℕ)
    (r : Result (Form × Spot) ℕ) → Reads view (Err e) (meant b.locals r) → Reads seen (Err e) (framed_so b at r)
meant_refused view seen (BadBytes stop) b at r h = meant_fails b at stop r h
meant_refused view seen NoMemory b at r h = tt

pub tag_refused : {X Y : Type 0} (view : X → ℕ × Spot) (seen : Y → Frame × Spot) (e : ReadErr) (es : List Entry)
    (b : Before) (s : Spot) → Reads view (Err e) (number_at w8 is_frame_tag s) → Reads seen (Err e)
    ((inside es b).read s)
tag_refused view seen (BadBytes stop) es b s h =
    ap (λ (r : Result (ℕ × Spot) ℕ). (r >>= λ a. (behind es (tagged a.0)).read a.1 >>= λ x. done {A =
    (ℕ × Form) × Spot} ((a.0, x.0), x.1))
    >>= (λ a. done {A = Form × Spot} (a.0.1, a.1)) >>= framed b (here s)) h
tag_refused view seen NoMemory es b s h = tt
