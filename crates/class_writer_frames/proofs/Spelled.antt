-- The bytes of a form, and what is allowed in one.
use Rattle.std.proofs.Common.{◌≡◌, ℕ, zero, suc, ◌+◌, ◌-◌, ◌<◌, ◌≤◌, ◌^◌, Bool, true, false, cond, eqb, List, [], ◌∷◌, ◌++◌, length, map, drop, get_or, Option, Some, None, refl, sym, ap, subst, ◌∙◌, append_assoc, arith}
use Rattle.std.specs.Prelude.{nat_lt}
use Rattle.std.specs.Int.{w8, w16, to_be_bytes}
use Rattle.std.proofs.lemmas.Bool.{lt-ltb, le-ltb, eq-eqb}
use Rattle.std.proofs.lemmas.List.{append-nil, drop_more}
use Rattle.jvm_pool.specs.declared.entries.Entry.{Entry}
use Rattle.jvm_pieces.specs.Pieces.{Piece, pieces}
use Rattle.jvm_class_types.specs.declared.frames.FrameType.{FrameType}
use Rattle.jvm_class_types.specs.declared.frames.Frame as rust_frame
use Rattle.jvm_class_types.specs.Seen.{Frame, frame_seen}
use Rattle.jvm_class_formats.specs.Formats.{u2, seq, allowed_in, spelled_in, times, counted}
use Rattle.jvm_class_formats.proofs.Steps.{pieces-append}
use Rattle.jvm_frames_forms.specs.FormsSeen.{form_seen, IsForm}
use Rattle.jvm_frames_forms.specs.declared.forms.Form as rust_form
use Rattle.jvm_frames_forms.specs.declared.forms.Form.TheVariants as rust
use Rattle.jvm_maps.specs.Types.{frame_type}
use Rattle.jvm_maps.specs.Frames.{Form, Same, SameOne, SameOneFar, Chop, SameFar, Append, Full, Kind, IsSame, IsSameOne, IsSameOneFar, IsChop, IsSameFar, IsAppend, IsFull, kind_of, kind_tag, tagged, same_inside, same_one_inside, chop_inside, append_inside, nothing, behind_kind, behind, form, meaning, Step, Before, form_of, step_of, delta_of, frame, frames_spell, after}
use Rattle.jvm_maps.proofs.FormLaws.{form_means}
use Rattle.class_writer_frames.specs.Tails.{tail, HasTypes}

-- ---- tags

one_to_three : (k : ℕ) → 0 < k → k ≤ 3 → (P : ℕ → Type 0) → P 1 → P 2 → P 3 → P k
one_to_three zero lt le P a b c = absurd (omega arith)
one_to_three (suc zero) lt le P a b c = a
one_to_three (suc (suc zero)) lt le P a b c = b
one_to_three (suc (suc (suc zero))) lt le P a b c = c
one_to_three (suc (suc (suc (suc n)))) lt le P a b c = absurd (omega arith)

-- a tag stands for its kind
pub kind_again : (f : rust_form.Form) → IsForm f → tagged (kind_tag (kind_of (form_seen f))) ≡ Some (kind_of
    (form_seen f))
unfolding tagged
kind_again (rust.Same d) lt = rw (lt-ltb d 64 lt) refl
kind_again (rust.SameOne d t) lt =
    let high : nat_lt (64 + d) 64 ≡ false = le-ltb (64 + d) 64 (omega arith) in
    let low : nat_lt (64 + d) 128 ≡ true = lt-ltb (64 + d) 128 (omega (arith, lt)) in
    let back : 64 + d - 64 ≡ d = omega arith in
    rw (high, low, back) refl
kind_again (rust.SameOneFar d t) u = refl
kind_again (rust.Chop k d) h = one_to_three k h.0 h.1 (λ j. tagged (251 - j) ≡ Some (IsChop j)) refl refl refl
kind_again (rust.SameFar d) u = refl
kind_again (rust.Append k d more) h = one_to_three k h.0 h.1 (λ j. tagged (251 + j) ≡ Some (IsAppend j)) refl refl refl
kind_again (rust.Full d locals stack) u = refl

same_into : (d : ℕ) → same_inside d (Same d) ≡ Some tt
same_into d = ap (λ (b : Bool). cond b (Some tt) None) (eq-eqb d d refl)

same_one_into : (d : ℕ) (t : FrameType) → same_one_inside d (SameOne d t) ≡ Some t
same_one_into d t = ap (λ (b : Bool). cond b (Some t) None) (eq-eqb d d refl)

chop_into : (k d : ℕ) → chop_inside k (Chop k d) ≡ Some d
chop_into k d = ap (λ (b : Bool). cond b (Some d) None) (eq-eqb k k refl)

append_into : (k d : ℕ) (more : List FrameType) → append_inside k (Append k d more) ≡ Some (d, more)
append_into k d more = ap (λ (b : Bool). cond b (Some (d, more)) None) (eq-eqb k k refl)

module _ (es : List Entry) where
  -- ---- the bytes of a form

  behind_bytes : (f : Form) → pieces es ((behind_kind es (kind_of f)).spell f) ≡ tail es f
  behind_bytes (Same d) = ap (λ (o : Option (Unit {0})). pieces es (spelled_in nothing o)) (same_into d)
  behind_bytes (SameOne d t) = ap (λ (o : Option FrameType). pieces es (spelled_in (frame_type es) o)) (same_one_into
      d t)
  behind_bytes (SameOneFar d t) = refl
  behind_bytes (Chop k d) =
      ap (λ (o : Option ℕ). pieces es (spelled_in u2 o)) (chop_into k d) ∙ append-nil (to_be_bytes w16 d)
  behind_bytes (SameFar d) = append-nil (to_be_bytes w16 d)
  behind_bytes (Append k d more) =
      ap (λ (o : Option (ℕ × List FrameType)). pieces es (spelled_in (seq u2 (λ d. times (frame_type es) k)) o))
      (append_into k d more)
  behind_bytes (Full d locals stack) =
      ap (λ (l : List ℕ). to_be_bytes w16 d ++ l)
      (pieces-append es ((counted (frame_type es)).spell locals) ((counted (frame_type es)).spell stack))

  pub form_bytes : (f : rust_form.Form) → IsForm f → pieces es ((form es).spell (form_seen f))
      ≡ to_be_bytes w8 (kind_tag (kind_of (form_seen f))) ++ tail es (form_seen f)
  form_bytes f bounded =
      ap (λ (o : Option Kind). to_be_bytes w8 (kind_tag (kind_of (form_seen f))) ++ pieces es ((behind es o).spell
      (form_seen f)))
      (kind_again f bounded)
      ∙ ap (λ (l : List ℕ). to_be_bytes w8 (kind_tag (kind_of (form_seen f))) ++ l) (behind_bytes (form_seen f))

  -- ---- what is allowed in a form

  types_in : (f : Form) → (behind_kind es (kind_of f)).allows f → HasTypes es f
  types_in (Same d) h = tt
  types_in (SameOne d t) h = subst (allowed_in (frame_type es)) (same_one_into d t) h
  types_in (SameOneFar d t) h = h.1
  types_in (Chop k d) h = tt
  types_in (SameFar d) h = tt
  types_in (Append k d more) h =
      (subst (allowed_in (seq u2 (λ d. times (frame_type es) k))) (append_into k d more) h).1.1
  types_in (Full d locals stack) h = h.1

  pub has_types : (f : rust_form.Form) → IsForm f → (form es).allows (form_seen f) → HasTypes es (form_seen f)
  has_types f bounded h =
      types_in (form_seen f) (subst (λ (o : Option Kind). (behind es o).allows (form_seen f)) (kind_again f bounded)
      h.1)

  -- ---- the delta of an allowed form fits two bytes

  abbrev delta_in : Form → ℕ
  delta_in (Same d) = d
  delta_in (SameOne d t) = d
  delta_in (SameOneFar d t) = d
  delta_in (Chop k d) = d
  delta_in (SameFar d) = d
  delta_in (Append k d more) = d
  delta_in (Full d locals stack) = d

  same_delta : (locals : List FrameType) (f : Form) → (meaning locals f).delta ≡ delta_in f
  same_delta locals (Same d) = refl
  same_delta locals (SameOne d t) = refl
  same_delta locals (SameOneFar d t) = refl
  same_delta locals (Chop k d) = refl
  same_delta locals (SameFar d) = refl
  same_delta locals (Append k d more) = refl
  same_delta locals (Full d others stack) = refl

  chop_delta : (k d : ℕ) (o : Option Kind) → (behind es o).allows (Chop k d) → d < 2 ^ 16
  chop_delta k d None h = absurd h
  chop_delta k d (Some (IsSame e)) h = absurd h
  chop_delta k d (Some (IsSameOne e)) h = absurd h
  chop_delta k d (Some IsSameOneFar) h = absurd h
  chop_delta k d (Some (IsChop j)) h = by (eqb k j) h
    where
      by : (b : Bool) → allowed_in u2 (cond b (Some d) None) → d < 2 ^ 16
      by true h = h.0
      by false h = absurd h
  chop_delta k d (Some IsSameFar) h = absurd h
  chop_delta k d (Some (IsAppend j)) h = absurd h
  chop_delta k d (Some IsFull) h = absurd h

  append_delta : (k d : ℕ) (more : List FrameType) (o : Option Kind) → (behind es o).allows (Append k d more)
      → d < 2 ^ 16
  append_delta k d more None h = absurd h
  append_delta k d more (Some (IsSame e)) h = absurd h
  append_delta k d more (Some (IsSameOne e)) h = absurd h
  append_delta k d more (Some IsSameOneFar) h = absurd h
  append_delta k d more (Some (IsChop j)) h = absurd h
  append_delta k d more (Some IsSameFar) h = absurd h
  append_delta k d more (Some (IsAppend j)) h = by (eqb k j) h
    where
      by : (b : Bool) → allowed_in (seq u2 (λ d. times (frame_type es) j)) (cond b (Some (d, more)) None) → d < 2 ^ 16
      by true h = h.0.0
      by false h = absurd h
  append_delta k d more (Some IsFull) h = absurd h

  allowed_delta : (f : Form) → (form es).allows f → delta_in f < 2 ^ 16
  unfolding tagged
  allowed_delta (Same d) h = let lt : d < 2 ^ 8 = h.0.0 in omega (arith, lt)
  allowed_delta (SameOne d t) h = let lt : 64 + d < 2 ^ 8 = h.0.0 in omega (arith, lt)
  allowed_delta (SameOneFar d t) h = h.1.0.0
  allowed_delta (Chop k d) h = chop_delta k d (tagged (251 - k)) h.1
  allowed_delta (SameFar d) h = h.1.0
  allowed_delta (Append k d more) h = append_delta k d more (tagged (251 + k)) h.1
  allowed_delta (Full d locals stack) h = h.1.0.0

  pub delta_fits : (b : Before) (f : Frame) → (frame es b).allows f → delta_of b.offset f.offset < 2 ^ 16
  delta_fits b f h =
      let written = form_of b.locals (step_of b f) in
      let lt = allowed_delta written h.2 in
      let is : delta_in written ≡ delta_of b.offset f.offset =
      sym (same_delta b.locals written) ∙ ap (λ (s : Step). s.delta) (form_means b.locals (step_of b f)) in
      omega (arith, lt, is)

  -- ---- frames one by one

  pub frames_more : (b : Before) (f : Frame) (rest : List Frame) (into new all : List ℕ)
      → new ≡ into ++ pieces es ((frame es b).spell f) → into ++ pieces es (frames_spell es b (f ∷ rest)) ≡ all
      → new ++ pieces es (frames_spell es (after f) rest) ≡ all
  frames_more b f rest into new all put so_far =
      ap (λ (l : List ℕ). l ++ pieces es (frames_spell es (after f) rest)) put
      ∙ append_assoc into (pieces es ((frame es b).spell f)) (pieces es (frames_spell es (after f) rest))
      ∙ ap (λ (l : List ℕ). into ++ l) (sym (pieces-append es ((frame es b).spell f) (frames_spell es (after f) rest)))
      ∙ so_far

-- the frames that are left begin with the next
pub frames_left : (fs : List rust_frame.Frame) (i : ℕ) (x : rust_frame.Frame) → i < length fs → x ≡ get_or fs i x
    → map frame_seen (drop i fs) ≡ frame_seen x ∷ map frame_seen (drop (i + 1) fs)
frames_left fs i x lt is =
    ap (map frame_seen) (drop_more fs i x lt ∙ ap (λ (y : rust_frame.Frame). y ∷ drop (i + 1) fs) (sym is))
