-- The pieces of frames, as the format spells them, whatever the pool.
use Rattle.std.proofs.Common.{◌≡◌, ◌+◌, ◌^◌, ◌<◌, Bool, true, false, cond, eqb, zero, suc, List, [], ◌∷◌, ◌++◌, length, Option, Some, None, refl, sym, ap, subst, ◌∙◌, arith}
use Rattle.std.specs.Int.{w8, w16, to_be_bytes}
use Rattle.std.specs.List.{flat_map, AllByRecursion}
use Rattle.std.proofs.lemmas.Bool.{eq-eqb}
use Rattle.jvm_pool.specs.declared.entries.Entry.{Entry}
use Rattle.jvm_pieces.specs.Pieces.{Piece, Bytes}
use Rattle.jvm_class_types.specs.declared.frames.FrameType.{FrameType}
use Rattle.jvm_class_types.specs.declared.frames.FrameType.TheVariants as type
use Rattle.jvm_class_formats.specs.Formats.{Format, u2, seq, times, counted, allowed_in, spelled_in}
use Rattle.jvm_maps.specs.Types.{frame_type}
use Rattle.jvm_class_types.specs.Seen.{Frame}
use Rattle.jvm_maps.specs.Frames.{Step, form_of, Before, delta_of, step_of, frame, Form, Same, SameOne, SameOneFar, Chop, SameFar, Append, Full, meaning, Kind, kind_of, kind_tag, tagged, nothing, behind_kind, behind, form}
use Rattle.jvm_maps.proofs.FormLaws.{kind_kept, form_means}
use Rattle.jvm_frames.specs.Fitting.{type_pieces, counted_pieces, FitsType, FitsTypes, FitsCounted, form_rest, form_pieces, FitsForm}

module _ (es : List Entry) where
  -- ---- types

  type_spelled : (t : FrameType) → (frame_type es).spell t ≡ type_pieces t
  type_spelled type.Top = refl
  type_spelled type.Integer = refl
  type_spelled type.Long = refl
  type_spelled type.Null = refl
  type_spelled type.UninitializedThis = refl
  type_spelled (type.Object n) = refl
  type_spelled (type.Uninitialized at) = refl

  types_spelled : (ts : List FrameType) → flat_map (frame_type es).spell ts ≡ flat_map type_pieces ts
  types_spelled [] = refl
  types_spelled (t ∷ ts) =
      ap (λ (l : List Piece). l ++ flat_map (frame_type es).spell ts) (type_spelled t)
      ∙ ap (λ (l : List Piece). type_pieces t ++ l) (types_spelled ts)

  type_fits : (t : FrameType) → (frame_type es).allows t → FitsType t
  type_fits type.Top h = tt
  type_fits type.Integer h = tt
  type_fits type.Long h = tt
  type_fits type.Null h = tt
  type_fits type.UninitializedThis h = tt
  type_fits (type.Object n) h = tt
  type_fits (type.Uninitialized at) h = h.1.0

  types_fit : (ts : List FrameType) → AllByRecursion (frame_type es).allows ts → FitsTypes ts
  types_fit [] h i t is = absurd cc
  types_fit (u ∷ ts) h zero t is = let e : u ≡ t = cc in subst FitsType e (type_fits u h.0)
  types_fit (u ∷ ts) h (suc i) t is = types_fit ts h.1 i t is

  counted_spelled : (ts : List FrameType) → (counted (frame_type es)).spell ts ≡ counted_pieces ts
  counted_spelled ts = ap (λ (l : List Piece). Bytes (to_be_bytes w16 (length ts)) ∷ l) (types_spelled ts)

  counted_fits : (ts : List FrameType) → (counted (frame_type es)).allows ts → FitsCounted ts
  counted_fits ts h = (h.0.0, types_fit ts h.1.1)

  -- ---- forms

  by_kind : (f : Form) (o : Option Kind) → (behind es o).allows f → o ≡ Some (kind_of f)
  by_kind f None h = absurd h
  by_kind f (Some k) h = ap (λ (j : Kind). Some j) (sym (kind_kept es k f h))

  -- the tag of a form that is allowed is that of its kind
  kind_allowed : (f : Form) → (form es).allows f → tagged (kind_tag (kind_of f)) ≡ Some (kind_of f)
  kind_allowed f h = by_kind f (tagged (kind_tag (kind_of f))) h.1

  inner_allowed : (f : Form) → (form es).allows f → (behind_kind es (kind_of f)).allows f
  inner_allowed f h = subst (λ (o : Option Kind). (behind es o).allows f) (kind_allowed f h) h.1

  allowed_if : {A : Type 0} (g : Format A) (b : Bool) (a : A) → b ≡ true → allowed_in g (cond b (Some a) None)
      → g.allows a
  allowed_if g true a is h = h
  allowed_if g false a is h = absurd h

  spelled_if : {A : Type 0} (g : Format A) (b : Bool) (a : A) → b ≡ true
      → spelled_in g (cond b (Some a) None) ≡ g.spell a
  spelled_if g true a is = refl
  spelled_if g false a is = absurd cc

  rest_spelled : (f : Form) → (behind_kind es (kind_of f)).spell f ≡ form_rest f
  rest_spelled (Same d) = spelled_if nothing (eqb d d) tt (eq-eqb d d refl)
  rest_spelled (SameOne d t) = spelled_if (frame_type es) (eqb d d) t (eq-eqb d d refl) ∙ type_spelled t
  rest_spelled (SameOneFar d t) = ap (λ (l : List Piece). Bytes (to_be_bytes w16 d) ∷ l) (type_spelled t)
  rest_spelled (Chop k d) = spelled_if u2 (eqb k k) d (eq-eqb k k refl)
  rest_spelled (SameFar d) = refl
  rest_spelled (Append k d more) =
      spelled_if (seq u2 (λ d. times (frame_type es) k)) (eqb k k) (d, more) (eq-eqb k k refl)
      ∙ ap (λ (l : List Piece). Bytes (to_be_bytes w16 d) ∷ l) (types_spelled more)
  rest_spelled (Full d locals stack) =
      ap (λ (l : List Piece). Bytes (to_be_bytes w16 d) ∷ (l ++ (counted (frame_type es)).spell stack))
      (counted_spelled locals)
      ∙ ap (λ (l : List Piece). Bytes (to_be_bytes w16 d) ∷ (counted_pieces locals ++ l)) (counted_spelled stack)

  -- the pieces of a form, whatever the pool
  pub form_spelled : (f : Form) → tagged (kind_tag (kind_of f)) ≡ Some (kind_of f) → (form es).spell f ≡ form_pieces f
  form_spelled f is =
      ap (λ (o : Option Kind). Bytes (to_be_bytes w8 (kind_tag (kind_of f))) ∷ (behind es o).spell f) is
      ∙ ap (λ (l : List Piece). Bytes (to_be_bytes w8 (kind_tag (kind_of f))) ∷ l) (rest_spelled f)

  inner_fits : (f : Form) → (behind_kind es (kind_of f)).allows f → FitsForm f
  inner_fits (Same d) h = tt
  inner_fits (SameOne d t) h = type_fits t (allowed_if (frame_type es) (eqb d d) t (eq-eqb d d refl) h)
  inner_fits (SameOneFar d t) h = type_fits t h.1
  inner_fits (Chop k d) h = tt
  inner_fits (SameFar d) h = tt
  inner_fits (Append k d more) h =
      let p = allowed_if (seq u2 (λ d. times (frame_type es) k)) (eqb k k) (d, more) (eq-eqb k k refl) h in
      types_fit more p.1.1
  inner_fits (Full d locals stack) h = (counted_fits locals h.1.0, counted_fits stack h.1.1)

  pub form_fits : (f : Form) → (form es).allows f → FitsForm f
  form_fits f h = inner_fits f (inner_allowed f h)

  pub form_tagged : (f : Form) → (form es).allows f → tagged (kind_tag (kind_of f)) ≡ Some (kind_of f)
  form_tagged f h = kind_allowed f h

  -- the delta of a form that is allowed fits two bytes
  pub delta_fits : (before : List FrameType) (f : Form) → (form es).allows f → (meaning before f).delta < 2 ^ 16
  delta_fits before (Same d) h = let lt : d < 256 = h.0.0 in omega (arith, lt)
  delta_fits before (SameOne d t) h = let lt : 64 + d < 256 = h.0.0 in omega (arith, lt)
  delta_fits before (SameOneFar d t) h = let p = inner_allowed (SameOneFar d t) h in p.0.0
  delta_fits before (Chop k d) h =
      let p = allowed_if u2 (eqb k k) d (eq-eqb k k refl) (inner_allowed (Chop k d) h) in p.0
  delta_fits before (SameFar d) h = let p = inner_allowed (SameFar d) h in p.0
  delta_fits before (Append k d more) h =
      let p = allowed_if (seq u2 (λ d. times (frame_type es) k)) (eqb k k) (d, more) (eq-eqb k k refl)
      (inner_allowed (Append k d more) h) in p.0.0
  delta_fits before (Full d locals stack) h = let p = inner_allowed (Full d locals stack) h in p.0.0

  -- ---- frames

  pub delta_small : (b : Before) (f : Frame) → (frame es b).allows f → delta_of b.offset f.offset < 2 ^ 16
  delta_small b f h =
      subst (λ (s : Step). s.delta < 2 ^ 16) (form_means b.locals (step_of b f))
      (delta_fits b.locals (form_of b.locals (step_of b f)) h.2)

  pub frame_fits : (b : Before) (f : Frame) → (frame es b).allows f → FitsForm (form_of b.locals (step_of b f))
  frame_fits b f h = form_fits (form_of b.locals (step_of b f)) h.2

  pub frame_tagged : (b : Before) (f : Frame) → (frame es b).allows f
      → tagged (kind_tag (kind_of (form_of b.locals (step_of b f)))) ≡ Some (kind_of (form_of b.locals (step_of b f)))
  frame_tagged b f h = kind_allowed (form_of b.locals (step_of b f)) h.2

-- the pieces of a frame, behind any pool
pub frame_spelled : (es other : List Entry) (b : Before) (f : Frame) → (frame es b).allows f
    → (frame other b).spell f ≡ form_pieces (form_of b.locals (step_of b f))
frame_spelled es other b f h = form_spelled other (form_of b.locals (step_of b f)) (frame_tagged es b f h)
