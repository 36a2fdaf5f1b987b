-- A number that keeps a rule, by the number.
use Rattle.std.proofs.Common.{◌≡◌, ℕ, Bool, true, false, cond, ltb, List, length, Result, Ok, Err, refl, ap, ◌∙◌}
use Rattle.std.specs.Int.{Width, w8, byte_len}
use Rattle.jvm_pool.specs.declared.entries.Entry.{Entry}
use Rattle.jvm_class_types.specs.declared.frames.FrameType.{FrameType}
use Rattle.jvm_class_formats.specs.Formats.{Spot, here, ◌>>=◌, any, first_number, behind_number, number_at}
use Rattle.jvm_class_formats.proofs.Steps.{unless_ok, done, done_is}
use Rattle.jvm_maps.specs.Types.{is_type_tag, behind_tag, frame_type}

-- a number that was read keeps the rule, or is refused at its start
pub ruled : (w : Width) (rule : ℕ → Bool) (s : Spot) (x : ℕ × Spot) → number_at w any s ≡ Ok x
    → number_at w rule s ≡ cond (rule x.0) (done x) (Err (here s))
ruled w rule s x h =
    let made : ℕ × Spot = (first_number w s, behind_number w s) in
    let g = unless_ok (ltb (length s.bytes) (byte_len w)) s.total (done made) x h in
    ap (λ (b : Bool). cond b (Err s.total) (cond (rule made.0) (done made) (Err (here s)))) g.0
    ∙ ap (λ (y : ℕ × Spot). cond (rule y.0) (done y) (Err (here s))) (done_is made x g.1)

-- where the end cuts any number, it cuts this one
pub ruled_end : (w : Width) (rule : ℕ → Bool) (s : Spot) (at : ℕ) → number_at w any s ≡ Err at
    → number_at w rule s ≡ Err at
ruled_end w rule s at h = by (ltb (length s.bytes) (byte_len w)) refl h
  where
    by : (b : Bool) → ltb (length s.bytes) (byte_len w) ≡ b
        → cond b (Err s.total) (done {A = ℕ × Spot} (first_number w s, behind_number w s)) ≡ Err at
        → number_at w rule s ≡ Err at
    by true is h =
        ap (λ (b : Bool). cond b (Err s.total)
        (cond (rule (first_number w s)) (done {A = ℕ × Spot} (first_number w s, behind_number w s)) (Err
        (here s)))) is ∙ h
    by false is h = absurd cc

-- ---- types

module _ (es : List Entry) where
  whole : (tag : ℕ) (r : Result (FrameType × Spot) ℕ)
      → (r >>= (λ b. done {A = (ℕ × FrameType) × Spot} ((tag, b.0), b.1)) >>= (λ a. done {A = FrameType × Spot}
      (a.0.1, a.1))) ≡ r
  whole tag (Ok x) = refl
  whole tag (Err at) = refl

  after_tag : Result (ℕ × Spot) ℕ → Result (FrameType × Spot) ℕ
  after_tag r = (r >>= λ a. (behind_tag es a.0).read a.1 >>= λ b. done {A = (ℕ × FrameType) × Spot} ((a.0, b.0), b.1))
      >>= (λ a. done {A = FrameType × Spot} (a.0.1, a.1))

  -- a type is what stands behind its tag
  pub type_read : (s t : Spot) (tag : ℕ) → number_at w8 any s ≡ Ok (tag, t) → is_type_tag tag ≡ true
      → (frame_type es).read s ≡ (behind_tag es tag).read t
  unfolding after_tag
  type_read s t tag h is =
      ap after_tag (ruled w8 is_type_tag s (tag, t) h
      ∙ ap (λ (b : Bool). cond b (done {A = ℕ × Spot} (tag, t)) (Err (here s))) is)
      ∙ whole tag ((behind_tag es tag).read t)

  -- a number that is no tag is refused
  pub type_refused : (s t : Spot) (tag : ℕ) → number_at w8 any s ≡ Ok (tag, t) → is_type_tag tag ≡ false
      → (frame_type es).read s ≡ Err (here s)
  unfolding after_tag
  type_refused s t tag h is =
      ap after_tag (ruled w8 is_type_tag s (tag, t) h
      ∙ ap (λ (b : Bool). cond b (done {A = ℕ × Spot} (tag, t)) (Err (here s))) is)

  pub type_ends : (s : Spot) (at : ℕ) → number_at w8 any s ≡ Err at → (frame_type es).read s ≡ Err at
  unfolding after_tag
  type_ends s at h = ap after_tag (ruled_end w8 is_type_tag s at h)
