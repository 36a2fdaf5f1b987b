-- Frames that are read are spelled so, and what is spelled is read.
use Rattle.std.proofs.Common.{◌≡◌, ℕ, zero, suc, ◌+◌, ◌^◌, ◌<◌, Bool, true, false, ◌&&◌, cond, List, [], ◌∷◌, ◌++◌, length, Option, Some, None, Result, Ok, Err, refl, sym, ap, subst, ◌∙◌, arith, append_assoc}
use Rattle.std.specs.Prelude.{nat_lt}
use Rattle.std.proofs.lemmas.Bool.{and_parts, ltb-true, lt-ltb}
use Rattle.jvm_pool.specs.declared.entries.Entry.{Entry}
use Rattle.jvm_pool.specs.Mentions.{count_mentions}
use Rattle.jvm_pieces.specs.Pieces.{mentions, pieces}
use Rattle.jvm_class_types.specs.declared.frames.FrameType.{FrameType}
use Rattle.jvm_class_types.specs.Seen.{Frame}
use Rattle.jvm_class_formats.specs.Formats.{Spot, spot, here, ◌>>=◌}
use Rattle.jvm_class_formats.specs.Lawful.{IsBytes, Takes, Lawful, IsPool}
use Rattle.jvm_class_formats.proofs.Steps.{bind_ok, where_ok, done, done_is, some_is, mentions-append, pieces-append, count_parts, takes_both, takes_nothing}
use Rattle.jvm_class_formats.proofs.Parts.{lawful_item}
use Rattle.jvm_maps.specs.Frames.{Step, step, Form, meaning, form_of, form, same_form, Before, offset_of, delta_of, is_later, frame_of, step_of, is_first, framed, inside, frame, after, frames_spell, frames_at, frames}
use Rattle.jvm_maps.specs.Laws.{FramesAreLawful}
use Rattle.jvm_maps.proofs.FormLaws.{lawful_form, form_means, same_form_is, same_form_self}

-- ---- offsets

delta_again : (o : Option ℕ) (delta : ℕ) → delta_of o (offset_of o delta) ≡ delta
delta_again None delta = refl
delta_again (Some previous) delta = omega arith

offset_again : (o : Option ℕ) (offset : ℕ) → is_later o offset ≡ true → offset_of o (delta_of o offset) ≡ offset
offset_again None offset h = refl
offset_again (Some previous) offset h = let lt : previous < offset = ltb-true previous offset h in omega (arith, lt)

is_behind : (o : Option ℕ) (delta : ℕ) → is_later o (offset_of o delta) ≡ true
is_behind None delta = refl
is_behind (Some previous) delta = lt-ltb previous (previous + delta + 1) (omega arith)

both : (a b : Bool) → a ≡ true → b ≡ true → (a && b) ≡ true
both true b p q = q
both false b p q = p

step_again : (b : Before) (s : Step) → step_of b (frame_of b s) ≡ s
step_again b s = ap (λ (d : ℕ). step d s.locals s.stack) (delta_again b.offset s.delta)

frame_again : (b : Before) (f : Frame) → is_later b.offset f.offset ≡ true → frame_of b (step_of b f) ≡ f
frame_again b f h =
    ap (λ (n : ℕ). made n f.locals f.stack) (offset_again b.offset f.offset h)
  where
    made : ℕ → List FrameType → List FrameType → Frame
    made n l s = record { offset = n; locals = l; stack = s }

module _ (es : List Entry) (pool : IsPool es) where
  lawful_inside : (b : Before) → Lawful es (inside es b)
  lawful_inside b = record {
    found = λ s x fits h.
        let w = bind_ok ((form es).read s) (framed b (here s)) x h in
        let g = where_ok (is_first b w.0.0) (here s) (done (frame_of b (meaning b.locals w.0.0), w.0.1)) x w.2 in
        let p = and_parts (same_form (form_of b.locals (meaning b.locals w.0.0)) w.0.0)
        (nat_lt (offset_of b.offset (meaning b.locals w.0.0).delta) (2 ^ 32)) g.0 in
        let first : form_of b.locals (meaning b.locals w.0.0) ≡ w.0.0 =
        same_form_is (form_of b.locals (meaning b.locals w.0.0)) w.0.0 p.0 in
        let written : form_of b.locals (step_of b (frame_of b (meaning b.locals w.0.0))) ≡ w.0.0 =
        ap (form_of b.locals) (step_again b (meaning b.locals w.0.0)) ∙ first in
        let t = (lawful_form es pool).found s w.0 fits w.1 in
        subst (λ (y : Frame × Spot). (inside es b).allows y.0 × Takes es s ((inside es b).spell y.0) y.1)
        (done_is (frame_of b (meaning b.locals w.0.0), w.0.1) x g.1) (
          (
            is_behind b.offset (meaning b.locals w.0.0).delta,
            ltb-true (offset_of b.offset (meaning b.locals w.0.0).delta) (2 ^ 32) p.1,
            subst (form es).allows (sym written) t.0,
          ),
          subst (λ (f : Form). Takes es s ((form es).spell f) w.0.1) (sym written) t.1,
        );
    only = λ f t c d bytes allowed count.
        let written = form_of b.locals (step_of b f) in
        let read = (lawful_form es pool).only (form_of b.locals (step_of b f)) t c d bytes allowed.2 count in
        let means : meaning b.locals (form_of b.locals (step_of b f)) ≡ step_of b f = form_means b.locals (step_of b f) in
        let small : nat_lt (offset_of b.offset (delta_of b.offset f.offset)) (2 ^ 32) ≡ true =
        ap (λ (n : ℕ). nat_lt n (2 ^ 32)) (offset_again b.offset f.offset allowed.0) ∙ lt-ltb f.offset (2 ^ 32) allowed.1 in
        let first : is_first b (form_of b.locals (step_of b f)) ≡ true =
        both (same_form (form_of b.locals (meaning b.locals (form_of b.locals (step_of b f)))) (form_of b.locals (step_of b f)))
        (nat_lt (offset_of b.offset (meaning b.locals (form_of b.locals (step_of b f))).delta) (2 ^ 32))
        (ap (λ (s : Step). same_form (form_of b.locals s) (form_of b.locals (step_of b f))) means
        ∙ same_form_self (form_of b.locals (step_of b f)))
        (ap (λ (s : Step). nat_lt (offset_of b.offset s.delta) (2 ^ 32)) means ∙ small) in
        let start = here (spot t c (pieces es ((inside es b).spell f) ++ bytes)) in
        ap (λ (r : Result (Form × Spot) ℕ). r >>= framed b start) read
        ∙ ap (λ (y : Bool). cond y (done {A = Frame × Spot} (frame_of b (meaning b.locals (form_of b.locals (step_of b f))), spot t d bytes))
        (Err start)) first
        ∙ ap (λ (s : Step). done {A = Frame × Spot} (frame_of b s, spot t d bytes)) means
        ∙ ap (λ (g : Frame). done {A = Frame × Spot} (g, spot t d bytes)) (frame_again b f allowed.0);
  }

  pub lawful_frame : (b : Before) → Lawful es (frame es b)
  lawful_frame b = lawful_item es (inside es b) (lawful_inside b)

  frames_found : (b : Before) (n : ℕ) (s : Spot) (x : List Frame × Spot) → IsBytes s.bytes → frames_at es b n s ≡ Ok x
      → (frames es b n).allows x.0 × Takes es s (frames_spell es b x.0) x.1
  frames_found b zero s x fits e =
      subst (λ (y : List Frame × Spot). (frames es b zero).allows y.0 × Takes es s (frames_spell es b y.0) y.1)
      (done_is ([], s) x e) ((refl, tt), takes_nothing es s fits)
  frames_found b (suc n) s x fits e =
      let a = bind_ok ((frame es b).read s)
      (λ a. frames_at es (after a.0) n a.1 >>= λ rest. done (a.0 ∷ rest.0, rest.1)) x e in
      let r = bind_ok (frames_at es (after a.0.0) n a.0.1) (λ rest. done (a.0.0 ∷ rest.0, rest.1)) x a.2 in
      let t = (lawful_frame b).found s a.0 fits a.1 in
      let u = frames_found (after a.0.0) n a.0.1 r.0 t.1.rest_fits r.1 in
      let long : length (a.0.0 ∷ r.0.0) ≡ suc n = omega (arith, u.0.0) in
      subst (λ (y : List Frame × Spot). (frames es b (suc n)).allows y.0 × Takes es s (frames_spell es b y.0) y.1)
      (done_is (a.0.0 ∷ r.0.0, r.0.1) x r.2) (
        (long, (t.0, u.0.1)),
        takes_both es s ((frame es b).spell a.0.0) a.0.1 (frames_spell es (after a.0.0) r.0.0) r.0.1 t.1 u.1,
      )

  frames_only : (b : Before) (n : ℕ) (l : List Frame) (t c d : ℕ) (bytes : List ℕ) → (frames es b n).allows l
      → count_mentions es (mentions (frames_spell es b l)) c ≡ Some d
      → frames_at es b n (spot t c (pieces es (frames_spell es b l) ++ bytes)) ≡ Ok (l, spot t d bytes)
  unfolding count_mentions
  frames_only b zero [] t c d bytes allowed count =
      ap (λ (k : ℕ). done {A = List Frame × Spot} ([], spot t k bytes)) (some_is c d count)
  frames_only b zero (a ∷ l) t c d bytes allowed count =
      let e : length (a ∷ l) ≡ zero = allowed.0 in
      absurd (omega (arith, e))
  frames_only b (suc n) [] t c d bytes allowed count =
      let e : 0 ≡ suc n = allowed.0 in
      absurd (omega (arith, e))
  frames_only b (suc n) (x ∷ l) t c d bytes allowed count =
      let q = allowed.1 in
      let len : length (x ∷ l) ≡ suc n = allowed.0 in
      let long : length l ≡ n = omega (arith, len) in
      let m : count_mentions es (mentions ((frame es b).spell x) ++ mentions (frames_spell es (after x) l)) c ≡ Some d =
      ap (λ (ms : List Entry). count_mentions es ms c)
      (sym (mentions-append ((frame es b).spell x) (frames_spell es (after x) l))) ∙ count in
      let k = count_parts es (mentions ((frame es b).spell x)) (mentions (frames_spell es (after x) l)) c d m in
      let first = (lawful_frame b).only x t c k.0 (pieces es (frames_spell es (after x) l) ++ bytes) q.0 k.1 in
      let others = frames_only (after x) n l t k.0 d bytes (long, q.1) k.2 in
      let regroup : pieces es ((frame es b).spell x ++ frames_spell es (after x) l) ++ bytes
      ≡ pieces es ((frame es b).spell x) ++ (pieces es (frames_spell es (after x) l) ++ bytes) =
      ap (λ (l : List ℕ). l ++ bytes) (pieces-append es ((frame es b).spell x) (frames_spell es (after x) l))
      ∙ append_assoc (pieces es ((frame es b).spell x)) (pieces es (frames_spell es (after x) l)) bytes in
      let tail = λ (r : Result (Frame × Spot) ℕ).
      r >>= λ a. frames_at es (after a.0) n a.1 >>= λ rest. done {A = List Frame × Spot} (a.0 ∷ rest.0, rest.1) in
      let last = λ (r : Result (List Frame × Spot) ℕ). r >>= λ rest. done {A = List Frame × Spot} (x ∷ rest.0, rest.1) in
      ap (λ (l : List ℕ). tail ((frame es b).read (spot t c l))) regroup ∙ ap tail first ∙ ap last others

pub frames_are_lawful : FramesAreLawful
frames_are_lawful es b n pool = record {
  found = λ s x fits h. frames_found es pool b n s x fits h;
  only = λ l t c d bytes allowed count. frames_only es pool b n l t c d bytes allowed count;
}
