-- The least offset at which one of several rules fails.
use Rattle.std.proofs.Common.{◌≡◌, ℕ, zero, suc, ◌+◌, ◌<◌, ◌≤◌, ◌⊎◌, inl, inr, Bool, true, false, leb, leb-true, leb-false, List, length, map, get_or, Option, Some, None, option_map, refl, sym, ap, subst, ◌∙◌, arith}
use Rattle.std.specs.Prelude.{slice_get, IsTrue, ◌↔◌, MatchOption, if◌then◌else◌}
use Rattle.std.proofs.lemmas.Bool.{cases_lt}
use Rattle.std.proofs.lemmas.Option.{slice_get-map, slice_get_within, get_or_from_slice_get}
use Rattle.jvm_code_instructions.specs.declared.instr.Instr.{Instr}
use Rattle.class_linked.specs.declared.code.LinkedFrame.{LinkedFrame}
use Rattle.class_linked.specs.declared.code.LinkedHandler.{LinkedHandler}
use Rattle.class_supers.specs.Graph.{Ascends}
use Rattle.class_verify_rules.specs.Bodies.{Body, instruction}
use Rattle.class_verify_rules.specs.Frames.{before}
use Rattle.class_verify_rules.specs.Typing.{IsThere, IsTyped}
use Rattle.class_verify_rules.specs.Turns.{IsTimed}
use Rattle.class_verify_rules.specs.Verified.{BodyKeeps, BodyStands, FrameStands, HandlerStands}
use Rattle.class_verify_flow.specs.Checks.{MistypedFirst, TypedAt}
use Rattle.class_verify_turns.specs.Timing.{TimedAt, UntimedFirst}
use Rattle.class_verify_frames.proofs.Offsets.{rises}
use Rattle.class_verify_methods.specs.Faults.{FramesAt, HandlersAt, Instructions, Least, less_of, noted_of, start_of}

pub least_zero : (P : ℕ → Type 0) → (P 0 → ⊥) → Least P (Some 0)
least_zero P never = (never, λ o lt. absurd (omega (arith, lt)))

pub least_same : (P Q : ℕ → Type 0) (r : Option ℕ) → ((at : ℕ) → P at → Q at) → ((at : ℕ) → Q at → P at) → Least P r → Least Q r
least_same P Q None there back p = λ at. there at (p at)
least_same P Q (Some a) there back p = (λ q. p.0 (back a q), λ o lt. there o (p.1 o lt))

pub least_both : (P R Q : ℕ → Type 0) (r s : Option ℕ) → ((at : ℕ) → P at → R at → Q at) → ((at : ℕ) → Q at → P at × R at) → Least P r → Least R s → Least Q (less_of r s)
least_both P R Q None None join parts p q = λ at. join at (p at) (q at)
least_both P R Q None (Some b) join parts p q = (λ h. q.0 (parts b h).1, λ o lt. join o (p o) (q.1 o lt))
least_both P R Q (Some a) None join parts p q = (λ h. p.0 (parts a h).0, λ o lt. join o (p.1 o lt) (q o))
least_both P R Q (Some a) (Some b) join parts p q = by (leb a b) refl
  where
    by : (t : Bool) → leb a b ≡ t → Least Q (if t then Some a else Some b)
    by true e =
        let le : a ≤ b = leb-true a b e in
        (λ h. p.0 (parts a h).0, λ o lt. join o (p.1 o lt) (q.1 o (omega (arith, lt, le))))
    by false e =
        let less : b < a = leb-false a b e in
        (λ h. q.0 (parts b h).1, λ o lt. join o (p.1 o (omega (arith, lt, less))) (q.1 o lt))

pub least_noted : (H : Type 0) (F G : ℕ → Type 0) (least : Option ℕ) (stands : Bool) (o : ℕ) → (IsTrue stands ↔ H) → ((at : ℕ) → F at → (o ≡ at → H) → G at) → ((at : ℕ) → G at → F at × (o ≡ at → H)) → Least F least → Least G (noted_of least stands o)
least_noted H F G least true o h join parts p =
    least_same F G least (λ at f. join at f (λ e. h.0 refl)) (λ at g. (parts at g).0) p
least_noted H F G least false o h join parts p =
    least_both F (λ at. o ≡ at → H) G least (Some o) join parts p
    (λ f. (let t : IsTrue false = h.1 (f refl) in absurd cc), λ a lt e. absurd (omega (arith, lt, e)))

-- ---- entries and frames, one more

pub handlers_none : (b : Body) → Least (HandlersAt b 0) None
handlers_none b = λ at k lt. absurd (omega (arith, lt))

pub frames_none : (b : Body) → Least (FramesAt b 0) None
frames_none b = λ at k lt. absurd (omega (arith, lt))

pub handlers_more : (b : Body) (n : ℕ) (h : LinkedHandler) (least : Option ℕ) (stands : Bool) → slice_get b.code.handlers n ≡ Some h → (IsTrue stands ↔ HandlerStands b h) → Least (HandlersAt b n) least → Least (HandlersAt b (n + 1)) (noted_of least stands h.start)
handlers_more b n h least stands e is p =
    least_noted (HandlerStands b h) (HandlersAt b n) (HandlersAt b (n + 1)) least stands h.start is
    (λ at f g k lt x here starts. elim (cases_lt k n) [
      | inl less ↦ f k less x here starts
      | inr le ↦
          let q : k ≡ n = omega (arith, lt, le) in
          let same : h ≡ x = (let y : slice_get b.code.handlers n ≡ Some x = subst (λ m. slice_get b.code.handlers m ≡ Some x) q here in cc) in
          subst (λ (x : LinkedHandler). HandlerStands b x) same (g (subst (λ (x : LinkedHandler). x.start ≡ at) (sym same) starts))
    ])
    (λ at g. (λ k lt. g k (omega (arith, lt)), λ starts. g n (omega arith) h e starts)) p

pub frames_more : (b : Body) (n : ℕ) (f : LinkedFrame) (least : Option ℕ) (stands : Bool) → slice_get b.code.frames n ≡ Some f → (IsTrue stands ↔ FrameStands b f) → Least (FramesAt b n) least → Least (FramesAt b (n + 1)) (noted_of least stands f.offset)
frames_more b n f least stands e is p =
    least_noted (FrameStands b f) (FramesAt b n) (FramesAt b (n + 1)) least stands f.offset is
    (λ at r g k lt x here starts. elim (cases_lt k n) [
      | inl less ↦ r k less x here starts
      | inr le ↦
          let q : k ≡ n = omega (arith, lt, le) in
          let same : f ≡ x = (let y : slice_get b.code.frames n ≡ Some x = subst (λ m. slice_get b.code.frames m ≡ Some x) q here in cc) in
          subst (λ (x : LinkedFrame). FrameStands b x) same (g (subst (λ (x : LinkedFrame). x.offset ≡ at) (sym same) starts))
    ])
    (λ at g. (λ k lt. g k (omega (arith, lt)), λ starts. g n (omega arith) f e starts)) p

-- ---- the first place, by its offset

abbrev pub offset_of : ℕ × Instr → ℕ
offset_of i = i.0

module _ (b : Body) (starts : List ℕ) (is : starts ≡ map (λ i. i.0) b.code.instructions) (up : Ascends 0 starts) (T : ℕ → ℕ × Instr → Type 0) where
  start_at : (place : ℕ) (i : ℕ × Instr) → instruction b place ≡ Some i → slice_get starts place ≡ Some i.0
  start_at place i e = ap (λ xs. slice_get xs place) is ∙ slice_get-map offset_of b.code.instructions place ∙ ap (option_map offset_of) e

  earlier : (place k : ℕ) (i j : ℕ × Instr) → instruction b place ≡ Some i → instruction b k ≡ Some j → j.0 < i.0 → k < place
  earlier place k i j e f lt = elim (cases_lt k place) [
    | inl less ↦ less
    | inr le ↦
        let s = start_at place i e in
        let t = start_at k j f in
        let r = rises 0 starts place k up le (slice_get_within starts k j.0 t) in
        absurd (omega (arith, lt, r, get_or_from_slice_get starts place i.0 0 s, get_or_from_slice_get starts k j.0 0 t))
  ]

  first_offset : (place : ℕ) (o : Option (ℕ × Instr)) → instruction b place ≡ o → (((i : ℕ × Instr) → instruction b place ≡ Some i → T place i) → ⊥) → ((k : ℕ) → k < place → (i : ℕ × Instr) → instruction b k ≡ Some i → T k i) → Least (Instructions b T) (slice_get starts place)
  first_offset place None e never so_far = absurd (never (λ i f. let q : None ≡ Some i = sym e ∙ f in absurd cc))
  first_offset place (Some i) e never so_far =
      subst (Least (Instructions b T)) (sym (start_at place i e)) (
        λ h. never (λ j f. let same : i ≡ j = (let q : Some i ≡ Some j = sym e ∙ f in cc) in subst (T place) same (h place i.1 e)),
        λ o lt k j f. so_far k (earlier place k i (o, j) e f lt) (o, j) f,
      )

  pub by_offset : (found : Option ℕ) → MatchOption found ((place : ℕ) (i : ℕ × Instr) → instruction b place ≡ Some i → T place i) (λ place. (((i : ℕ × Instr) → instruction b place ≡ Some i → T place i) → ⊥) × ((k : ℕ) → k < place → (i : ℕ × Instr) → instruction b k ≡ Some i → T k i)) → Least (Instructions b T) (start_of starts found)
  by_offset None h = λ at place i e. h place (at, i) e
  by_offset (Some place) h = first_offset place (instruction b place) refl h.0 h.1

-- ---- all rules

abbrev pub Typed : Body → ℕ → ℕ × Instr → Type 0
Typed b place i = IsThere (before b place) (IsTyped b place i.0 i.1)

abbrev pub Timed : Body → ℕ → ℕ × Instr → Type 0
Timed b place i = IsTimed b place i.0 i.1

pub all_rules : (b : Body) (starts : List ℕ) (m t h f : Option ℕ) → starts ≡ map (λ i. i.0) b.code.instructions → Ascends 0 starts → BodyStands b
    → MatchOption m ((place : ℕ) → TypedAt b place) (MistypedFirst b) → MatchOption t ((place : ℕ) → TimedAt b place) (UntimedFirst b)
    → Least (HandlersAt b (length b.code.handlers)) h → Least (FramesAt b (length b.code.frames)) f
    → Least (BodyKeeps b) (less_of (less_of (start_of starts m) (start_of starts t)) (less_of h f))
all_rules b starts m t h f is up stands typed timed handlers frames =
    least_both
    (λ at. Instructions b (Typed b) at × Instructions b (Timed b) at)
    (λ at. HandlersAt b (length b.code.handlers) at × FramesAt b (length b.code.frames) at)
    (BodyKeeps b) (less_of (start_of starts m) (start_of starts t)) (less_of h f)
    (λ at x y. record {
      instructions = λ place i e. (x.0 place i e, x.1 place i e);
      handlers = λ k r e. y.0 k (slice_get_within b.code.handlers k r e) r e;
      frames = λ k r e. y.1 k (slice_get_within b.code.frames k r e) r e;
      whole = λ e. stands;
    })
    (λ at k. (
      (λ place i e. (k.instructions place i e).0, λ place i e. (k.instructions place i e).1),
      (λ n lt r e. k.handlers n r e, λ n lt r e. k.frames n r e),
    ))
    (least_both (Instructions b (Typed b)) (Instructions b (Timed b)) (λ at. Instructions b (Typed b) at × Instructions b (Timed b) at) (start_of starts m) (start_of starts t)
    (λ at x y. (x, y)) (λ at z. z) (by_offset b starts is up (Typed b) m typed) (by_offset b starts is up (Timed b) t timed))
    (least_both (HandlersAt b (length b.code.handlers)) (FramesAt b (length b.code.frames))
    (λ at. HandlersAt b (length b.code.handlers) at × FramesAt b (length b.code.frames) at) h f (λ at x y. (x, y)) (λ at z. z) handlers frames)
