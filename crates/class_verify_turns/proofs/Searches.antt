-- The places that paths reach without a tick are those that a search finds.
use Rattle.std.proofs.Common.{◌≡◌, ℕ, zero, suc, ◌+◌, ◌<◌, ◌≤◌, ◌⊎◌, inl, inr, true, false, List, [], ◌∷◌, ◌++◌, length, Option, Some, None, refl, sym, ap, subst, ◌∙◌, arith}
use Rattle.std.specs.Prelude.{slice_get}
use Rattle.std.proofs.lemmas.Option.{slice_get-get_or, slice_get_within}
use Rattle.jvm_code_instructions.specs.declared.instr.Instr.{Instr}
use Rattle.class_supers.specs.Graph.{AreSupers, Graph, IsUnder, Leads, row_or_none, same, up}
use Rattle.class_verify_rules.specs.Acts.{act}
use Rattle.class_verify_rules.specs.Bodies.{Body, instruction}
use Rattle.class_verify_rules.specs.Frames.{goes_on, targets}
use Rattle.class_verify_rules.specs.Typing.{Covers}
use Rattle.class_verify_rules.specs.Turns.{Caught, Early, Edge, Follow, Jump, On, Start, is_tick, is_tick_at}
use Rattle.class_verify_turns.specs.Timing.{Adds, AreEarly, AreNext, Follows, IsAt, IsHandler, IsOn, IsTarget, Stands}
use Rattle.class_verify_turns.proofs.Rows.{has_stands, stands_has}

edge_from : (b : Body) (k j : ℕ) → Edge b k j → (i : ℕ × Instr) × (instruction b k ≡ Some i)
edge_from b k j (On {i = i} e g) = (i, e)
edge_from b k j (Jump {i = i} n e f g) = (i, e)
edge_from b k j (Caught {i = i} n e f g h l) = (i, e)

one_more : (g : Graph) (c d e : ℕ) → IsUnder g c d → Leads g d e → IsUnder g c e
one_more g c d e (same q) l = subst (λ x. IsUnder g x e) (sym q) (up l (same refl))
one_more g c d e (up {d = x} k r) l = up k (one_more g x d e r l)

some_at : {A : Type 0} (xs : List A) (k : ℕ) → k < length xs → (x : A) × (slice_get xs k ≡ Some x)
some_at [] k lt = absurd (omega (arith, lt))
some_at (x ∷ xs) zero lt = (x, refl)
some_at (x ∷ xs) (suc k) lt = some_at xs k (omega (arith, lt))

module _ (b : Body) (rows : List (List ℕ)) (long : length rows ≡ length b.code.instructions) (each : (k : ℕ) (row : List ℕ) → slice_get rows k ≡ Some row → AreNext b k row) where
  follows : (c x : ℕ) (o : Option (List ℕ)) → slice_get rows c ≡ o → (i : ℕ) → slice_get (row_or_none o) i ≡ Some x → Follows b c x
  follows c x None e i h = absurd cc
  follows c x (Some row) e i h = (each c row e).each x (i, h)

  leads : (c x : ℕ) → Follows b c x → Leads rows c x
  leads c x f =
      let i = edge_from b c x f.edge in
      let lt : c < length rows = omega (arith, long, slice_get_within b.code.instructions c i.0 i.1) in
      let r = some_at rows c lt in
      let s = (each c r.0 r.1).all x f in
      (s.0, ap (λ o. slice_get (row_or_none o) s.0) r.1 ∙ s.1)

  under_early : (c d : ℕ) → IsUnder rows c d → Early b c → Early b d
  under_early c d (same q) e = subst (Early b) q e
  under_early c d (up {d = x} l r) e = let f = follows c x (slice_get rows c) refl l.0 l.1 in under_early x d r (Follow e f.plain f.edge)

  early_under : (k : ℕ) → Early b k → IsUnder rows 0 k
  early_under k Start = same refl
  early_under k (Follow {k = c} e t edge) = one_more rows 0 c k (early_under c e) (leads c k (record { plain = t; edge = edge }))

  pub are_early : (row : List ℕ) → AreSupers rows 0 row → AreEarly b row
  are_early row s = record {
    ascending = s.ascending;
    each = λ k h. under_early 0 k (s.each k (stands_has row h.0 k h.1)).0 Start;
    all = λ k i is e. has_stands row k (s.all k (early_under k e) (omega (arith, long, slice_get_within b.code.instructions k i is)));
  }

pub none_early : (b : Body) (row : List ℕ) → row ≡ [] → length b.code.instructions ≡ 0 → AreEarly b row
none_early b row e none = rw e (record {
  ascending = tt;
  each = λ k h. absurd (nothing_stands k h);
  all = λ k i is e. absurd (omega (arith, none, slice_get_within b.code.instructions k i is));
})
  where
    nothing_stands : (k : ℕ) → Stands [] k → ⊥
    nothing_stands k h = let e : slice_get [] h.0 ≡ Some k = h.1 in cc

-- ---- from one instruction

module _ (b : Body) (k : ℕ) (i : ℕ × Instr) (is : IsAt b k i) where
  plain_is : is_tick b i.1 ≡ false → is_tick_at b (instruction b k) ≡ false
  plain_is p = ap (is_tick_at b) is ∙ p

  pub no_next : is_tick b i.1 ≡ true → (row : List ℕ) → row ≡ [] → AreNext b k row
  no_next t row e = rw e (record {
    each = λ j h. (let f : slice_get [] h.0 ≡ Some j = h.1 in absurd cc);
    all = λ j f. (let q : true ≡ false = sym t ∙ (sym (ap (is_tick_at b) is) ∙ f.plain) in absurd cc);
  })

  edge_parts : (j : ℕ) → Edge b k j → IsOn i.1 k j ⊎ (IsTarget b (targets (act i.1)) (length (targets (act i.1))) j ⊎ IsHandler b b.code.handlers i.0 (length b.code.handlers) j)
  edge_parts j (On {i = x} e g) =
      let q : x ≡ i = cc in
      inl (subst (λ (y : ℕ × Instr). goes_on (act y.1) ≡ true) q g, refl)
  edge_parts j (Jump {i = x} {t = t} n e f g) =
      let q : x ≡ i = cc in
      let f' = subst (λ (y : ℕ × Instr). slice_get (targets (act y.1)) n ≡ Some t.0) q f in
      inr (inl (n, t.0, slice_get_within (targets (act i.1)) n t.0 f', f', (t, g, refl)))
  edge_parts j (Caught {i = x} {t = t} {h = h} n e f c l g) =
      let q : x ≡ i = cc in
      inr (inr (n, h, slice_get_within b.code.handlers n h f, f, subst (λ (y : ℕ × Instr). Covers h y.0) q c, (t, g, sym l)))

  pub are_next : is_tick b i.1 ≡ false → (none one two row ts : List ℕ) → none ≡ [] → ts ≡ targets (act i.1) → Adds (IsOn i.1 k) none one → Adds (IsTarget b ts (length ts)) one two → Adds (IsHandler b b.code.handlers i.0 (length b.code.handlers)) two row → AreNext b k row
  are_next p none one two row ts empty es a c d = record {
    each = λ j s. record { plain = plain_is p; edge = edge j s };
    all = λ j f. elim (edge_parts j f.edge) [
      | inl o ↦ d.kept j (c.kept j (a.added j o))
      | inr r ↦ elim r [
        | inl t ↦ d.kept j (c.added j (subst (λ xs. IsTarget b xs (length xs) j) (sym es) t))
        | inr h ↦ d.added j h
      ]
    ];
  }
    where
      on : (j : ℕ) → IsOn i.1 k j → Edge b k j
      on j o = subst (Edge b k) (sym o.1) (On is o.0)

      jump : (j : ℕ) → IsTarget b ts (length ts) j → Edge b k j
      jump j t =
          let u = t.4 in
          Jump {i = i} {t = u.0} t.0 is (subst (λ xs. slice_get xs t.0 ≡ Some u.0.0) es (t.3 ∙ ap Some (sym u.2))) u.1

      caught : (j : ℕ) → IsHandler b b.code.handlers i.0 (length b.code.handlers) j → Edge b k j
      caught j t = let u = t.5 in Caught {i = i} {t = u.0} {h = t.1} t.0 is t.3 t.4 (sym u.2) u.1

      edge : (j : ℕ) → Stands row j → Edge b k j
      edge j s = elim (d.only j s) [
        | inr h ↦ caught j h
        | inl s2 ↦ elim (c.only j s2) [
          | inr t ↦ jump j t
          | inl s1 ↦ elim (a.only j s1) [
            | inr o ↦ on j o
            | inl s0 ↦ (let f : slice_get [] s0.0 ≡ Some j = subst (λ xs. slice_get xs s0.0 ≡ Some j) empty s0.1 in absurd cc)
          ]
        ]
      ]
