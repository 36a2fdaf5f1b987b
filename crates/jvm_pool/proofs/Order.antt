-- The two definitions of the order of first mention agree: mentions count through a file to its end exactly where its
-- entries are those that a pool grows by these mentions. The counter stands behind the front of the file that the
-- mentions so far have grown.
use Rattle.std.proofs.Common.{◌≡◌, ℕ, ◌+◌, ◌<◌, ◌≤◌, Bool, true, false, cond, List, [], ◌∷◌, ◌++◌, Option, Some, None, refl, sym, ap, ◌∙◌, append_assoc, arith, ◌||◌, true≢false, ◌⊎◌, inl, inr}
use Rattle.std.specs.List.{list_any}
use Rattle.std.proofs.lemmas.Bool.{lt-ltb, le-ltb, eq-eqb, ne_eqb, or_parts}
use Rattle.std.proofs.lemmas.List.{append-nil, append_cancel_left}
use Rattle.jvm_pool.specs.declared.entries.Entry.{Entry}
use Rattle.jvm_pool.specs.Entries.{size, behind, same, units}
use Rattle.jvm_pool.specs.Mentions.{has, with_one, with_each, with_mention, with_mentions, seek, place, then_count, count_one, count_each, count_mention, count_mentions, IsInOrder}
use Rattle.jvm_pool.proofs.Same.{same_is, same_self, size_some, units-append}

-- f moves the counter through a file as g grows a pool
pub record Keeps (file : List Entry) (f : ℕ → Option ℕ) (g : List Entry → List Entry) : Type 0 where
  pub extends : (es : List Entry) → (more : List Entry) × (g es ≡ es ++ more)
  pub counted : (es rest : List Entry) (c : ℕ) → file ≡ es ++ rest → f (1 + units es) ≡ Some c → (left : List Entry) × (file ≡ g es ++ left) × (c ≡ 1 + units (g es))
  pub stopped : (es rest : List Entry) → file ≡ es ++ rest → f (1 + units es) ≡ None → (left : List Entry) → file ≡ g es ++ left → ⊥

pub nothing_keeps : (file : List Entry) → Keeps file (λ c. Some c) (λ es. es)
nothing_keeps file = record {
  extends = λ es. ([], sym (append-nil es));
  counted = λ es rest c is h. (rest, is, cc);
  stopped = λ es rest is h left k. absurd cc;
}

some_first : (o : Option ℕ) (f : ℕ → Option ℕ) (c : ℕ) → then_count o f ≡ Some c → (b : ℕ) × (o ≡ Some b) × (f b ≡ Some c)
some_first None f c h = absurd cc
some_first (Some b) f c h = (b, refl, h)

none_first : (o : Option ℕ) (f : ℕ → Option ℕ) → then_count o f ≡ None → (o ≡ None) ⊎ ((b : ℕ) × (o ≡ Some b) × (f b ≡ None))
none_first None f h = inl refl
none_first (Some b) f h = inr (b, refl, h)

pub then_keeps : (file : List Entry) (f f' : ℕ → Option ℕ) (g g' : List Entry → List Entry) → Keeps file f g → Keeps file f' g' → Keeps file (λ c. then_count (f c) f') (λ es. g' (g es))
then_keeps file f f' g g' first second = record {
  extends = λ es. let x = first.extends es in let y = second.extends (g es) in (x.0 ++ y.0, y.1 ∙ ap (λ (l : List Entry). l ++ y.0) x.1 ∙ append_assoc es x.0 y.0);
  counted = λ es rest c is h.
      let p = some_first (f (1 + units es)) f' c h in
      let q = first.counted es rest p.0 is p.1 in
      second.counted (g es) q.0 c q.1 (ap f' (sym q.2) ∙ p.2);
  stopped = λ es rest is h left k.
      elim (none_first (f (1 + units es)) f' h) [
        | inl n ↦ let y = second.extends (g es) in first.stopped es rest is n (y.0 ++ left) (k ∙ ap (λ (l : List Entry). l ++ left) y.1 ∙ append_assoc (g es) y.0 left)
        | inr p ↦ let q = first.counted es rest p.0 is p.1 in second.stopped (g es) q.0 q.1 (ap f' (sym q.2) ∙ p.2) left k
      ];
}

-- ---- where an entry is

seek_there : (k : ℕ) (es rest : List Entry) (e : Entry) → has es e ≡ true → (i : ℕ) × (seek k (es ++ rest) e ≡ Some i) × (i < k + units es)
unfolding seek
seek_there k [] rest e h = absurd (true≢false (sym h))
seek_there k (x ∷ es) rest e h =
    by (same e x) refl (λ absent. seek_there (k + size x) es rest e (sym (ap (λ (b : Bool). b || list_any (same e) es) absent) ∙ h))
  where
    by : (b : Bool) → same e x ≡ b → (same e x ≡ false → (i : ℕ) × (seek (k + size x) (es ++ rest) e ≡ Some i) × (i < (k + size x) + units es))
        → (i : ℕ) × (cond (same e x) (Some k) (seek (k + size x) (es ++ rest) e) ≡ Some i) × (i < k + (size x + units es))
    by true is later = (k, rw is refl, omega (arith, size_some x))
    by false is later = let r = later is in (r.0, rw is r.1, omega (arith, r.2))

pub seek_past : (k : ℕ) (es rest : List Entry) (e : Entry) → has es e ≡ false → seek k (es ++ rest) e ≡ seek (k + units es) rest e
unfolding seek
seek_past k [] rest e h = ap (λ (j : ℕ). seek j rest e) (omega arith)
seek_past k (x ∷ es) rest e h =
    let p = or_parts (same e x) (list_any (same e) es) h in
    let later = seek_past (k + size x) es rest e p.1 in
    rw p.0 (later ∙ ap (λ (j : ℕ). seek j rest e) (omega arith))

-- no index is below that of the first entry
pub seek_from : (k : ℕ) (es : List Entry) (e : Entry) (i : ℕ) → seek k es e ≡ Some i → k ≤ i
unfolding seek
seek_from k [] e i h = absurd cc
seek_from k (x ∷ es) e i h = by (same e x) refl (λ r. seek_from (k + size x) es e i r)
  where
    by : (b : Bool) → same e x ≡ b → (seek (k + size x) es e ≡ Some i → k + size x ≤ i) → k ≤ i
    by true is later = let j : Some k ≡ Some i = sym (ap (λ (b : Bool). cond b (Some k) (seek (k + size x) es e)) is) ∙ h in let n : k ≡ i = cc in omega arith
    by false is later = let j = later (sym (ap (λ (b : Bool). cond b (Some k) (seek (k + size x) es e)) is) ∙ h) in omega arith

place_below : (i c : ℕ) (r : Option ℕ) → i < c → place (Some i) c r ≡ Some c
place_below i c r lt = rw (lt-ltb i c lt) refl

place_here : (c : ℕ) (r : Option ℕ) → place (Some c) c r ≡ r
place_here c r = rw (le-ltb c c (omega arith), eq-eqb c c refl) refl

place_above : (o : Option ℕ) (c : ℕ) (r : Option ℕ) → ((i : ℕ) → o ≡ Some i → c < i) → place o c r ≡ None
place_above None c r above = refl
place_above (Some i) c r above =
    let lt : c < i = above i refl in
    rw (le-ltb i c (omega arith), ne_eqb i c (λ e. omega (arith, e))) refl

data Front (rest : List Entry) (e : Entry) : Type 0 where
  at_end : rest ≡ [] → Front rest e
  next : (left : List Entry) → rest ≡ e ∷ left → Front rest e
  other : (x : Entry) (left : List Entry) → rest ≡ x ∷ left → same e x ≡ false → Front rest e

front : (rest : List Entry) (e : Entry) → Front rest e
front [] e = at_end refl
front (x ∷ rest) e = by (same e x) refl
  where
    by : (b : Bool) → same e x ≡ b → Front (x ∷ rest) e
    by true is = next rest (ap (λ (y : Entry). y ∷ rest) (sym (same_is e x is)))
    by false is = other x rest refl is

-- ---- one entry, with what is mentioned behind it

module _ (file : List Entry) (e : Entry) (f : ℕ → Option ℕ) (g : List Entry → List Entry) (parts : Keeps file f g) where
  one_extends : (es : List Entry) → (more : List Entry) × (with_one e g es ≡ es ++ more)
  one_extends es = by (has es e) refl
    where
      by : (b : Bool) → has es e ≡ b → (more : List Entry) × (cond b es (g (es ++ e ∷ [])) ≡ es ++ more)
      by true is = ([], sym (append-nil es))
      by false is = let x = parts.extends (es ++ e ∷ []) in (e ∷ x.0, x.1 ∙ append_assoc es (e ∷ []) x.0)

  when_known : (es rest : List Entry) → file ≡ es ++ rest → has es e ≡ true → (count_one file e f (1 + units es) ≡ Some (1 + units es)) × (with_one e g es ≡ es)
  when_known es rest is h =
      let r = seek_there 1 es rest e h in
      (rw (is, r.1) (place_below r.0 (1 + units es) _ r.2), rw h refl)

  when_next : (es left : List Entry) → file ≡ es ++ e ∷ left → has es e ≡ false → (count_one file e f (1 + units es) ≡ f (1 + units (es ++ e ∷ []))) × (with_one e g es ≡ g (es ++ e ∷ []))
  unfolding seek
  when_next es left is h =
      let here : seek 1 file e ≡ Some (1 + units es) = rw is (seek_past 1 es (e ∷ left) e h ∙ rw (same_self e) refl) in
      let moved : 1 + units es + size e ≡ 1 + units (es ++ e ∷ []) = omega (arith, units-append es (e ∷ [])) in
      (rw here (place_here (1 + units es) _ ∙ ap f moved), rw h refl)

  when_later : (es rest : List Entry) → file ≡ es ++ rest → has es e ≡ false → ((i : ℕ) → seek (1 + units es) rest e ≡ Some i → 1 + units es < i) → count_one file e f (1 + units es) ≡ None
  when_later es rest is h above =
      let there : seek 1 file e ≡ seek (1 + units es) rest e = rw is (seek_past 1 es rest e h) in
      rw there (place_above (seek (1 + units es) rest e) (1 + units es) _ above)

  end_above : (k : ℕ) (i : ℕ) → seek k [] e ≡ Some i → k < i
  unfolding seek
  end_above k i h = absurd cc

  other_above : (k : ℕ) (x : Entry) (left : List Entry) (i : ℕ) → same e x ≡ false → seek k (x ∷ left) e ≡ Some i → k < i
  unfolding seek
  other_above k x left i absent h =
      let r = seek_from (k + size x) left e i (sym (ap (λ (b : Bool). cond b (Some k) (seek (k + size x) left e)) absent) ∙ h) in
      omega (arith, size_some x)

  one_counted : (es rest : List Entry) (c : ℕ) → file ≡ es ++ rest → count_one file e f (1 + units es) ≡ Some c → (left : List Entry) × (file ≡ with_one e g es ++ left) × (c ≡ 1 + units (with_one e g es))
  one_counted es rest c is h = by (has es e) refl
    where
      new : has es e ≡ false → Front rest e → (left : List Entry) × (file ≡ with_one e g es ++ left) × (c ≡ 1 + units (with_one e g es))
      new absent (at_end n) = absurd (let z = when_later es rest is absent (λ i r. end_above (1 + units es) i (sym (ap (λ (l : List Entry). seek (1 + units es) l e) n) ∙ r)) in cc)
      new absent (next left n) =
          let split : file ≡ es ++ e ∷ left = is ∙ ap (λ (l : List Entry). es ++ l) n in
          let m = when_next es left split absent in
          let r = parts.counted (es ++ e ∷ []) left c (split ∙ sym (append_assoc es (e ∷ []) left)) (sym m.0 ∙ h) in
          (r.0, r.1 ∙ ap (λ (l : List Entry). l ++ r.0) (sym m.1), r.2 ∙ ap (λ (l : List Entry). 1 + units l) (sym m.1))
      new absent (other x left n not) = absurd (let z = when_later es rest is absent (λ i r. other_above (1 + units es) x left i not (sym (ap (λ (l : List Entry). seek (1 + units es) l e) n) ∙ r)) in cc)

      by : (b : Bool) → has es e ≡ b → (left : List Entry) × (file ≡ with_one e g es ++ left) × (c ≡ 1 + units (with_one e g es))
      by true there =
          let k = when_known es rest is there in
          let unmoved : c ≡ 1 + units es = cc in
          (rest, is ∙ ap (λ (l : List Entry). l ++ rest) (sym k.1), unmoved ∙ ap (λ (l : List Entry). 1 + units l) (sym k.1))
      by false absent = new absent (front rest e)

  one_stopped : (es rest : List Entry) → file ≡ es ++ rest → count_one file e f (1 + units es) ≡ None → (left : List Entry) → file ≡ with_one e g es ++ left → ⊥
  one_stopped es rest is h left k = by (has es e) refl
    where
      -- where e is new, it stands next in the file
      then_e : has es e ≡ false → (x : List Entry) → g (es ++ e ∷ []) ≡ (es ++ e ∷ []) ++ x → rest ≡ e ∷ (x ++ left)
      then_e absent x ex =
          let w : with_one e g es ≡ g (es ++ e ∷ []) = rw absent refl in
          let whole : es ++ rest ≡ es ++ (e ∷ (x ++ left)) = sym is ∙ k ∙ ap (λ (l : List Entry). l ++ left) (w ∙ ex) ∙ simp append_assoc in
          append_cancel_left es rest (e ∷ (x ++ left)) whole

      by : (b : Bool) → has es e ≡ b → ⊥
      by true there = let r = (when_known es rest is there).0 in cc
      by false absent =
          let x = parts.extends (es ++ e ∷ []) in
          let split : file ≡ es ++ e ∷ (x.0 ++ left) = is ∙ ap (λ (l : List Entry). es ++ l) (then_e absent x.0 x.1) in
          let m = when_next es (x.0 ++ left) split absent in
          parts.stopped (es ++ e ∷ []) (x.0 ++ left) (split ∙ sym (append_assoc es (e ∷ []) (x.0 ++ left))) (sym m.0 ∙ h) left (k ∙ ap (λ (l : List Entry). l ++ left) m.1)

  pub one_keeps : Keeps file (count_one file e f) (with_one e g)
  one_keeps = record { extends = one_extends; counted = one_counted; stopped = one_stopped }

-- ---- all mentions

module _ (file : List Entry) where
  pub each_keeps : (ms : List Entry) → Keeps file (count_each file ms) (with_each ms)
  each_keeps [] = nothing_keeps file
  each_keeps (m ∷ ms) = then_keeps file (count_one file m (λ c. Some c)) (count_each file ms) (with_one m (λ es. es)) (with_each ms) (one_keeps file m (λ c. Some c) (λ es. es) (nothing_keeps file)) (each_keeps ms)

  pub mention_keeps : (e : Entry) → Keeps file (count_mention file e) (with_mention e)
  mention_keeps e = one_keeps file e (count_each file (behind e)) (with_each (behind e)) (each_keeps (behind e))

  pub mentions_keep : (ms : List Entry) → Keeps file (count_mentions file ms) (with_mentions ms)
  unfolding count_mentions with_mentions
  mentions_keep [] = nothing_keeps file
  mentions_keep (m ∷ ms) = then_keeps file (count_mention file m) (count_mentions file ms) (with_mention m) (with_mentions ms) (mention_keeps m) (mentions_keep ms)

no_units : (es : List Entry) → units es ≡ 0 → es ≡ []
no_units [] h = refl
no_units (e ∷ es) h = absurd (omega (arith, size_some e))

-- the entries of a file in order are the ones that its mentions grow
pub in_order_is : (es ms : List Entry) → IsInOrder es ms → es ≡ with_mentions ms []
in_order_is es ms h =
    let r = (mentions_keep es ms).counted [] es (1 + units es) refl h in
    let none : units r.0 ≡ 0 = omega (arith, r.2, ap units r.1, units-append (with_mentions ms []) r.0) in
    r.1 ∙ ap (λ (l : List Entry). with_mentions ms [] ++ l) (no_units r.0 none) ∙ append-nil (with_mentions ms [])

pub in_order : (es ms : List Entry) → es ≡ with_mentions ms [] → IsInOrder es ms
in_order es ms h = by (count_mentions es ms 1) refl
  where
    by : (o : Option ℕ) → count_mentions es ms 1 ≡ o → count_mentions es ms 1 ≡ Some (1 + units es)
    by None e = absurd ((mentions_keep es ms).stopped [] es refl e [] (h ∙ sym (append-nil (with_mentions ms []))))
    by (Some c) e =
        let r = (mentions_keep es ms).counted [] es c refl e in
        e ∙ ap (λ (n : ℕ). Some n) (r.2 ∙ ap (λ (l : List Entry). 1 + units l) (sym h))
