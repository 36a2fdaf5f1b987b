-- What each part of a class file reads, it spells, and what it spells, it reads: one lemma for each way to make a part.
use Rattle.std.proofs.Common.{◌≡◌, ℕ, zero, suc, ◌+◌, ◌*◌, ◌-◌, ◌^◌, ◌<◌, ◌≤◌, Bool, true, false, cond, ltb, eqb, List, [], ◌∷◌, ◌++◌, length, length-append, take, Option, Some, None, Result, Ok, Err, refl, sym, ap, subst, ◌∙◌, append_assoc, arith, ◌⊎◌, inl, inr}
use Rattle.std.specs.Prelude.{◌==◌}
use Rattle.std.specs.Int.{Width, w8, w16, w32, byte_len, from_be_bytes, to_be_bytes}
use Rattle.std.specs.List.{flat_map}
use Rattle.std.proofs.lemmas.Bool.{ltb-false, le-ltb, eqb-true, eq-eqb, ne_eqb}
use Rattle.std.proofs.lemmas.List.{append-nil, take_at, drop_at, take-append-drop, length-take}
use Rattle.jvm_pool.specs.declared.entries.Entry.{Entry}
use Rattle.jvm_pool.specs.Entries.{size, units, same, behind}
use Rattle.jvm_pool.specs.Mentions.{seek, place, then_count, count_each, count_mention, count_mentions}
use Rattle.jvm_pool.specs.Numbering.{entry_at}
use Rattle.jvm_pool.proofs.Seeking.{entry_from_seek}
use Rattle.jvm_pool.proofs.Order.{seek_from}
use Rattle.jvm_pool.proofs.Same.{size_some}
use Rattle.jvm_pieces.specs.Pieces.{Mention, mentions, index, found, pieces}
use Rattle.jvm_class_formats.specs.Formats.{Spot, spot, here, Format, ◌>>=◌, first_number, behind_number, number_at, number, any, u2, only_at, own, named, saying, said, moved, mentioned, mention_at, mention, optional_at, optional_allows, optional_spell, optional, seq, as_named, allowed_in, spelled_in, variant, choose, moved_to, item, times_at, times, counted, widths, measured, sized}
use Rattle.jvm_class_formats.specs.Lawful.{IsBytes, Takes, Lawful, IsPool, Says}
use Rattle.jvm_class_formats.specs.Laws.{NumbersAreLawful}
use Rattle.jvm_class_formats.proofs.Steps.{bind_ok, unless_ok, where_ok, done, done_is, some_is, bytes_behind, bytes_before, HasWidth, word, half, byte, mentions-append, pieces-append, widths_are, count_parts, takes_both, takes_nothing}

-- ---- numbers

-- what reading a number tells
pub record TakesNumber (w : Width) (rule : ℕ → Bool) (s : Spot) (x : ℕ × Spot) : Type 0 where
  pub bytes : s.bytes ≡ to_be_bytes w x.0 ++ x.1.bytes
  pub counter : s.counter ≡ x.1.counter
  pub total : s.total ≡ x.1.total
  pub rest_fits : IsBytes x.1.bytes
  pub below : x.0 < 2 ^ (8 * byte_len w)
  pub kept : rule x.0 ≡ true

pub number_takes : (w : Width) → HasWidth w → (rule : ℕ → Bool) (s : Spot) (x : ℕ × Spot) → IsBytes s.bytes
    → number_at w rule s ≡ Ok x → TakesNumber w rule s x
number_takes w wide rule s x fits e =
    let front = take (byte_len w) s.bytes in
    let made : ℕ × Spot = (first_number w s, behind_number w s) in
    let g = unless_ok (ltb (length s.bytes) (byte_len w)) s.total
    (cond (rule (first_number w s)) (done made) (Err (here s))) x e in
    let r = where_ok (rule (first_number w s)) (here s) (done made) x g.1 in
    let long : byte_len w ≤ length s.bytes = ltb-false _ _ g.0 in
    let f : IsBytes (take (byte_len w) s.bytes) = bytes_before (byte_len w) s.bytes fits in
    let back : to_be_bytes w (from_be_bytes w (take (byte_len w) s.bytes)) ≡ take (byte_len w) s.bytes =
    wide.back (take (byte_len w) s.bytes) (omega (arith, length-take (byte_len w) s.bytes)) f in
    subst (λ (y : ℕ × Spot). TakesNumber w rule s y) (done_is made x r.1) record {
      bytes = rw back (sym (take-append-drop (byte_len w) s.bytes));
      counter = refl;
      total = refl;
      rest_fits = bytes_behind (byte_len w) s.bytes fits;
      below = wide.below (take (byte_len w) s.bytes) f;
      kept = r.0;
    }

pub number_again : (w : Width) → HasWidth w → (rule : ℕ → Bool) (n t b : ℕ) (bytes : List ℕ)
    → n < 2 ^ (8 * byte_len w) → rule n ≡ true
    → number_at w rule (spot t b (to_be_bytes w n ++ bytes)) ≡ Ok (n, spot t b bytes)
number_again w wide rule n t b bytes lt is =
    let len = wide.len n in
    let long : ltb (length (to_be_bytes w n ++ bytes)) (byte_len w) ≡ false =
    le-ltb _ _ (omega (arith, length-append (to_be_bytes w n) bytes)) in
    rw (
      long,
      take_at (to_be_bytes w n) bytes (byte_len w) len,
      drop_at (to_be_bytes w n) bytes (byte_len w) len,
      wide.again n lt,
      is,
    ) refl

-- ---- indices

pub seek_below : (k : ℕ) (es : List Entry) (e : Entry) (i : ℕ) → seek k es e ≡ Some i → i < k + units es
unfolding seek
seek_below k [] e i h = absurd cc
seek_below k (x ∷ es) e i h = by (same e x) h (λ r. seek_below (k + size x) es e i r)
  where
    by : (b : Bool) → cond b (Some k) (seek (k + size x) es e) ≡ Some i
        → (seek (k + size x) es e ≡ Some i → i < k + size x + units es) → i < k + (size x + units es)
    by true h rest = let is : k ≡ i = cc in omega (arith, is, size_some x)
    by false h rest = omega (arith, rest h)

only_ok : (i : ℕ) (e f : Entry) (o : Option ℕ) → only_at i e o ≡ Some f → (o ≡ Some i) × (e ≡ f)
only_ok i e f None h = absurd cc
only_ok i e f (Some j) h = by (eqb j i) refl h
  where
    by : (b : Bool) → eqb j i ≡ b → cond b (Some e) None ≡ Some f → (Some j ≡ Some i) × (e ≡ f)
    by true is h = (ap (λ (k : ℕ). Some k) (eqb-true j i is), cc)
    by false is h = absurd cc

own_ok : (es : List Entry) (i : ℕ) (o : Option Entry) (e : Entry) → own es i o ≡ Some e → seek 1 es e ≡ Some i
own_ok es i None e h = absurd cc
own_ok es i (Some f) e h = let p = only_ok i f e (seek 1 es f) h in ap (seek 1 es) (sym p.1) ∙ p.0

-- the index that names an entry is the entry's
pub named_is : (es : List Entry) (i : ℕ) (e : Entry) → named es i ≡ Some e → seek 1 es e ≡ Some i
named_is es i e h = own_ok es i (entry_at 1 es i) e h

pub named_again : (es : List Entry) (i : ℕ) (e : Entry) → seek 1 es e ≡ Some i → named es i ≡ Some e
named_again es i e h =
    ap (own es i) (entry_from_seek 1 es e i h) ∙ ap (only_at i e) h
    ∙ ap (λ (b : Bool). cond b (Some e) None) (eq-eqb i i refl)

-- ---- what an entry says

pub said_ok : {A : Type 0} (inside : Entry → Option A) (o : Option Entry) (x : Entry × A) → said inside o ≡ Some x
    → (o ≡ Some x.0) × (inside x.0 ≡ Some x.1)
said_ok inside None x h = absurd cc
said_ok {A} inside (Some e) x h = by (inside e) refl h
  where
    by : (o : Option A) → inside e ≡ o
        → saying e o ≡ Some x → (Some e ≡ Some x.0) × (inside x.0 ≡ Some x.1)
    by None is h = absurd cc
    by (Some a) is h = subst (λ (y : Entry × A). (Some e ≡ Some y.0) × (inside y.0 ≡ Some y.1)) (pair h) (refl, is)
      where
        pair : Some (e, a) ≡ Some x → (e, a) ≡ x
        pair p = cc

pub said_again : {A : Type 0} (inside : Entry → Option A) (e : Entry) (a : A) → inside e ≡ Some a
    → said inside (Some e) ≡ Some (e, a)
said_again inside e a h = ap (saying e) h

sought : (o : Option ℕ) (b c : ℕ) (r : Option ℕ) → place o b r ≡ Some c → (i : ℕ) × (o ≡ Some i)
sought None b c r h = absurd cc
sought (Some i) b c r h = (i, refl)

moved_ok : {A : Type 0} (rest : Spot) (at : ℕ) (a : A) (o : Option ℕ) (x : A × Spot) → moved rest at a o ≡ Ok x
    → (c : ℕ) × (o ≡ Some c) × ((a, spot rest.total c rest.bytes) ≡ x)
moved_ok rest at a None x h = absurd cc
moved_ok rest at a (Some c) x h = (c, refl, done_is (a, spot rest.total c rest.bytes) x h)

-- ---- one item

item_ok : {A : Type 0} (start total : ℕ) (r : Result A ℕ) (x : A) → moved_to start total r ≡ Ok x → r ≡ Ok x
item_ok start total (Ok y) x h = h
item_ok start total (Err at) x h = by (at == total) h
  where
    by : (b : Bool) → cond b (Err total) (Err start) ≡ Ok x → Err at ≡ Ok x
    by true h = absurd cc
    by false h = absurd cc

measured_ok : {A : Type 0} (field n before : ℕ) (a x : A × Spot) → measured field n before a ≡ Ok x
    → (before - length a.1.bytes ≡ n) × (a ≡ x)
measured_ok field n before a x e =
    let g = where_ok (before - length a.1.bytes == n) field (done a) x e in
    (eqb-true (before - length a.1.bytes) n g.0, done_is a x g.1)

module _ (es : List Entry) where
  pub lawful_number : (w : Width) (rule : ℕ → Bool) → HasWidth w → Lawful es (number w rule)
  unfolding count_mentions
  lawful_number w rule wide = record {
    found = λ s x fits e.
        let t = number_takes w wide rule s x fits e in (
          (t.below, t.kept),
          record {
            parts = t.bytes ∙ ap (λ (l : List ℕ). l ++ x.1.bytes) (sym (append-nil (to_be_bytes w x.0)));
            counted = ap (λ (c : ℕ). Some c) t.counter;
            total = t.total;
            rest_fits = t.rest_fits;
          },
        );
    only = λ n t b c bytes allowed count.
        let same : b ≡ c = some_is b c count in
        ap (λ (l : List ℕ). number_at w rule (spot t b (l ++ bytes))) (append-nil (to_be_bytes w n))
        ∙ number_again w wide rule n t b bytes allowed.0 allowed.1
        ∙ ap (λ (k : ℕ). done (n, spot t k bytes)) same;
  }

  -- ---- parts of parts

  pub lawful_seq : {A B : Type 0} (f : Format A) (g : A → Format B) → Lawful es f
      → ((a : A) → f.allows a → Lawful es (g a)) → Lawful es (seq f g)
  lawful_seq {A} {B} f g lf lg = record {
    found = λ s x fits e.
        let a = bind_ok (f.read s) (λ a. (g a.0).read a.1 >>= λ b. done ((a.0, b.0), b.1)) x e in
        let b = bind_ok ((g a.0.0).read a.0.1) (λ b. done ((a.0.0, b.0), b.1)) x a.2 in
        let t = lf.found s a.0 fits a.1 in
        let u = (lg a.0.0 t.0).found a.0.1 b.0 t.1.rest_fits b.1 in
        subst (λ (y : (A × B) × Spot). (seq f g).allows y.0 × Takes es s ((seq f g).spell y.0) y.1)
        (done_is ((a.0.0, b.0.0), b.0.1) x b.2)
        ((t.0, u.0), takes_both es s (f.spell a.0.0) a.0.1 ((g a.0.0).spell b.0.0) b.0.1 t.1 u.1);
    only = λ x t b d bytes allowed count.
        let p = allowed in
        let n : count_mentions es (mentions (f.spell x.0) ++ mentions ((g x.0).spell x.1)) b ≡ Some d =
        ap (λ (ms : List Entry). count_mentions es ms b)
        (sym (mentions-append (f.spell x.0) ((g x.0).spell x.1))) ∙ count in
        let c = count_parts es (mentions (f.spell x.0)) (mentions ((g x.0).spell x.1)) b d n in
        let first = lf.only x.0 t b c.0 (pieces es ((g x.0).spell x.1) ++ bytes) p.0 c.1 in
        let second = (lg x.0 p.0).only x.1 t c.0 d bytes p.1 c.2 in
        let regroup : pieces es (f.spell x.0 ++ (g x.0).spell x.1) ++ bytes
        ≡ pieces es (f.spell x.0) ++ (pieces es ((g x.0).spell x.1) ++ bytes) =
        ap (λ (l : List ℕ). l ++ bytes) (pieces-append es (f.spell x.0) ((g x.0).spell x.1))
        ∙ append_assoc (pieces es (f.spell x.0)) (pieces es ((g x.0).spell x.1)) bytes in
        let tail = λ (r : Result (A × Spot) ℕ).
        r >>= λ a. (g a.0).read a.1 >>= λ b. done {A = (A × B) × Spot} ((a.0, b.0), b.1) in
        let last = λ (r : Result (B × Spot) ℕ). r >>= λ b. done {A = (A × B) × Spot} ((x.0, b.0), b.1) in
        ap (λ (l : List ℕ). tail (f.read (spot t b l))) regroup ∙ ap tail first ∙ ap last second;
  }

  pub lawful_as : {A B : Type 0} (make : A → B) (parts : B → A) (f : Format A) → ((b : B) → make (parts b) ≡ b)
      → ((a : A) → f.allows a → parts (make a) ≡ a) → Lawful es f → Lawful es (as_named make parts f)
  lawful_as {A} {B} make parts f made parted lf = record {
    found = λ s x fits e.
        let a = bind_ok (f.read s) (λ a. done (make a.0, a.1)) x e in
        let t = lf.found s a.0 fits a.1 in
        subst (λ (y : B × Spot). f.allows (parts y.0) × Takes es s (f.spell (parts y.0)) y.1)
        (done_is (make a.0.0, a.0.1) x a.2)
        (subst (λ (y : A). f.allows y × Takes es s (f.spell y) a.0.1) (sym (parted a.0.0 t.0)) t);
    only = λ x t b c bytes allowed count.
        let k = lf.only (parts x) t b c bytes allowed count in
        ap (λ (r : Result (A × Spot) ℕ). r >>= λ a. done {A = B × Spot} (make a.0, a.1)) k
        ∙ ap (λ (y : B). done {A = B × Spot} (y, spot t c bytes)) (made x);
  }

  pub lawful_variant : {A B : Type 0} (make : A → B) (inside : B → Option A) (f : Format A)
      → ((a : A) → f.allows a → inside (make a) ≡ Some a) → ((a : A) (b : B) → inside b ≡ Some a → make a ≡ b)
      → Lawful es f → Lawful es (variant make inside f)
  lawful_variant {A} {B} make inside f into back lf = record {
    found = λ s x fits e.
        let a = bind_ok (f.read s) (λ a. done (make a.0, a.1)) x e in
        let t = lf.found s a.0 fits a.1 in
        subst (λ (y : B × Spot). allowed_in f (inside y.0) × Takes es s (spelled_in f (inside y.0)) y.1)
        (done_is (make a.0.0, a.0.1) x a.2)
        (subst (λ (o : Option A). allowed_in f o × Takes es s (spelled_in f o) a.0.1) (sym (into a.0.0 t.0)) t);
    only = λ y t b c bytes allowed count. by y (inside y) refl t b c bytes allowed count;
  }
    where
      by : (y : B) (o : Option A) → inside y ≡ o → (t b c : ℕ) (bytes : List ℕ) → allowed_in f o
          → count_mentions es (mentions (spelled_in f o)) b ≡ Some c
          → (variant make inside f).read (spot t b (pieces es (spelled_in f o) ++ bytes)) ≡ Ok (y, spot t c bytes)
      by y None is t b c bytes allowed count = absurd allowed
      by y (Some a) is t b c bytes allowed count =
          ap (λ (r : Result (A × Spot) ℕ). r >>= λ a. done {A = B × Spot} (make a.0, a.1))
          (lf.only a t b c bytes allowed count)
          ∙ ap (λ (z : B). done {A = B × Spot} (z, spot t c bytes)) (back a y is)

  pub lawful_choose : {A : Type 0} (b : Bool) (f g : Format A) → Lawful es f → Lawful es g → Lawful es (choose b f g)
  lawful_choose true f g lf lg = lf
  lawful_choose false f g lf lg = lg

  pub lawful_item : {A : Type 0} (f : Format A) → Lawful es f → Lawful es (item f)
  lawful_item {A} f lf = record {
    found = λ s x fits h. lf.found s x fits (item_ok (here s) s.total (f.read s) x h);
    only = λ a t b c bytes allowed count.
        ap (moved_to (here (spot t b (pieces es (f.spell a) ++ bytes))) t) (lf.only a t b c bytes allowed count);
  }

  times_found : {A : Type 0} (f : Format A) → Lawful es f → (n : ℕ) (s : Spot) (x : List A × Spot)
      → IsBytes s.bytes → times_at f n s ≡ Ok x → (times f n).allows x.0 × Takes es s (flat_map f.spell x.0) x.1
  times_found {A} f lf zero s x fits e =
      subst (λ (y : List A × Spot). (times f zero).allows y.0 × Takes es s (flat_map f.spell y.0) y.1)
      (done_is ([], s) x e) ((refl, tt), takes_nothing es s fits)
  times_found {A} f lf (suc n) s x fits e =
      let a = bind_ok (f.read s) (λ a. times_at f n a.1 >>= λ rest. done (a.0 ∷ rest.0, rest.1)) x e in
      let b = bind_ok (times_at f n a.0.1) (λ rest. done (a.0.0 ∷ rest.0, rest.1)) x a.2 in
      let t = lf.found s a.0 fits a.1 in
      let u = times_found f lf n a.0.1 b.0 t.1.rest_fits b.1 in
      let long : length (a.0.0 ∷ b.0.0) ≡ suc n = omega (arith, u.0.0) in
      subst (λ (y : List A × Spot). (times f (suc n)).allows y.0 × Takes es s (flat_map f.spell y.0) y.1)
      (done_is (a.0.0 ∷ b.0.0, b.0.1) x b.2) (
        (long, (t.0, u.0.1)),
        takes_both es s (f.spell a.0.0) a.0.1 (flat_map f.spell b.0.0) b.0.1 t.1 u.1,
      )

  times_only : {A : Type 0} (f : Format A) → Lawful es f → (n : ℕ) (l : List A) (t b c : ℕ) (bytes : List ℕ)
      → (times f n).allows l → count_mentions es (mentions (flat_map f.spell l)) b ≡ Some c
      → times_at f n (spot t b (pieces es (flat_map f.spell l) ++ bytes)) ≡ Ok (l, spot t c bytes)
  unfolding count_mentions
  times_only {A} f lf zero [] t b c bytes allowed count =
      ap (λ (k : ℕ). done {A = List A × Spot} ([], spot t k bytes)) (some_is b c count)
  times_only {A} f lf zero (a ∷ l) t b c bytes allowed count =
      let e : length (a ∷ l) ≡ zero = allowed.0 in
      absurd (omega (arith, e))
  times_only {A} f lf (suc n) [] t b c bytes allowed count =
      let e : 0 ≡ suc n = allowed.0 in
      absurd (omega (arith, e))
  times_only {A} f lf (suc n) (x ∷ l) t b d bytes allowed count =
      let q = allowed.1 in
      let len : length (x ∷ l) ≡ suc n = allowed.0 in
      let long : length l ≡ n = omega (arith, len) in
      let m : count_mentions es (mentions (f.spell x) ++ mentions (flat_map f.spell l)) b ≡ Some d =
      ap (λ (ms : List Entry). count_mentions es ms b) (sym (mentions-append (f.spell x) (flat_map f.spell l)))
      ∙ count in
      let c = count_parts es (mentions (f.spell x)) (mentions (flat_map f.spell l)) b d m in
      let first = lf.only x t b c.0 (pieces es (flat_map f.spell l) ++ bytes) q.0 c.1 in
      let others = times_only f lf n l t c.0 d bytes (long, q.1) c.2 in
      let regroup : pieces es (f.spell x ++ flat_map f.spell l) ++ bytes
      ≡ pieces es (f.spell x) ++ (pieces es (flat_map f.spell l) ++ bytes) =
      ap (λ (l : List ℕ). l ++ bytes) (pieces-append es (f.spell x) (flat_map f.spell l))
      ∙ append_assoc (pieces es (f.spell x)) (pieces es (flat_map f.spell l)) bytes in
      let tail = λ (r : Result (A × Spot) ℕ).
      r >>= λ a. times_at f n a.1 >>= λ rest. done {A = List A × Spot} (a.0 ∷ rest.0, rest.1) in
      let last = λ (r : Result (List A × Spot) ℕ). r >>= λ rest. done {A = List A × Spot} (x ∷ rest.0, rest.1) in
      ap (λ (l : List ℕ). tail (f.read (spot t b l))) regroup ∙ ap tail first ∙ ap last others

  pub lawful_times : {A : Type 0} (f : Format A) → Lawful es f → (n : ℕ) → Lawful es (times f n)
  lawful_times f lf n = record {
    found = λ s x fits e. times_found f lf n s x fits e;
    only = λ l t b c bytes allowed count. times_only f lf n l t b c bytes allowed count;
  }

  pub lawful_counted : {A : Type 0} (f : Format A) → Lawful es f → Lawful es (counted f)
  lawful_counted {A} f lf =
      lawful_as (λ (x : ℕ × List A). x.1) (λ (l : List A). (length l, l)) (seq u2 (times f)) (λ l. refl)
      (λ x allowed.
      ap (λ (n : ℕ). (n, x.1)) allowed.1.0)
      (lawful_seq u2 (times f) (lawful_number w16 any half) (λ n _. lawful_times f lf n))

  pub lawful_sized : {A : Type 0} (f : Format A) → Lawful es f → Lawful es (sized f)
  unfolding count_mentions
  lawful_sized {A} f lf = record {
    found = λ s x fits e.
        let n = bind_ok (number_at w32 any s) (λ n. f.read n.1 >>= measured (here s) n.0 (length n.1.bytes)) x e in
        let a = bind_ok (f.read n.0.1) (measured (here s) n.0.0 (length n.0.1.bytes)) x n.2 in
        let m = measured_ok (here s) n.0.0 (length n.0.1.bytes) a.0 x a.2 in
        let t = number_takes w32 word any s n.0 fits n.1 in
        let u = lf.found n.0.1 a.0 t.rest_fits a.1 in
        let long : length n.0.1.bytes ≡ widths (f.spell a.0.0) + length a.0.1.bytes =
        ap length u.1.parts ∙ length-append (pieces es (f.spell a.0.0)) a.0.1.bytes
        ∙ ap (λ (k : ℕ). k + length a.0.1.bytes) (widths_are es (f.spell a.0.0)) in
        let is : n.0.0 ≡ widths (f.spell a.0.0) = omega (arith, long, m.0) in
        subst (λ (y : A × Spot). (sized f).allows y.0 × Takes es s ((sized f).spell y.0) y.1) m.1 (
          (u.0, subst (λ (k : ℕ). k < 2 ^ 32) is t.below),
          record {
            parts = t.bytes ∙ ap (λ (k : ℕ). to_be_bytes w32 k ++ n.0.1.bytes) is
                ∙ ap (λ (l : List ℕ). to_be_bytes w32 (widths (f.spell a.0.0)) ++ l) u.1.parts
                ∙ sym (append_assoc (to_be_bytes w32 (widths (f.spell a.0.0))) (pieces es (f.spell a.0.0))
                a.0.1.bytes);
            counted = ap (count_mentions es (mentions (f.spell a.0.0))) t.counter ∙ u.1.counted;
            total = t.total ∙ u.1.total;
            rest_fits = u.1.rest_fits;
          },
        );
    only = λ a t b c bytes allowed count.
        let p = allowed in
        let field = here (spot t b (pieces es ((sized f).spell a) ++ bytes)) in
        let first = number_again w32 word any (widths (f.spell a)) t b (pieces es (f.spell a) ++ bytes) p.1 refl in
        let second = lf.only a t b c bytes p.0 count in
        let len : length (pieces es (f.spell a) ++ bytes) ≡ widths (f.spell a) + length bytes =
        length-append (pieces es (f.spell a)) bytes
        ∙ ap (λ (n : ℕ). n + length bytes) (widths_are es (f.spell a)) in
        let is : (length (pieces es (f.spell a) ++ bytes) - length bytes == widths (f.spell a)) ≡ true =
        eq-eqb _ _ (omega (arith, len)) in
        let regroup : pieces es ((sized f).spell a) ++ bytes
        ≡ to_be_bytes w32 (widths (f.spell a)) ++ (pieces es (f.spell a) ++ bytes) =
        append_assoc (to_be_bytes w32 (widths (f.spell a))) (pieces es (f.spell a)) bytes in
        let tail = λ (at : ℕ) (r : Result (ℕ × Spot) ℕ).
        r >>= λ n. f.read n.1 >>= measured at n.0 (length n.1.bytes) in
        let last = λ (r : Result (A × Spot) ℕ).
        r >>= measured field (widths (f.spell a)) (length (pieces es (f.spell a) ++ bytes)) in
        ap (λ (l : List ℕ). tail field (number_at w32 any (spot t b l))) regroup ∙ ap (tail field) first
        ∙ ap last second ∙ ap (λ (y : Bool). cond y (done {A = A × Spot} (a, spot t c bytes)) (Err field)) is;
  }

  -- ---- mentions

  pub mentioned_ok : {A : Type 0} (rest : Spot) (at counter : ℕ) (o : Option (Entry × A)) (x : A × Spot)
      → mentioned es rest at counter o ≡ Ok x
      → (e : Entry) × (o ≡ Some (e, x.0)) × (count_mention es e counter ≡ Some x.1.counter)
      × (rest.bytes ≡ x.1.bytes) × (rest.total ≡ x.1.total)
  mentioned_ok rest at counter None x h = absurd cc
  mentioned_ok {A} rest at counter (Some y) x h =
      let m = moved_ok rest at y.1 (count_mention es y.0 counter) x h in
      subst (λ (z : A × Spot). (e : Entry) × (Some y ≡ Some (e, z.0)) × (count_mention es e counter ≡ Some z.1.counter)
      × (rest.bytes ≡ z.1.bytes) × (rest.total ≡ z.1.total)) m.2 (y.0, refl, m.1, refl, refl)

  pub one_count : (e : Entry) (b c : ℕ) → count_mentions es (e ∷ []) b ≡ Some c → count_mention es e b ≡ Some c
  unfolding count_mentions
  one_count e b c h = by (count_mention es e b) h
    where
      by : (o : Option ℕ) → then_count o (λ c. Some c) ≡ Some c → o ≡ Some c
      by None h = absurd cc
      by (Some k) h = h

  -- an entry that is mentioned has an index, which fits two bytes
  pub record HasIndex (e : Entry) : Type 0 where
    pub place : ℕ
    pub sought : seek 1 es e ≡ Some place
    pub is : index es e ≡ place
    pub some : 0 < place
    pub fits : place < 2 ^ 16

  pub has_index : IsPool es → (e : Entry) (b c : ℕ) → count_mention es e b ≡ Some c → HasIndex e
  has_index pool e b c h =
      let i = sought (seek 1 es e) b c (count_each es (behind e) (b + size e)) h in
      let below : i.0 < 1 + units es = seek_below 1 es e i.0 i.1 in
      let from : 1 ≤ i.0 = seek_from 1 es e i.0 i.1 in
      record {
        place = i.0;
        sought = i.1;
        is = ap found i.1;
        some = omega (arith, from);
        fits = omega (arith, below, pool);
      }

  pub mentioned_again : {A : Type 0} (entry : A → Entry) (inside : Entry → Option A) (rest : Spot) (at b c : ℕ) (a : A)
      → HasIndex (entry a) → inside (entry a) ≡ Some a → count_mention es (entry a) b ≡ Some c
      → mentioned es rest at b (said inside (named es (index es (entry a)))) ≡ Ok (a, spot rest.total c rest.bytes)
  mentioned_again entry inside rest at b c a i allowed count =
      ap (λ (k : ℕ). mentioned es rest at b (said inside (named es k))) i.is
      ∙ ap (λ (o : Option Entry). mentioned es rest at b (said inside o)) (named_again es i.place (entry a) i.sought)
      ∙ ap (mentioned es rest at b) (said_again inside (entry a) a allowed)
      ∙ ap (moved rest at a) count

  pub lawful_mention : {A : Type 0} (entry : A → Entry) (inside : Entry → Option A) → Says entry inside → IsPool es
      → Lawful es (mention es entry inside)
  unfolding mention_at count_mentions
  lawful_mention {A} entry inside says pool = record {
    found = λ s x fits h.
        let i = bind_ok (number_at w16 any s)
        (λ i. mentioned es i.1 (here s) s.counter (said inside (named es i.0))) x h in
        let t = number_takes w16 half any s i.0 fits i.1 in
        let m = mentioned_ok i.0.1 (here s) s.counter (said inside (named es i.0.0)) x i.2 in
        let k = said_ok inside (named es i.0.0) (m.0, x.0) m.1 in
        let entry_is : entry x.0 ≡ m.0 = says m.0 x.0 k.1 in
        let named_at : seek 1 es (entry x.0) ≡ Some i.0.0 =
        ap (seek 1 es) entry_is ∙ named_is es i.0.0 m.0 k.0 in
        let index_is : i.0.0 ≡ index es (entry x.0) = sym (ap found named_at) in
        let at_entry : inside (entry x.0) ≡ Some x.0 = ap inside entry_is ∙ k.1 in
        let counted : count_mention es (entry x.0) s.counter ≡ Some x.1.counter =
        ap (λ (e : Entry). count_mention es e s.counter) entry_is ∙ m.2 in (
          at_entry,
          record {
            parts = t.bytes ∙ ap (λ (n : ℕ). to_be_bytes w16 n ++ i.0.1.bytes) index_is
                ∙ ap (λ (l : List ℕ). to_be_bytes w16 (index es (entry x.0)) ++ l) m.3
                ∙ ap (λ (l : List ℕ). l ++ x.1.bytes) (sym (append-nil (to_be_bytes w16 (index es (entry x.0)))));
            counted = ap (λ (o : Option ℕ). then_count o (λ c. Some c)) counted;
            total = t.total ∙ m.4;
            rest_fits = subst IsBytes m.3 t.rest_fits;
          },
        );
    only = λ a t b c bytes allowed count.
        let counted = one_count (entry a) b c count in
        let at = here (spot t b (pieces es (Mention (entry a) ∷ []) ++ bytes)) in
        let i = has_index pool (entry a) b c counted in
        let below : index es (entry a) < 2 ^ 16 = subst (λ (k : ℕ). k < 2 ^ 16) (sym i.is) i.fits in
        let tail = λ (r : Result (ℕ × Spot) ℕ).
        r >>= λ i. mentioned es i.1 at b (said inside (named es i.0)) in
        ap (λ (l : List ℕ). tail (number_at w16 any (spot t b (l ++ bytes))))
        (append-nil (to_be_bytes w16 (index es (entry a))))
        ∙ ap tail (number_again w16 half any (index es (entry a)) t b bytes below refl)
        ∙ mentioned_again entry inside (spot t b bytes) at b c a i allowed counted;
  }

  optional_ok : {A : Type 0} (inside : Entry → Option A) (s : Spot) (i : ℕ × Spot) (x : Option A × Spot)
      → optional_at es inside s i ≡ Ok x
      → ((i.0 ≡ 0) × ((None, i.1) ≡ x))
      ⊎ ((a : A × Spot) × (mention_at es inside s ≡ Ok a) × ((Some a.0, a.1) ≡ x))
  optional_ok {A} inside s i x h = by (eqb i.0 0) refl h
    where
      by : (b : Bool) → eqb i.0 0 ≡ b
          → cond b (done {A = Option A × Spot} (None, i.1)) (mention_at es inside s >>= λ a. done (Some a.0, a.1)) ≡ Ok x
          → ((i.0 ≡ 0) × ((None, i.1) ≡ x))
          ⊎ ((a : A × Spot) × (mention_at es inside s ≡ Ok a) × ((Some a.0, a.1) ≡ x))
      by true is h = inl (eqb-true i.0 0 is, done_is (None, i.1) x h)
      by false is h =
          let a = bind_ok (mention_at es inside s) (λ a. done (Some a.0, a.1)) x h in
          inr (a.0, a.1, done_is (Some a.0.0, a.0.1) x a.2)

  pub lawful_optional : {A : Type 0} (entry : A → Entry) (inside : Entry → Option A) → Says entry inside → IsPool es
      → Lawful es (optional es entry inside)
  unfolding count_mentions
  lawful_optional {A} entry inside says pool = record {
    found = λ s x fits h.
        let i = bind_ok (number_at w16 any s) (optional_at es inside s) x h in
        let t = number_takes w16 half any s i.0 fits i.1 in
        elim (optional_ok inside s i.0 x i.2) [
          | inl z ↦
              subst (λ (y : Option A × Spot). optional_allows entry inside y.0 × Takes es s (optional_spell entry y.0) y.1)
              z.1 (
                tt,
                record {
                  parts = t.bytes ∙ ap (λ (n : ℕ). to_be_bytes w16 n ++ i.0.1.bytes) z.0
                      ∙ ap (λ (l : List ℕ). l ++ i.0.1.bytes) (sym (append-nil (to_be_bytes w16 0)));
                  counted = ap (λ (c : ℕ). Some c) t.counter;
                  total = t.total;
                  rest_fits = t.rest_fits;
                },
              )
          | inr z ↦
              subst (λ (y : Option A × Spot). optional_allows entry inside y.0 × Takes es s (optional_spell entry y.0) y.1)
              z.2 ((lawful_mention entry inside says pool).found s z.0 fits z.1)
        ];
    only = λ o t b c bytes allowed count. by o t b c bytes allowed count;
  }
    where
      by : (o : Option A) (t b c : ℕ) (bytes : List ℕ) → optional_allows entry inside o
          → count_mentions es (mentions (optional_spell entry o)) b ≡ Some c
          → (optional es entry inside).read (spot t b (pieces es (optional_spell entry o) ++ bytes))
          ≡ Ok (o, spot t c bytes)
      by None t b c bytes allowed count =
          ap (λ (r : Result (ℕ × Spot) ℕ). r >>= optional_at es inside (spot t b (to_be_bytes w16 0 ++ bytes)))
          (number_again w16 half any 0 t b bytes (omega arith) refl)
          ∙ ap (λ (k : ℕ). done {A = Option A × Spot} (None, spot t k bytes)) (some_is b c count)
      by (Some a) t b c bytes allowed count =
          let i = has_index pool (entry a) b c (one_count (entry a) b c count) in
          let below : index es (entry a) < 2 ^ 16 = subst (λ (k : ℕ). k < 2 ^ 16) (sym i.is) i.fits in
          let isn't : eqb (index es (entry a)) 0 ≡ false =
          ne_eqb (index es (entry a)) 0 (λ z. omega (arith, i.is, i.some, z)) in
          let s = spot t b (pieces es (Mention (entry a) ∷ []) ++ bytes) in
          ap (λ (l : List ℕ). number_at w16 any (spot t b (l ++ bytes)) >>= optional_at es inside s)
          (append-nil (to_be_bytes w16 (index es (entry a))))
          ∙ ap (λ (r : Result (ℕ × Spot) ℕ). r >>= optional_at es inside s)
          (number_again w16 half any (index es (entry a)) t b bytes below refl)
          ∙ ap (λ (z : Bool). cond z (done {A = Option A × Spot} (None, spot t b bytes))
          (mention_at es inside s >>= λ a. done (Some a.0, a.1))) isn't
          ∙ ap (λ (r : Result (A × Spot) ℕ). r >>= λ a. done {A = Option A × Spot} (Some a.0, a.1))
          ((lawful_mention entry inside says pool).only a t b c bytes allowed count)

pub numbers_are_lawful : NumbersAreLawful
numbers_are_lawful es rule =
    (lawful_number es w8 rule byte, lawful_number es w16 rule half, lawful_number es w32 rule word)
