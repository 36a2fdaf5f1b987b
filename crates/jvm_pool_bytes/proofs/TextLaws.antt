-- A text that is read is spelled so, and what is spelled is read.
use Rattle.std.proofs.Common.{◌≡◌, ℕ, zero, suc, ◌+◌, ◌^◌, ◌<◌, ◌≤◌, Bool, false, cond, ltb, List, [], ◌∷◌, ◌++◌, length, length-append, take, drop, Option, Some, None, option_map, Result, Ok, Err, refl, sym, ap, subst, ◌∙◌, arith}
use Rattle.std.specs.Int.{w16}
use Rattle.std.proofs.lemmas.Bool.{ltb-false, le-ltb}
use Rattle.std.proofs.lemmas.List.{append-nil, take_at, drop_at, take-append-drop, length-take}
use Rattle.std.proofs.lemmas.List.Elements.{All-tail}
use Rattle.jvm_pool.specs.declared.entries.Entry.{Entry}
use Rattle.jvm_pool.specs.Mentions.{count_mentions}
use Rattle.jvm_pool.specs.Modified.{modified, IsText, unit_bytes}
use Rattle.jvm_pool.specs.ModifiedReading.{first_unit}
use Rattle.jvm_pool.proofs.Units.{first_unit_takes, first_unit_again}
use Rattle.jvm_pool.proofs.Texts.{first_of_text}
use Rattle.jvm_pieces.specs.Pieces.{Bytes}
use Rattle.jvm_class_formats.specs.Formats.{Spot, spot, here, any, u2, seq}
use Rattle.jvm_class_formats.specs.Lawful.{Takes, Lawful}
use Rattle.jvm_class_formats.proofs.Steps.{unless_ok, done, done_is, some_is, bytes_behind, half}
use Rattle.jvm_class_formats.proofs.Parts.{lawful_number, lawful_seq, lawful_as}
use Rattle.jvm_pool_bytes.specs.Reading.{with_unit, text_of, spelled_text, chars, text}

unit_ok : (o : Option (ℕ × List ℕ)) (more : List ℕ → Option (List ℕ)) (t : List ℕ) → with_unit o more ≡ Some t
    → (u : ℕ × List ℕ) × (us : List ℕ) × (o ≡ Some u) × (more u.1 ≡ Some us) × (u.0 ∷ us ≡ t)
unit_ok None more t h = absurd cc
unit_ok (Some u) more t h = by (more u.1) refl h
  where
    by : (o : Option (List ℕ)) → more u.1 ≡ o → option_map (λ t. u.0 ∷ t) o ≡ Some t
        → (v : ℕ × List ℕ) × (us : List ℕ) × (Some u ≡ Some v) × (more v.1 ≡ Some us) × (v.0 ∷ us ≡ t)
    by None is h = absurd cc
    by (Some us) is h = (u, us, refl, is, cc)

some_list : (a b : List ℕ) → Some a ≡ Some b → a ≡ b
some_list a b e = cc

no_units : IsText []
no_units i d below = absurd (omega (arith, below))

more_units : (u : ℕ) (us : List ℕ) → u < 2 ^ 16 → IsText us → IsText (u ∷ us)
more_units u us lt h zero d below = lt
more_units u us lt h (suc i) d below = h i d (omega (arith, below))

text_takes : (n : ℕ) (bytes t : List ℕ) → text_of n bytes ≡ Some t → IsText t × (bytes ≡ modified t)
text_takes zero [] t h = subst (λ (x : List ℕ). IsText x × ([] ≡ modified x)) (some_list [] t h) (no_units, refl)
text_takes (suc n) [] t h = subst (λ (x : List ℕ). IsText x × ([] ≡ modified x)) (some_list [] t h) (no_units, refl)
text_takes zero (b ∷ bytes) t h = absurd cc
text_takes (suc n) (b ∷ bytes) t h =
    let u = unit_ok (first_unit (b ∷ bytes)) (text_of n) t h in
    let first = first_unit_takes (b ∷ bytes) u.0.0 u.0.1 u.2 in
    let rest = text_takes n u.0.1 u.1 u.3 in
    subst (λ (x : List ℕ). IsText x × (b ∷ bytes ≡ modified x)) u.4
    (more_units u.0.0 u.1 first.1 rest.0, first.0 ∙ ap (λ (l : List ℕ). unit_bytes u.0.0 ++ l) rest.1)

unit_some : (u : ℕ) → u < 2 ^ 16 → 0 < length (unit_bytes u)
unit_some u lt = by (unit_bytes u) (first_unit_again u [] lt)
  where
    by : (b : List ℕ) → first_unit (b ++ []) ≡ Some (u, []) → 0 < length b
    by [] h = absurd cc
    by (x ∷ b) h = omega arith

pub text_again : (n : ℕ) (t l : List ℕ) → l ≡ modified t → IsText t → length l ≤ n → text_of n l ≡ Some t
text_again zero [] l is fits le = ap (text_of zero) is
text_again (suc n) [] l is fits le = ap (text_of (suc n)) is
text_again n (u ∷ us) [] is fits le =
    absurd (omega (arith, unit_some u (fits 0 0 (omega arith)), ap length is, length-append (unit_bytes u) (modified us)))
text_again zero (u ∷ us) (x ∷ l) is fits le = absurd (omega (arith, le))
text_again (suc n) (u ∷ us) (x ∷ l) is fits le =
    let first : first_unit (x ∷ l) ≡ Some (u, modified us) = ap first_unit is ∙ first_of_text u us fits in
    let tail : IsText us = All-tail (λ unit. unit < 2 ^ 16) u us fits in
    let len : length (x ∷ l) ≡ length (unit_bytes u) + length (modified us) =
    ap length is ∙ length-append (unit_bytes u) (modified us) in
    let some = unit_some u (fits 0 0 (omega arith)) in
    let rest = text_again n us (modified us) refl tail (omega (arith, len, le, some)) in
    ap (λ (o : Option (ℕ × List ℕ)). with_unit o (text_of n)) first ∙ ap (option_map (λ t. u ∷ t)) rest

spelled_ok : (s : Spot) (n : ℕ) (o : Option (List ℕ)) (x : List ℕ × Spot) → spelled_text s n o ≡ Ok x
    → (o ≡ Some x.0) × (spot s.total s.counter (drop n s.bytes) ≡ x.1)
spelled_ok s n None x h = absurd cc
spelled_ok s n (Some t) x h =
    let e = done_is (t, spot s.total s.counter (drop n s.bytes)) x h in
    (ap (λ (y : List ℕ × Spot). Some y.0) e, ap (λ (y : List ℕ × Spot). y.1) e)

take_len : (n : ℕ) (l : List ℕ) → n ≤ length l → length (take n l) ≡ n
take_len n l le = omega (arith, length-take n l)

module _ (es : List Entry) where
  lawful_chars : (n : ℕ) → Lawful es (chars n)
  unfolding count_mentions
  lawful_chars n = record {
    found = λ s x fits h.
        let g = unless_ok (ltb (length s.bytes) n) s.total (spelled_text s n (text_of n (take n s.bytes))) x h in
        let long : n ≤ length s.bytes = ltb-false _ _ g.0 in
        let o = spelled_ok s n (text_of n (take n s.bytes)) x g.1 in
        let t = text_takes n (take n s.bytes) x.0 o.0 in (
          (t.0, sym (ap length t.1) ∙ take_len n s.bytes long),
          subst (λ (y : Spot). Takes es s (Bytes (modified x.0) ∷ []) y) o.1 record {
            parts = sym (take-append-drop n s.bytes)
                ∙ ap (λ (l : List ℕ). l ++ drop n s.bytes) (t.1 ∙ sym (append-nil (modified x.0)));
            counted = refl;
            total = refl;
            rest_fits = bytes_behind n s.bytes fits;
          },
        );
    only = λ t total b c bytes allowed count.
        let long : ltb (length (modified t ++ bytes)) n ≡ false =
        le-ltb _ _ (omega (arith, allowed.1, length-append (modified t) bytes)) in
        let read = text_again n t (modified t) refl allowed.0 (omega (arith, allowed.1)) in
        let s = spot total b (modified t ++ bytes) in
        ap (λ (l : List ℕ). (chars n).read (spot total b (l ++ bytes))) (append-nil (modified t))
        ∙ ap (λ (y : Bool). cond y (Err total) (spelled_text s n (text_of n (take n (modified t ++ bytes))))) long
        ∙ ap (λ (l : List ℕ). spelled_text s n (text_of n l)) (take_at (modified t) bytes n allowed.1)
        ∙ ap (spelled_text s n) read
        ∙ ap (λ (l : List ℕ). done {A = List ℕ × Spot} (t, spot total b l)) (drop_at (modified t) bytes n allowed.1)
        ∙ ap (λ (k : ℕ). done {A = List ℕ × Spot} (t, spot total k bytes)) (some_is b c count);
  }

  pub lawful_text : Lawful es text
  lawful_text =
      lawful_as es (λ (x : ℕ × List ℕ). x.1) (λ (t : List ℕ). (length (modified t), t)) (seq u2 chars) (λ t. refl)
      (λ x allowed.
      ap (λ (n : ℕ). (n, x.1)) allowed.1.1)
      (lawful_seq es u2 chars (lawful_number es w16 any half) (λ n _. lawful_chars n))

-- ---- what a reader of texts finds

pub text_found : (n : ℕ) (bytes t : List ℕ) → IsText t → bytes ≡ modified t → length bytes ≤ n → text_of n bytes ≡ Some t
text_found n bytes t fits is le = text_again n t bytes is fits le

pub no_text : (n : ℕ) (bytes : List ℕ) → ((t : List ℕ) → IsText t → bytes ≡ modified t → ⊥) → text_of n bytes ≡ None
no_text n bytes none = by (text_of n bytes) refl
  where
    by : (o : Option (List ℕ)) → text_of n bytes ≡ o → text_of n bytes ≡ None
    by None is = is
    by (Some t) is = let p = text_takes n bytes t is in absurd (none t p.0 p.1)

module _ (s : Spot) (total counter : ℕ) (bytes : List ℕ) (is : spot total counter bytes ≡ s) where
  pub chars_read : (u : Spot) (n : ℕ) (front back t : List ℕ) → n ≤ length bytes → front ≡ take n bytes
      → back ≡ drop n bytes → IsText t → front ≡ modified t → u ≡ spot total counter back → (chars n).read s ≡ Ok (t, u)
  chars_read u n front back t enough first rest fits same at =
      let long : ltb (length bytes) n ≡ false = le-ltb (length bytes) n enough in
      let read : text_of n (take n bytes) ≡ Some t =
      text_found n (take n bytes) t fits (sym first ∙ same) (omega (arith, length-take n bytes)) in
      ap (λ (y : Spot). (chars n).read y) (sym is)
      ∙ ap (λ (b : Bool). cond b (Err total) (spelled_text (spot total counter bytes) n (text_of n (take n bytes)))) long
      ∙ ap (spelled_text (spot total counter bytes) n) read
      ∙ ap (λ (l : List ℕ). done {A = List ℕ × Spot} (t, spot total counter l)) (sym rest)
      ∙ ap (λ (v : Spot). done {A = List ℕ × Spot} (t, v)) (sym at)

  abbrev refused : ℕ → Result (List ℕ × Spot) ℕ
  refused k = Err k

  pub chars_bad : (n at : ℕ) (front : List ℕ) → n ≤ length bytes → front ≡ take n bytes
      → ((t : List ℕ) → IsText t → front ≡ modified t → ⊥) → at ≡ here s → (chars n).read s ≡ Err at
  chars_bad n at front enough first none place =
      let long : ltb (length bytes) n ≡ false = le-ltb (length bytes) n enough in
      let read : text_of n (take n bytes) ≡ None =
      no_text n (take n bytes) (λ t fits same. none t fits (first ∙ same)) in
      ap (λ (y : Spot). (chars n).read y) (sym is)
      ∙ ap (λ (b : Bool). cond b (Err total) (spelled_text (spot total counter bytes) n (text_of n (take n bytes)))) long
      ∙ ap (spelled_text (spot total counter bytes) n) read
      ∙ ap (λ (y : Spot). refused (here y)) is
      ∙ ap (λ (k : ℕ). refused k) (sym place)
