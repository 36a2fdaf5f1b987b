-- Steps of reading, the bytes of numbers, and pieces behind one another.
use Rattle.std.proofs.Common.{◌≡◌, ℕ, ◌+◌, ◌*◌, ◌^◌, ◌<◌, Bool, true, false, cond, List, [], ◌∷◌, ◌++◌, length, length-append, take, drop, Option, Some, None, Result, Ok, Err, refl, sym, ap, ◌∙◌, append_assoc, arith, inl, inr}
use Rattle.std.specs.Int.{Width, w8, w16, w32, w64, byte_len, from_be_bytes, to_be_bytes}
use Rattle.std.proofs.lemmas.Bool.{cases_lt}
use Rattle.std.proofs.lemmas.List.{length-take, get_or-drop, get_or-take, get_or_past}
use Rattle.std.proofs.lemmas.Nat.{be_bytes_2, be_bytes_4, be_bytes_8, from_be_bytes-to_be_bytes_2, from_be_bytes-to_be_bytes_4, from_be_bytes-to_be_bytes_8}
use Rattle.jvm_pool.specs.declared.entries.Entry.{Entry}
use Rattle.jvm_pool.specs.Mentions.{then_count, count_mention, count_mentions}
use Rattle.jvm_pieces.specs.Pieces.{Piece, Bytes, Mention, mentions, index, piece, pieces}
use Rattle.jvm_class_formats.specs.Formats.{Spot, ◌>>=◌, widths}
use Rattle.jvm_class_formats.specs.Lawful.{IsBytes, Takes}

-- ---- results

pub bind_ok : {A B : Type 0} (r : Result A ℕ) (f : A → Result B ℕ) (y : B) → (r >>= f) ≡ Ok y
    → (x : A) × (r ≡ Ok x) × (f x ≡ Ok y)
bind_ok (Ok x) f y e = (x, refl, e)
bind_ok (Err at) f y e = absurd cc

pub unless_ok : {A : Type 0} (b : Bool) (at : ℕ) (r : Result A ℕ) (y : A) → cond b (Err at) r ≡ Ok y
    → (b ≡ false) × (r ≡ Ok y)
unless_ok true at r y e = absurd cc
unless_ok false at r y e = (refl, e)

pub where_ok : {A : Type 0} (b : Bool) (at : ℕ) (r : Result A ℕ) (y : A) → cond b r (Err at) ≡ Ok y
    → (b ≡ true) × (r ≡ Ok y)
where_ok true at r y e = (refl, e)
where_ok false at r y e = absurd cc

abbrev pub done : {A : Type 0} → A → Result A ℕ
done x = Ok x

pub done_is : {A : Type 0} (x y : A) → done x ≡ done y → x ≡ y
done_is x y e = cc

pub some_is : (a b : ℕ) → Some a ≡ Some b → a ≡ b
some_is a b e = cc

-- ---- bytes

pub bytes_behind : (n : ℕ) (bytes : List ℕ) → IsBytes bytes → IsBytes (drop n bytes)
bytes_behind n bytes h i = rw get_or-drop (h (n + i))

pub bytes_before : (n : ℕ) (bytes : List ℕ) → IsBytes bytes → IsBytes (take n bytes)
bytes_before n bytes h i =
    elim (cases_lt i n) [
      | inl lt ↦ rw (get_or-take n bytes i 0 lt) (h i)
      | inr le ↦ rw (get_or_past (take n bytes) i 0 (omega (arith, length-take n bytes))) (omega arith)
    ]

-- numbers of a width and their bytes, both ways
pub record HasWidth (w : Width) : Type 0 where
  pub len : (n : ℕ) → length (to_be_bytes w n) ≡ byte_len w
  pub back : (bytes : List ℕ) → length bytes ≡ byte_len w → IsBytes bytes
      → to_be_bytes w (from_be_bytes w bytes) ≡ bytes
  pub again : (n : ℕ) → n < 2 ^ (8 * byte_len w) → from_be_bytes w (to_be_bytes w n) ≡ n
  pub below : (bytes : List ℕ) → IsBytes bytes → from_be_bytes w bytes < 2 ^ (8 * byte_len w)

pub word : HasWidth w32
word = record {
  len = λ n. refl;
  back = λ bytes len fits. be_bytes_4 bytes _ len fits refl;
  again = λ n lt. from_be_bytes-to_be_bytes_4 n lt;
  below = λ bytes fits. omega (arith, fits 0, fits 1, fits 2, fits 3);
}

pub half : HasWidth w16
half = record {
  len = λ n. refl;
  back = λ bytes len fits. be_bytes_2 bytes _ len fits refl;
  again = λ n lt. from_be_bytes-to_be_bytes_2 n lt;
  below = λ bytes fits. omega (arith, fits 0, fits 1);
}

pub double : HasWidth w64
double = record {
  len = λ n. refl;
  back = λ bytes len fits. be_bytes_8 bytes _ len fits refl;
  again = λ n lt. from_be_bytes-to_be_bytes_8 n lt;
  below = λ bytes fits. omega (arith, fits 0, fits 1, fits 2, fits 3, fits 4, fits 5, fits 6, fits 7);
}

one_byte : (bytes : List ℕ) → length bytes ≡ 1 → IsBytes bytes → to_be_bytes w8 (from_be_bytes w8 bytes) ≡ bytes
one_byte [] len fits = absurd (omega (arith, len))
one_byte (a ∷ b ∷ rest) len fits = absurd (omega (arith, len))
one_byte (a ∷ []) len fits = let lt : a < 256 = fits 0 in ap (λ (n : ℕ). n ∷ []) (omega (arith, lt))

pub byte : HasWidth w8
byte = record {
  len = λ n. refl;
  back = one_byte;
  again = λ n lt. omega (arith, lt);
  below = λ bytes fits. omega (arith, fits 0);
}

-- ---- pieces

pub mentions-append : (ps qs : List Piece) → mentions (ps ++ qs) ≡ mentions ps ++ mentions qs
mentions-append [] qs = refl
mentions-append (Bytes n ∷ ps) qs = mentions-append ps qs
mentions-append (Mention e ∷ ps) qs = ap (λ (l : List Entry). e ∷ l) (mentions-append ps qs)

pub pieces-append : (es : List Entry) (ps qs : List Piece) → pieces es (ps ++ qs) ≡ pieces es ps ++ pieces es qs
pieces-append es [] qs = refl
pieces-append es (p ∷ ps) qs =
    ap (λ (l : List ℕ). piece es p ++ l) (pieces-append es ps qs)
    ∙ sym (append_assoc (piece es p) (pieces es ps) (pieces es qs))

pub widths_are : (es : List Entry) (ps : List Piece) → length (pieces es ps) ≡ widths ps
widths_are es [] = refl
widths_are es (Bytes b ∷ ps) =
    length-append b (pieces es ps) ∙ ap (λ (n : ℕ). length b + n) (widths_are es ps)
widths_are es (Mention e ∷ ps) =
    length-append (to_be_bytes w16 (index es e)) (pieces es ps) ∙ ap (λ (n : ℕ). 2 + n) (widths_are es ps)

pub count_both : (es ms ns : List Entry) (b c d : ℕ) → count_mentions es ms b ≡ Some c
    → count_mentions es ns c ≡ Some d → count_mentions es (ms ++ ns) b ≡ Some d
unfolding count_mentions
count_both es [] ns b c d p q = let e : b ≡ c = cc in ap (count_mentions es ns) e ∙ q
count_both es (m ∷ ms) ns b c d p q = by (count_mention es m b) refl p (λ k. λ h. count_both es ms ns k c d h q)
  where
    by : (o : Option ℕ) → count_mention es m b ≡ o → then_count o (count_mentions es ms) ≡ Some c
        → ((k : ℕ) → count_mentions es ms k ≡ Some c → count_mentions es (ms ++ ns) k ≡ Some d)
        → then_count (count_mention es m b) (count_mentions es (ms ++ ns)) ≡ Some d
    by None e h rest = absurd cc
    by (Some k) e h rest = rw e (rest k h)

pub count_parts : (es ms ns : List Entry) (b d : ℕ) → count_mentions es (ms ++ ns) b ≡ Some d
    → (c : ℕ) × (count_mentions es ms b ≡ Some c) × (count_mentions es ns c ≡ Some d)
unfolding count_mentions
count_parts es [] ns b d h = (b, refl, h)
count_parts es (m ∷ ms) ns b d h = by (count_mention es m b) h (λ k. λ h. count_parts es ms ns k d h)
  where
    by : (o : Option ℕ) → then_count o (count_mentions es (ms ++ ns)) ≡ Some d
        → ((k : ℕ) → count_mentions es (ms ++ ns) k ≡ Some d
        → (c : ℕ) × (count_mentions es ms k ≡ Some c) × (count_mentions es ns c ≡ Some d))
        → (c : ℕ) × (then_count o (count_mentions es ms) ≡ Some c) × (count_mentions es ns c ≡ Some d)
    by None h rest = absurd cc
    by (Some k) h rest = rest k h

-- ---- what was taken

pub takes_both : (es : List Entry) (a : Spot) (x : List Piece) (b : Spot) (y : List Piece) (c : Spot)
    → Takes es a x b → Takes es b y c → Takes es a (x ++ y) c
takes_both es a x b y c p q = record {
  parts = p.parts ∙ ap (λ (t : List ℕ). pieces es x ++ t) q.parts
      ∙ sym (append_assoc (pieces es x) (pieces es y) c.bytes)
      ∙ ap (λ (l : List ℕ). l ++ c.bytes) (sym (pieces-append es x y));
  counted = rw (mentions-append x y)
      (count_both es (mentions x) (mentions y) a.counter b.counter c.counter p.counted q.counted);
  total = p.total ∙ q.total;
  rest_fits = q.rest_fits;
}

pub takes_nothing : (es : List Entry) (s : Spot) → IsBytes s.bytes → Takes es s [] s
unfolding count_mentions
takes_nothing es s fits = record { parts = refl; counted = refl; total = refl; rest_fits = fits }
