-- A number that is read is the number that was written, and what was written is read again.
use Rattle.std.proofs.Common.{◌≡◌, ℕ, suc, ◌+◌, ◌^◌, ◌<◌, ◌≤◌, Bool, true, false, cond, ltb, List, [], ◌∷◌, ◌++◌, length, get_or, take, drop, Result, Ok, Err, refl, sym, ap, subst, ◌∙◌, append_assoc, arith, inl, inr}
use Rattle.std.specs.Prelude.{◌==◌}
use Rattle.std.specs.Int.{Width, w32, w16, byte_len, from_be_bytes, to_be_bytes}
use Rattle.std.proofs.lemmas.Bool.{cases_lt, ltb-false, le-ltb, eqb-true, eqb-false}
use Rattle.std.proofs.lemmas.Bool.Decides.{nat_tests}
use Rattle.std.proofs.lemmas.List.{take_at, drop_at, take-append-drop, length-append, length-take, get_or-drop, get_or-take, get_or_past}
use Rattle.std.proofs.lemmas.Nat.{be_bytes_4, be_bytes_2, from_be_bytes-to_be_bytes_4, from_be_bytes-to_be_bytes_2}
use Rattle.jvm_code_instructions.specs.declared.fault.Fault.{Fault}
use Rattle.jvm_code_instructions.specs.declared.fault.Fault.TheVariants.{Cut, BadOpcode}
use Rattle.jvm_code_instructions.specs.Reading.{◌>>=◌, number_at, byte_at, only_at, count_at}

abbrev pub IsBytes : List ℕ → Type 0
IsBytes bytes = (i : ℕ) → get_or bytes i 0 < 256

IsBytes-drop : (n : ℕ) (bytes : List ℕ) → IsBytes bytes → IsBytes (drop n bytes)
IsBytes-drop n bytes h i = rw get_or-drop (h (n + i))

IsBytes-take : (n : ℕ) (bytes : List ℕ) → IsBytes bytes → IsBytes (take n bytes)
IsBytes-take n bytes h i =
    elim (cases_lt i n) [
      | inl lt ↦ rw (get_or-take n bytes i 0 lt) (h i)
      | inr le ↦ rw (get_or_past (take n bytes) i 0 (omega (arith, length-take n bytes))) (omega arith)
    ]

pub IsBytes-rest : (b : ℕ) (bytes : List ℕ) → IsBytes (b ∷ bytes) → IsBytes bytes
IsBytes-rest b bytes h i = h (suc i)

-- the value of a step that did not fail
pub step_ok : {A B : Type 0} (r : Result A Fault) (f : A → Result B Fault) (y : B) → (r >>= f) ≡ Ok y → (x : A) × (r ≡ Ok x) × (f x ≡ Ok y)
step_ok (Ok x) f y e = (x, refl, e)
step_ok (Err d) f y e = absurd cc

-- a test that did not fail, on either side
pub unless_ok : {A : Type 0} (b : Bool) (d : Fault) (r : Result A Fault) (y : A) → cond b (Err d) r ≡ Ok y → (b ≡ false) × (r ≡ Ok y)
unless_ok true d r y e = absurd cc
unless_ok false d r y e = (refl, e)

pub where_ok : {A : Type 0} (b : Bool) (d : Fault) (r : Result A Fault) (y : A) → cond b r (Err d) ≡ Ok y → (b ≡ true) × (r ≡ Ok y)
where_ok true d r y e = (refl, e)
where_ok false d r y e = absurd cc

abbrev pub done : {A : Type 0} → A → Result A Fault
done x = Ok x

pub done_is : {A : Type 0} (x y : A) → done x ≡ done y → x ≡ y
done_is x y e = cc

-- what a reader took from the front of bytes
pub record Takes (bytes text rest : List ℕ) : Type 0 where
  pub parts : bytes ≡ text ++ rest
  pub rest_fits : IsBytes rest

pub takes_nothing : (bytes : List ℕ) → IsBytes bytes → Takes bytes [] bytes
takes_nothing bytes fits = record { parts = refl; rest_fits = fits }

pub takes_both : (a x b y c : List ℕ) → Takes a x b → Takes b y c → Takes a (x ++ y) c
takes_both a x b y c p q = record { parts = p.parts ∙ ap (λ (t : List ℕ). x ++ t) q.parts ∙ sym (append_assoc x y c); rest_fits = q.rest_fits }

-- ---- numbers of several bytes

pub record HasWidth (w : Width) (limit : ℕ) : Type 0 where
  pub len : (n : ℕ) → length (to_be_bytes w n) ≡ byte_len w
  pub back : (bytes : List ℕ) → length bytes ≡ byte_len w → IsBytes bytes → to_be_bytes w (from_be_bytes w bytes) ≡ bytes
  pub again : (n : ℕ) → n < limit → from_be_bytes w (to_be_bytes w n) ≡ n
  pub below : (bytes : List ℕ) → IsBytes bytes → from_be_bytes w bytes < limit

pub word : HasWidth w32 (2 ^ 32)
word = record {
  len = λ n. refl;
  back = λ bytes len fits. be_bytes_4 bytes _ len fits refl;
  again = λ n lt. from_be_bytes-to_be_bytes_4 n lt;
  below = λ bytes fits. omega (arith, fits 0, fits 1, fits 2, fits 3);
}

pub half : HasWidth w16 (2 ^ 16)
half = record {
  len = λ n. refl;
  back = λ bytes len fits. be_bytes_2 bytes _ len fits refl;
  again = λ n lt. from_be_bytes-to_be_bytes_2 n lt;
  below = λ bytes fits. omega (arith, fits 0, fits 1);
}

pub number_takes : (w : Width) (limit : ℕ) (wide : HasWidth w limit) (bytes : List ℕ) (n : ℕ) (rest : List ℕ) → IsBytes bytes → number_at w bytes ≡ Ok (n, rest) → Takes bytes (to_be_bytes w n) rest × (n < limit)
number_takes w limit wide bytes n rest fits e =
    let g = unless_ok (ltb (length bytes) (byte_len w)) Cut (done (from_be_bytes w (take (byte_len w) bytes), drop (byte_len w) bytes)) (n, rest) e in
    let same = done_is (from_be_bytes w (take (byte_len w) bytes), drop (byte_len w) bytes) (n, rest) g.1 in
    let long : byte_len w ≤ length bytes = ltb-false _ _ g.0 in
    let n-is : from_be_bytes w (take (byte_len w) bytes) ≡ n = ap (λ (p : ℕ × List ℕ). p.0) same in
    let rest-is : drop (byte_len w) bytes ≡ rest = ap (λ (p : ℕ × List ℕ). p.1) same in
    let front : to_be_bytes w n ≡ take (byte_len w) bytes = rw (← n-is) (wide.back (take (byte_len w) bytes) (omega (arith, length-take (byte_len w) bytes)) (IsBytes-take (byte_len w) bytes fits)) in
    (record { parts = rw (front, ← rest-is) (sym (take-append-drop (byte_len w) bytes)); rest_fits = rw (← rest-is) (IsBytes-drop (byte_len w) bytes fits) }, rw (← n-is) (wide.below (take (byte_len w) bytes) (IsBytes-take (byte_len w) bytes fits)))

pub number_again : (w : Width) (limit : ℕ) (wide : HasWidth w limit) (n : ℕ) (rest : List ℕ) → n < limit → number_at w (to_be_bytes w n ++ rest) ≡ Ok (n, rest)
number_again w limit wide n rest lt =
    let len = wide.len n in
    let long : ltb (length (to_be_bytes w n ++ rest)) (byte_len w) ≡ false = le-ltb _ _ (omega (arith, length-append (to_be_bytes w n) rest)) in
    rw (long, take_at (to_be_bytes w n) rest (byte_len w) len, drop_at (to_be_bytes w n) rest (byte_len w) len, wide.again n lt) refl

-- ---- single bytes

pub byte_takes : (bytes : List ℕ) (n : ℕ) (rest : List ℕ) → IsBytes bytes → byte_at bytes ≡ Ok (n, rest) → Takes bytes (n ∷ []) rest × (n < 256)
byte_takes [] n rest fits e = absurd cc
byte_takes (b ∷ bytes) n rest fits e =
    let p : (b, bytes) ≡ (n, rest) = done_is (b, bytes) (n, rest) e in
    subst (λ (x : ℕ × List ℕ). Takes (b ∷ bytes) (x.0 ∷ []) x.1 × (x.0 < 256)) p (record { parts = refl; rest_fits = IsBytes-rest b bytes fits }, fits 0)

same_byte : (a b : ℕ) → (a == b) ≡ true → a ≡ b
same_byte a b e = eqb-true a b e

pub only_takes : (wanted : ℕ) (bytes rest : List ℕ) → IsBytes bytes → only_at wanted bytes ≡ Ok rest → Takes bytes (wanted ∷ []) rest
only_takes wanted [] rest fits e = absurd cc
only_takes wanted (x ∷ bytes) rest fits e =
    let g = where_ok (x == wanted) BadOpcode (done bytes) rest e in
    let is : x ≡ wanted = same_byte x wanted g.0 in
    let rest-is : bytes ≡ rest = done_is bytes rest g.1 in
    record { parts = rw (is, rest-is) refl; rest_fits = rw (← rest-is) (IsBytes-rest x bytes fits) }

same_again : (n : ℕ) → (n == n) ≡ true
same_again n = grind (arith, nat_tests)

pub only_again : (wanted : ℕ) (rest : List ℕ) → only_at wanted (wanted ∷ rest) ≡ Ok rest
only_again wanted rest = ap (λ (b : Bool). cond b (done rest) (Err BadOpcode)) (same_again wanted)

pub count_takes : (bytes : List ℕ) (n : ℕ) (rest : List ℕ) → IsBytes bytes → count_at bytes ≡ Ok (n, rest) → Takes bytes (n ∷ []) rest × (n < 256) × (0 < n)
count_takes [] n rest fits e = absurd cc
count_takes (b ∷ bytes) n rest fits e =
    let g = unless_ok (b == 0) BadOpcode (done (b, bytes)) (n, rest) e in
    let some : 0 < b = omega (arith, eqb-false b 0 g.0) in
    let p : (b, bytes) ≡ (n, rest) = done_is (b, bytes) (n, rest) g.1 in
    subst (λ (x : ℕ × List ℕ). Takes (b ∷ bytes) (x.0 ∷ []) x.1 × (x.0 < 256) × (0 < x.0)) p (record { parts = refl; rest_fits = IsBytes-rest b bytes fits }, fits 0, some)

not_zero : (n : ℕ) → 0 < n → (n == 0) ≡ false
not_zero n lt = grind (arith, nat_tests)

pub count_again : (n : ℕ) (rest : List ℕ) → 0 < n → count_at (n ∷ rest) ≡ Ok (n, rest)
count_again n rest lt = ap (λ (b : Bool). cond b (Err BadOpcode) (done (n, rest))) (not_zero n lt)
