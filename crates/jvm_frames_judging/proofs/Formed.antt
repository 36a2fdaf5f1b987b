-- The form of a frame and its judgement.
use Rattle.std.proofs.Common.{◌≡◌, ℕ, zero, suc, ◌+◌, ◌-◌, ◌^◌, ◌<◌, ◌≤◌, Bool, true, false, ◌&&◌, cond, List, [], ◌∷◌, length, take, Option, None, Some, refl, sym, ap, subst, ◌∙◌, arith}
use Rattle.std.specs.Prelude.{nat_lt, nat_le, ◌==◌, find}
use Rattle.std.proofs.lemmas.Bool.{lt-ltb, le-ltb, le-leb, leb-true, leb-false, eqb-true}
use Rattle.jvm_pool.specs.declared.entries.Entry.{Entry}
use Rattle.jvm_class_types.specs.declared.frames.FrameType.{FrameType}
use Rattle.jvm_class_types.specs.Seen.{Frame}
use Rattle.jvm_maps.specs.Types.{same_type, same_types}
use Rattle.jvm_maps.specs.Frames.{Form, Same, SameOne, SameOneFar, Chop, SameFar, Append, Full, Before, form_of, form_with, appended, chopped, lacks, has_more, one_to_three, step_of, delta_of, is_later}
use Rattle.jvm_maps.proofs.TypeLaws.{same_type_is, same_type_self, same_types_are, same_types_self}
use Rattle.jvm_class_tally.specs.declared.tally.Tally.{Tally}
use Rattle.jvm_class_tally.specs.Tallies.{on, when, took}
use Rattle.jvm_class_judging.specs.Judging.{judge_two, judge_type, judge_form, judge_frame}
use Rattle.jvm_frames_judging.specs.declared.starts.Difference.{Difference}
use Rattle.jvm_frames_judging.specs.declared.starts.Difference.TheVariants.{More, Fewer, Other}
use Rattle.jvm_frames_judging.specs.Starts.{behind_next, lacking_form, walk, Lacks}

-- ---- a delta that doesn't fit two bytes

nothing : (o : Option Tally) (f : Tally → Option Tally) → ((t : Tally) → f t ≡ None) → on o f ≡ None
nothing None f none = refl
nothing (Some t) f none = none t

two_none : (d : ℕ) (t : Tally) → 2 ^ 16 ≤ d → judge_two d t ≡ None
two_none d t le =
    let high : nat_lt d (2 ^ 16) ≡ false = le-ltb d (2 ^ 16) le in rw high refl

on_none : (o : Option Tally) (f : Tally → Option Tally) → o ≡ None → on o f ≡ None
on_none o f is = ap (λ (p : Option Tally). on p f) is

abbrev FarBy : ℕ → Form → Type 0
FarBy d (Same e) = ⊥
FarBy d (SameOne e t) = ⊥
FarBy d (SameOneFar e t) = e ≡ d
FarBy d (Chop k e) = e ≡ d
FarBy d (SameFar e) = e ≡ d
FarBy d (Append k e more) = e ≡ d
FarBy d (Full e locals stack) = e ≡ d

far_none : (es : List Entry) (d : ℕ) (f : Form) (t : Tally) → 2 ^ 16 ≤ d → FarBy d f → judge_form es f t ≡ None
far_none es d (Same e) t le is = absurd is
far_none es d (SameOne e one) t le is = absurd is
far_none es d (SameOneFar e one) t le is =
    nothing (took 1 t) _ (λ u. on_none (judge_two e u) (judge_type es one) (two_none e u (omega (arith, le, is))))
far_none es d (Chop k e) t le is = nothing (took 1 t) _ (λ u. two_none e u (omega (arith, le, is)))
far_none es d (SameFar e) t le is = nothing (took 1 t) _ (λ u. two_none e u (omega (arith, le, is)))
far_none es d (Append k e more) t le is =
    nothing (took 1 t) _ (λ u. on_none (judge_two e u) _ (two_none e u (omega (arith, le, is))))
far_none es d (Full e locals stack) t le is =
    nothing (took 1 t) _ (λ u. on_none (judge_two e u) _ (two_none e u (omega (arith, le, is))))

appended_far : (start : List FrameType) (d : ℕ) (locals : List FrameType) (o : Option ℕ) → FarBy d (appended start d locals o)
appended_far start d locals None = refl
appended_far start d locals (Some k) = refl

chopped_far : (start : List FrameType) (d : ℕ) (locals : List FrameType) (o : Option ℕ) → FarBy d (chopped start d locals o)
chopped_far start d locals None = appended_far start d locals (find (has_more start locals) one_to_three)
chopped_far start d locals (Some k) = refl

with_far : (start : List FrameType) (d : ℕ) (locals stack : List FrameType) → nat_lt d 64 ≡ false
    → FarBy d (form_with start d locals stack)
with_far start d locals [] far = by (same_types locals start) (nat_lt d 64) far
  where
    by : (b c : Bool) → c ≡ false
        → FarBy d (cond b (cond c (Same d) (SameFar d)) (chopped start d locals (find (lacks start locals) one_to_three)))
    by true true is = absurd cc
    by true false is = refl
    by false c is = chopped_far start d locals (find (lacks start locals) one_to_three)
with_far start d locals (t ∷ []) far = by (same_types locals start) (nat_lt d 64) far
  where
    by : (b c : Bool) → c ≡ false → FarBy d (cond b (cond c (SameOne d t) (SameOneFar d t)) (Full d locals (t ∷ [])))
    by true true is = absurd cc
    by true false is = refl
    by false c is = refl
with_far start d locals (t ∷ u ∷ stack) far = refl

-- ---- the judgement of a frame

pub judged_some : (es : List Entry) (b : Before) (f : Frame) (written : Form) (t : Tally) (r : Option Tally)
    → is_later b.offset f.offset ≡ true → f.offset < 2 ^ 32 → written ≡ form_of b.locals (step_of b f)
    → r ≡ judge_form es written t → r ≡ judge_frame es b f t
judged_some es b f written t r later lt is judged =
    let fits = lt-ltb f.offset (2 ^ 32) lt in
    rw (later, fits) (judged ∙ ap (λ (w : Form). judge_form es w t) is)

pub judged_none : (es : List Entry) (b : Before) (f : Frame) (t : Tally)
    → (is_later b.offset f.offset ≡ true → 2 ^ 16 ≤ delta_of b.offset f.offset) → None ≡ judge_frame es b f t
judged_none es b f t far = by (is_later b.offset f.offset) refl (nat_lt f.offset (2 ^ 32))
  where
    by : (l : Bool) → is_later b.offset f.offset ≡ l → (c : Bool)
        → None ≡ when (l && c) (judge_form es (form_of b.locals (step_of b f)) t)
    by false is c = refl
    by true is false = refl
    by true is true =
        let le = far is in
        let high : nat_lt (delta_of b.offset f.offset) 64 ≡ false = le-ltb (delta_of b.offset f.offset) 64 (omega (arith, le)) in
        sym (far_none es (delta_of b.offset f.offset) (form_of b.locals (step_of b f)) t le
        (with_far b.locals (delta_of b.offset f.offset) f.locals f.stack high))

-- ---- a form against types of which the last are lacking

same_false : (ls ts : List FrameType) → (ls ≡ ts → ⊥) → same_types ls ts ≡ false
same_false ls ts apart = by (same_types ls ts) refl
  where
    by : (b : Bool) → same_types ls ts ≡ b → b ≡ false
    by true is = absurd (apart (same_types_are ls ts is))
    by false is = refl

second_false : (a b : Bool) → b ≡ false → (a && b) ≡ false
second_false true b is = is
second_false false b is = refl

first_false : (a b : Bool) → a ≡ false → (a && b) ≡ false
first_false a b is = ap (λ (c : Bool). c && b) is

lacks_false : (ts ls : List FrameType) (k : ℕ) → (k ≤ length ts → ls ≡ take (length ts - k) ts → ⊥) → lacks ts ls k ≡ false
lacks_false ts ls k apart = by (nat_le k (length ts)) refl
  where
    by : (b : Bool) → nat_le k (length ts) ≡ b → (b && same_types ls (take (length ts - k) ts)) ≡ false
    by true is = same_false ls (take (length ts - k) ts) (apart (leb-true k (length ts) is))
    by false is = refl

more_false : (ts ls : List FrameType) (k : ℕ) → (length ls ≡ length ts + k → take (length ts) ls ≡ ts → ⊥)
    → has_more ts ls k ≡ false
more_false ts ls k apart = by (length ls == length ts + k) refl
  where
    by : (b : Bool) → (length ls == length ts + k) ≡ b → (b && same_types (take (length ts) ls) ts) ≡ false
    by true is = same_false (take (length ts) ls) ts (apart (eqb-true (length ls) (length ts + k) is))
    by false is = refl

find_none : (test : ℕ → Bool) → ((k : ℕ) → 0 < k → k ≤ 3 → test k ≡ false) → find test one_to_three ≡ None
find_none test none =
    rw (none 1 (omega arith) (omega arith), none 2 (omega arith) (omega arith), none 3 (omega arith) (omega arith)) refl

-- neither these types without their last, nor with more behind them
record Apart (ts ls : List FrameType) : Type 0 where
  pub same : ls ≡ ts → ⊥
  pub fewer : (k : ℕ) → 0 < k → k ≤ 3 → k ≤ length ts → ls ≡ take (length ts - k) ts → ⊥
  pub more : (k : ℕ) → 0 < k → length ls ≡ length ts + k → take (length ts) ls ≡ ts → ⊥

apart_full : (ts ls : List FrameType) (d : ℕ) (stack : List FrameType) → Apart ts ls → Full d ls stack ≡ form_with ts d ls stack
apart_full ts ls d [] apart =
    rw (
      same_false ls ts apart.same,
      find_none (lacks ts ls) (λ k lt le. lacks_false ts ls k (apart.fewer k lt le)),
      find_none (has_more ts ls) (λ k lt le. more_false ts ls k (apart.more k lt)),
    ) refl
apart_full ts ls d (t ∷ []) apart = rw (same_false ls ts apart.same) refl
apart_full ts ls d (t ∷ u ∷ stack) apart = refl

len_take : {A : Type 0} (n : ℕ) (l : List A) → n ≤ length l → length (take n l) ≡ n
len_take zero l le = refl
len_take (suc n) [] le = absurd (omega (arith, le))
len_take (suc n) (x ∷ l) le = let h = len_take n l (omega (arith, le)) in omega (arith, h)

shorter : (ts ls : List FrameType) → length ls < length ts → ls ≡ ts → ⊥
shorter ts ls lt is = let len : length ls ≡ length ts = ap length is in absurd (omega (arith, lt, len))

-- the form of locals that lack the last
pub lacking_chop : (ts ls : List FrameType) (k d : ℕ) → k ≤ 3 → Lacks ts ls k → Chop k d ≡ form_with ts d ls []
lacking_chop ts ls k d le lack =
    let same : same_types ls ts ≡ false = same_false ls ts (shorter ts ls (omega (arith, lack.0, lack.1))) in
    let left : length ts - k ≡ length ls = omega (arith, lack.1) in
    let front : ls ≡ take (length ts - k) ts = lack.2 ∙ ap (λ (n : ℕ). take n ts) (sym left) in
    let within : nat_le k (length ts) ≡ true = le-leb k (length ts) (omega (arith, lack.1)) in
    let here : lacks ts ls k ≡ true =
    rw within (subst (λ (l : List FrameType). same_types ls l ≡ true) front (same_types_self ls)) in
    let others : (j : ℕ) → (j ≡ k → ⊥) → lacks ts ls j ≡ false =
    λ j apart. lacks_false ts ls j (λ fits is. apart (by_length j fits is)) in
    rw same (ap (chopped ts d ls) (sym (find_this (lacks ts ls) k lack.0 le here others)))
  where
    by_length : (j : ℕ) → j ≤ length ts → ls ≡ take (length ts - j) ts → j ≡ k
    by_length j fits is =
        let len : length ls ≡ length ts - j = ap length is ∙ len_take (length ts - j) ts (omega arith) in
        omega (arith, len, lack.1, fits)

    find_this : (test : ℕ → Bool) (n : ℕ) → 0 < n → n ≤ 3 → test n ≡ true → ((j : ℕ) → (j ≡ n → ⊥) → test j ≡ false)
        → find test one_to_three ≡ Some n
    find_this test zero lt fits is others = absurd (omega arith)
    find_this test (suc zero) lt fits is others = rw is refl
    find_this test (suc (suc zero)) lt fits is others = rw (others 1 (λ e. omega (arith, e)), is) refl
    find_this test (suc (suc (suc zero))) lt fits is others =
        rw (others 1 (λ e. omega (arith, e)), others 2 (λ e. omega (arith, e)), is) refl
    find_this test (suc (suc (suc (suc n)))) lt fits is others = absurd (omega arith)

-- ---- the outcomes of a walk

-- the types and the locals differ at one place
abbrev Differ : List FrameType → List FrameType → Type 0
Differ ts ls = (n : ℕ) × (n ≤ length ts) × (n ≤ length ls) × (take n ls ≡ take n ts → ⊥)

take_take : {A : Type 0} (m n : ℕ) (l : List A) → m ≤ n → take m (take n l) ≡ take m l
take_take zero n l le = refl
take_take (suc m) zero l le = absurd (omega (arith, le))
take_take (suc m) (suc n) [] le = refl
take_take (suc m) (suc n) (x ∷ l) le = ap (λ (r : List _). x ∷ r) (take_take m n l (omega (arith, le)))

differ_apart : (ts ls : List FrameType) → Differ ts ls → Apart ts ls
differ_apart ts ls (n, within, inside, apart) = record {
  same = λ is. apart (ap (take n) is);
  fewer = λ k lt few fits is.
      let len : length ls ≡ length ts - k = ap length is ∙ len_take (length ts - k) ts (omega arith) in
      apart (ap (take n) is ∙ take_take n (length ts - k) ts (omega (arith, inside, len)));
  more = λ k lt len is.
      apart (sym (take_take n (length ts) ls within) ∙ ap (take n) is);
}

abbrev Told : List FrameType → List FrameType → ℕ → Difference → Type 0
Told ts ls n (More m) = (n ≡ 0) × (length ls ≡ length ts + m) × (take (length ts) ls ≡ ts)
Told ts ls n (Fewer k) = (0 < k) × (n + length ts ≡ k + length ls) × (ls ≡ take (length ls) ts)
Told ts ls n Other = Differ ts ls

-- where some are lacking already, no local is left
told : (ts ls : List FrameType) (n : ℕ) → (0 < n → length ls ≡ 0) → Told ts ls n (walk ts ls n)
told [] ls n none = by (n == 0) refl
  where
    by : (b : Bool) → (n == 0) ≡ b → Told [] ls n (cond b (More (length ls)) (Fewer n))
    by true is = (eqb-true n 0 is, omega arith, refl)
    by false is =
        let some : 0 < n = positive n is in
        let empty : length ls ≡ 0 = none some in
        (some, omega (arith, empty), no_locals ls empty)
      where
        positive : (m : ℕ) → (m == 0) ≡ false → 0 < m
        positive zero is = absurd cc
        positive (suc m) is = omega arith

        no_locals : (l : List FrameType) → length l ≡ 0 → l ≡ take (length l) []
        no_locals [] is = refl
        no_locals (x ∷ l) is = absurd (omega (arith, is))
told (t ∷ ts) [] n none = lack (walk ts [] (n + 1)) (told ts [] (n + 1) (λ lt. refl))
  where
    lack : (d : Difference) → Told ts [] (n + 1) d → Told (t ∷ ts) [] n d
    lack (More m) h = absurd (let e : n + 1 ≡ 0 = h.0 in omega (arith, e))
    lack (Fewer k) h = let len = h.1 in (h.0, omega (arith, len), refl)
    lack Other h = absurd (let le : h.0 ≤ 0 = h.2 in let e : h.0 ≡ 0 = omega (arith, le) in h.3 (rw e refl))
told (t ∷ ts) (l ∷ ls) n none =
    by (same_type l t) refl (told ts ls n (λ lt. absurd (let e = none lt in omega (arith, e))))
  where
    by : (b : Bool) → same_type l t ≡ b → Told ts ls n (walk ts ls n)
        → Told (t ∷ ts) (l ∷ ls) n (behind_next (cond b (Some (ls, n)) None) (walk ts))
    by false is rest = (1, omega arith, omega arith, λ e. differs (heads e))
      where
        heads : l ∷ [] ≡ t ∷ [] → l ≡ t
        heads e = cc

        differs : l ≡ t → ⊥
        differs e =
            let same : same_type l t ≡ true = subst (λ (u : FrameType). same_type l u ≡ true) e (same_type_self l) in
            absurd (let clash : true ≡ false = sym same ∙ is in cc)
    by true is rest = more (walk ts ls n) rest
      where
        more : (d : Difference) → Told ts ls n d → Told (t ∷ ts) (l ∷ ls) n d
        more (More m) h =
            let len = h.1 in (
              h.0,
              omega (arith, len),
              ap (λ (u : FrameType). u ∷ take (length ts) ls) (same_type_is l t is)
                  ∙ ap (λ (r : List FrameType). t ∷ r) h.2,
            )
        more (Fewer k) h =
            let len = h.1 in (
              h.0,
              omega (arith, len),
              ap (λ (u : FrameType). u ∷ ls) (same_type_is l t is)
                  ∙ ap (λ (r : List FrameType). t ∷ r) h.2,
            )
        more Other (m, within, inside, apart) =
            (suc m, omega (arith, within), omega (arith, inside), λ e. apart (tails e))
          where
            tails : l ∷ take m ls ≡ t ∷ take m ts → take m ls ≡ take m ts
            tails e = cc

-- ---- what a walk tells of the first form

told_so : (ts ls : List FrameType) (d : Difference) → d ≡ walk ts ls 0 → Told ts ls 0 d
told_so ts ls d is = subst (Told ts ls 0) (sym is) (told ts ls 0 (λ lt. absurd (omega (arith, lt))))

pub more_fits : (ts ls : List FrameType) (m : ℕ) → More m ≡ walk ts ls 0 → m ≤ length ls
more_fits ts ls m is = let h = told_so ts ls (More m) is in let len = h.1 in omega (arith, len)

pub more_front : (ts ls : List FrameType) (m : ℕ) → More m ≡ walk ts ls 0 → take (length ls - m) ls ≡ ts
more_front ts ls m is =
    let h = told_so ts ls (More m) is in
    let len = h.1 in
    let left : length ls - m ≡ length ts = omega (arith, len) in
    ap (λ (n : ℕ). take n ls) left ∙ h.2

pub fewer_lack : (ts ls : List FrameType) (k : ℕ) → Fewer k ≡ walk ts ls 0 → Lacks ts ls k
fewer_lack ts ls k is =
    let h = told_so ts ls (Fewer k) is in
    let len = h.1 in
    (h.0, omega (arith, len), h.2)

pub other_full : (ts ls : List FrameType) (d : ℕ) (stack : List FrameType) → Other ≡ walk ts ls 0
    → Full d ls stack ≡ form_with ts d ls stack
other_full ts ls d stack is = apart_full ts ls d stack (differ_apart ts ls (told_so ts ls Other is))

-- locals that lack more than three, or that have types on the stack
pub lacking_many : (ts ls : List FrameType) (k d : ℕ) → 3 < k → Lacks ts ls k → Full d ls [] ≡ form_with ts d ls []
lacking_many ts ls k d many lack = apart_full ts ls d [] (record {
  same = shorter ts ls (omega (arith, lack.0, lack.1));
  fewer = λ j lt few fits is.
      let len : length ls ≡ length ts - j = ap length is ∙ len_take (length ts - j) ts (omega arith) in
      absurd (omega (arith, len, lack.1, many, few, fits));
  more = λ j lt len is. absurd (omega (arith, len, lack.1, lack.0));
})

pub lacking_stack : (ts ls : List FrameType) (k d : ℕ) (t : FrameType) (stack : List FrameType) → Lacks ts ls k
    → Full d ls (t ∷ stack) ≡ form_with ts d ls (t ∷ stack)
lacking_stack ts ls k d t [] lack = rw (same_false ls ts (shorter ts ls (omega (arith, lack.0, lack.1)))) refl
lacking_stack ts ls k d t (u ∷ stack) lack = refl

pub lacking_is : (ts ls : List FrameType) (k d : ℕ) (stack : List FrameType) → Lacks ts ls k
    → lacking_form k d ls stack ≡ form_with ts d ls stack
lacking_is ts ls k d [] lack = by (nat_le k 3) refl
  where
    by : (b : Bool) → nat_le k 3 ≡ b → cond b (Chop k d) (Full d ls []) ≡ form_with ts d ls []
    by true is = lacking_chop ts ls k d (leb-true k 3 is) lack
    by false is = lacking_many ts ls k d (leb-false k 3 is) lack
lacking_is ts ls k d (t ∷ stack) lack = lacking_stack ts ls k d t stack lack
