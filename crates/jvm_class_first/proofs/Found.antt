-- What a class file is the class file of is found.
use Rattle.std.proofs.Common.{◌≡◌, ℕ, zero, suc, ℤ, ◌+◌, ◌-◌, ◌^◌, ◌<◌, ◌≤◌, Bool, true, false, cond, List, [], ◌∷◌, ◌++◌, length, drop, Option, Some, None, refl, sym, ap, subst, ◌∙◌, append_assoc, arith}
use Rattle.std.specs.Prelude.{option_map, option_and_then, FitsSigned, ◌==◌}
use Rattle.std.specs.Int.{w16, w32, from_be_bytes, to_be_bytes, cast_signed, cast_unsigned}
use Rattle.std.specs.List.{flat_map}
use Rattle.std.proofs.Math.Seq.{drop-append_seam}
use Rattle.std.proofs.Math.Facts.{Fits-of_z, Fits-lt-pow}
use Rattle.std.proofs.lemmas.Bool.Decides.{nat_tests}
use Rattle.std.proofs.lemmas.Int.{to_z-of_z}
use Rattle.std.proofs.lemmas.List.{length-append}
use Rattle.std.proofs.lemmas.Nat.{from_be_bytes-to_be_bytes_2, from_be_bytes-to_be_bytes_4}
use Rattle.kt_base.specs.declared.stack_code.Plain.{Plain}
use Rattle.kt_base.specs.declared.stack_code.Plain.TheVariants.{Push, Add, Sub, Mul, Print}
use Rattle.jvm_pool.specs.declared.entries.Entry.{Entry}
use Rattle.jvm_pool.specs.declared.entries.Entry.TheVariants.{Utf8, Int, Long, Class, Text, Field, Method, InterfaceMethod, NameAndType}
use Rattle.jvm_pool.specs.Entries.{size, behind, same, units}
use Rattle.jvm_pool.specs.Mentions.{seek, place, count_each, count_mention, count_mentions}
use Rattle.jvm_pool.specs.Modified.{modified}
use Rattle.jvm_pool.proofs.Same.{same_is}
use Rattle.jvm_pieces.specs.Pieces.{Piece, Bytes, found, index, mentions, piece, pieces}
use Rattle.jvm_class_first.specs.Instructions.{step_pieces}
use Rattle.jvm_class_first.specs.ClassFile.{cp_info, IsOfPlain, AreOfPlain, u2, number, class_pieces, IsClassOf}
use Rattle.jvm_class_first.specs.Finding.{behind_bytes, behind_entry, behind_entries, number_front, number_at, step_front, with_next, steps_front, before_steps, counted_pool, code_of}

-- ---- the pool

passed : (n : ℕ) (bytes : List ℕ) → n ≤ length bytes → behind_bytes n bytes ≡ Some (drop n bytes)
passed n bytes le = grind (arith, nat_tests)

passed_front : (front rest : List ℕ) → behind_bytes (length front) (front ++ rest) ≡ Some rest
passed_front front rest =
    passed (length front) (front ++ rest) (omega (arith, length-append front rest)) ∙ ap (λ l. Some l) (drop-append_seam front rest)

one_index : (e : Entry) → IsOfPlain e → size e ≡ 1
one_index (Utf8 text) p = refl
one_index (Int n) p = refl
one_index (Class name) p = refl
one_index (Method class name descriptor) p = refl
one_index (NameAndType name descriptor) p = refl
one_index (Long n) p = absurd p
one_index (Text text) p = absurd p
one_index (Field class name descriptor) p = absurd p
one_index (InterfaceMethod class name descriptor) p = absurd p

entry_passed : (all : List Entry) (e : Entry) (rest : List ℕ) → IsOfPlain e → behind_entry (cp_info all e ++ rest) ≡ Some rest
entry_passed all (Utf8 text) rest p =
    ap (λ n. behind_bytes n (modified text ++ rest)) (from_be_bytes-to_be_bytes_2 (length (modified text)) p) ∙ passed_front (modified text) rest
entry_passed all (Int n) rest p = passed_front (to_be_bytes w32 (cast_unsigned w32 n)) rest
entry_passed all (Class name) rest p = passed_front (u2 (index all (Utf8 name))) rest
entry_passed all (Method class name descriptor) rest p = passed_front (u2 (index all (Class class)) ++ u2 (index all (NameAndType name descriptor))) rest
entry_passed all (NameAndType name descriptor) rest p = passed_front (u2 (index all (Utf8 name)) ++ u2 (index all (Utf8 descriptor))) rest
entry_passed all (Long n) rest p = absurd p
entry_passed all (Text text) rest p = absurd p
entry_passed all (Field class name descriptor) rest p = absurd p
entry_passed all (InterfaceMethod class name descriptor) rest p = absurd p

-- one entry more is passed
one_passed : (all : List Entry) (e : Entry) (es : List Entry) (n : ℕ) (rest : List ℕ) → IsOfPlain e
    → behind_entries (suc n) (flat_map (cp_info all) (e ∷ es) ++ rest) ≡ behind_entries n (flat_map (cp_info all) es ++ rest)
unfolding behind_entries
one_passed all e es n rest p =
    ap (λ l. option_and_then (behind_entries n) (behind_entry l)) (append_assoc (cp_info all e) (flat_map (cp_info all) es) rest)
    ∙ ap (option_and_then (behind_entries n)) (entry_passed all e (flat_map (cp_info all) es ++ rest) p)

all_passed : (all es : List Entry) (rest : List ℕ) → AreOfPlain es → behind_entries (units es) (flat_map (cp_info all) es ++ rest) ≡ Some rest
unfolding behind_entries
all_passed all [] rest p = refl
all_passed all (e ∷ es) rest p =
    let more : size e + units es ≡ suc (units es) = omega (arith, one_index e p.0) in
    ap (λ n. behind_entries n (flat_map (cp_info all) (e ∷ es) ++ rest)) more
    ∙ one_passed all e es (units es) rest p.0
    ∙ all_passed all es rest p.1

number_again : (n : ℤ) → FitsSigned w32 n → cast_signed w32 (from_be_bytes w32 (to_be_bytes w32 (cast_unsigned w32 n))) ≡ n
number_again n fits = ap (cast_signed w32) (from_be_bytes-to_be_bytes_4 (cast_unsigned w32 n) (Fits-lt-pow (Fits-of_z fits))) ∙ to_z-of_z w32 n fits

not_zero : (o : Option ℤ) (i : ℕ) → cond (suc i == 0) None o ≡ o
not_zero o i = grind (arith, nat_tests)

-- an index that isn't zero
at_index : (f : ℕ → Option ℤ) (i : ℕ) → cond (suc i == 0) None (f (suc i - 1)) ≡ f i
at_index f i = let less : suc i - 1 ≡ i = omega arith in not_zero (f (suc i - 1)) i ∙ ap f less

-- a number in a pool is found at its index
pub record IsFoundAt (all es : List Entry) (k i : ℕ) (n : ℤ) (rest : List ℕ) : Type 0 where
  pub before : ℕ
  pub is : i ≡ k + before
  pub below : before < units es
  pub there : option_and_then number_front (behind_entries before (flat_map (cp_info all) es ++ rest)) ≡ Some n

found_here : (all : List Entry) (e : Entry) (es : List Entry) (k i : ℕ) (n : ℤ) (rest : List ℕ) → Int n ≡ e → IsOfPlain e → k ≡ i → IsFoundAt all (e ∷ es) k i n rest
unfolding behind_entries
found_here all e es k i n rest is p at =
    subst (λ e. IsOfPlain e → IsFoundAt all (e ∷ es) k i n rest) is
    (λ fits. record { before = 0; is = omega arith; below = omega arith; there = ap (λ n. Some n) (number_again n fits) }) p

found_later : (all : List Entry) (e : Entry) (es : List Entry) (k i : ℕ) (n : ℤ) (rest : List ℕ) → IsOfPlain e → IsFoundAt all es (k + size e) i n rest → IsFoundAt all (e ∷ es) k i n rest
found_later all e es k i n rest p f = record {
  before = suc f.before;
  is = omega (arith, f.is, one_index e p);
  below = omega (arith, f.below, one_index e p);
  there = ap (option_and_then number_front) (one_passed all e es f.before rest p) ∙ f.there;
}

found_at : (all es : List Entry) (k i : ℕ) (n : ℤ) (rest : List ℕ) → AreOfPlain es → seek k es (Int n) ≡ Some i → IsFoundAt all es k i n rest
unfolding seek
found_at all [] k i n rest p s = absurd (cc s)
found_at all (e ∷ es) k i n rest p s = by (same (Int n) e) refl (λ t. found_at all es (k + size e) i n rest p.1 t)
  where
    by : (b : Bool) → same (Int n) e ≡ b → (seek (k + size e) es (Int n) ≡ Some i → IsFoundAt all es (k + size e) i n rest) → IsFoundAt all (e ∷ es) k i n rest
    by true is later =
        let here : Some k ≡ Some i = sym (ap (λ (b : Bool). cond b (Some k) (seek (k + size e) es (Int n))) is) ∙ s in
        found_here all e es k i n rest (same_is (Int n) e is) p.0 cc
    by false is later = found_later all e es k i n rest p.0 (later (sym (ap (λ (b : Bool). cond b (Some k) (seek (k + size e) es (Int n))) is) ∙ s))

-- ---- mentions

-- the entry has an index
abbrev IsThere : List Entry → Entry → Type 0
IsThere es e = (i : ℕ) × (seek 1 es e ≡ Some i)

abbrev AreThere : List Entry → List Entry → Type 0
AreThere es [] = Unit {0}
AreThere es (m ∷ ms) = IsThere es m × AreThere es ms

placed : (o : Option ℕ) (c : ℕ) (r : Option ℕ) (d : ℕ) → place o c r ≡ Some d → (i : ℕ) × (o ≡ Some i)
placed None c r d e = absurd (cc e)
placed (Some i) c r d e = (i, refl)

all_there : (es ms : List Entry) (c d : ℕ) → count_mentions es ms c ≡ Some d → AreThere es ms
unfolding count_mentions
all_there es [] c d e = tt
all_there es (m ∷ ms) c d e = by (count_mention es m c) refl (λ n f. all_there es ms n d f)
  where
    by : (o : Option ℕ) → count_mention es m c ≡ o → ((n : ℕ) → count_mentions es ms n ≡ Some d → AreThere es ms) → AreThere es (m ∷ ms)
    by None is later = absurd (let f : None ≡ Some d = sym (ap (λ o. Rattle.jvm_pool.specs.Mentions.then_count o (count_mentions es ms)) is) ∙ e in cc)
    by (Some n) is later =
        (placed (seek 1 es m) c (count_each es (behind m) (c + size m)) n is, later n (sym (ap (λ o. Rattle.jvm_pool.specs.Mentions.then_count o (count_mentions es ms)) is) ∙ e))

-- the number of each push has an index
abbrev HasNumbers : List Entry → List Plain → Type 0
HasNumbers es [] = Unit {0}
HasNumbers es (Push n ∷ code) = IsThere es (Int n) × HasNumbers es code
HasNumbers es (Add ∷ code) = HasNumbers es code
HasNumbers es (Sub ∷ code) = HasNumbers es code
HasNumbers es (Mul ∷ code) = HasNumbers es code
HasNumbers es (Print ∷ code) = HasNumbers es code

has_numbers : (es : List Entry) (code : List Plain) (tail : List Piece) → AreThere es (mentions (flat_map step_pieces code ++ tail)) → HasNumbers es code
has_numbers es [] tail there = tt
has_numbers es (Push n ∷ code) tail there = (there.0, has_numbers es code tail there.1)
has_numbers es (Add ∷ code) tail there = has_numbers es code tail there
has_numbers es (Sub ∷ code) tail there = has_numbers es code tail there
has_numbers es (Mul ∷ code) tail there = has_numbers es code tail there
has_numbers es (Print ∷ code) tail there = has_numbers es code tail there.1.1

-- ---- the steps

pieces_both : (es : List Entry) (ps qs : List Piece) → pieces es (ps ++ qs) ≡ pieces es ps ++ pieces es qs
pieces_both es [] qs = refl
pieces_both es (p ∷ ps) qs = ap (λ l. piece es p ++ l) (pieces_both es ps qs) ∙ sym (append_assoc (piece es p) (pieces es ps) (pieces es qs))

module _ (es : List Entry) (kinds : AreOfPlain es) (count : 1 + units es < 2 ^ 16) (rest : List ℕ) where
  abbrev entries : List ℕ
  entries = flat_map (cp_info es) es ++ rest

  number_found : (n : ℤ) → IsThere es (Int n) → (number_at entries (from_be_bytes w16 (u2 (index es (Int n)))) ≡ Some n)
  number_found n there =
      let f = found_at es es 1 there.0 n rest kinds there.1 in
      let here : there.0 ≡ suc f.before = omega (arith, f.is) in
      let i : index es (Int n) ≡ suc f.before = ap found there.1 ∙ here in
      ap (number_at entries) (from_be_bytes-to_be_bytes_2 (index es (Int n)) (omega (arith, i, f.below)) ∙ i)
      ∙ at_index (λ j. option_and_then number_front (behind_entries j entries)) f.before
      ∙ f.there

  step_found : (step : Plain) (code : List Plain) (more : List ℕ) → HasNumbers es (step ∷ code) → step_front entries (pieces es (step_pieces step) ++ more) ≡ Some (step, more)
  step_found (Push n) code more has = ap (option_map (λ n. (Push n, more))) (number_found n has.0)
  step_found Add code more has = refl
  step_found Sub code more has = refl
  step_found Mul code more has = refl
  step_found Print code more has = refl

  numbers_later : (step : Plain) (code : List Plain) → HasNumbers es (step ∷ code) → HasNumbers es code
  numbers_later (Push n) code has = has.1
  numbers_later Add code has = has
  numbers_later Sub code has = has
  numbers_later Mul code has = has
  numbers_later Print code has = has

  steps_found : (n : ℕ) (code : List Plain) (more : List ℕ) → length code ≤ n → HasNumbers es code → steps_front n entries (pieces es (flat_map step_pieces code) ++ 0xb1 ∷ more) ≡ code
  unfolding steps_front
  steps_found zero [] more le has = refl
  steps_found (suc n) [] more le has = refl
  steps_found zero (step ∷ code) more le has = absurd (omega arith)
  steps_found (suc n) (step ∷ code) more le has =
      let later = pieces es (flat_map step_pieces code) ++ 0xb1 ∷ more in
      ap (λ l. with_next (steps_front n entries) (step_front entries (l ++ 0xb1 ∷ more))) (pieces_both es (step_pieces step) (flat_map step_pieces code))
      ∙ ap (λ l. with_next (steps_front n entries) (step_front entries l)) (append_assoc (pieces es (step_pieces step)) (pieces es (flat_map step_pieces code)) (0xb1 ∷ more))
      ∙ ap (with_next (steps_front n entries)) (step_found step code later has)
      ∙ ap (λ l. step ∷ l) (steps_found n code more (omega arith) (numbers_later step code has))

-- ---- the file

-- what stands behind the first step
abbrev ending : List Piece
ending = Bytes (0xb1 ∷ []) ∷ number 0 ∷ number 0 ∷ number 0 ∷ []

steps_and_ending : (code : List Plain) → ((flat_map step_pieces code ++ Bytes (0xb1 ∷ []) ∷ []) ++ number 0 ∷ number 0 ∷ []) ++ number 0 ∷ [] ≡ flat_map step_pieces code ++ ending
steps_and_ending code =
    ap (λ l. l ++ number 0 ∷ []) (append_assoc (flat_map step_pieces code) (Bytes (0xb1 ∷ []) ∷ []) (number 0 ∷ number 0 ∷ []))
    ∙ append_assoc (flat_map step_pieces code) (Bytes (0xb1 ∷ []) ∷ number 0 ∷ number 0 ∷ []) (number 0 ∷ [])

-- what stands behind the pool, from the first step on
from_steps : List Entry → List Plain → List ℕ
from_steps es code = pieces es (((flat_map step_pieces code ++ Bytes (0xb1 ∷ []) ∷ []) ++ number 0 ∷ number 0 ∷ []) ++ number 0 ∷ [])

front_is : (es : List Entry) (code : List Plain) (high low : ℕ) → from_be_bytes w16 (high ∷ low ∷ []) ≡ 1 + units es → AreOfPlain es
    → counted_pool (high ∷ low ∷ (flat_map (cp_info es) es ++ pieces es (class_pieces code))) ≡ Some (flat_map (cp_info es) es ++ pieces es (class_pieces code), from_steps es code)
unfolding from_steps
front_is es code high low count kinds =
    let behind_pool = pieces es (class_pieces code) in
    let all = flat_map (cp_info es) es ++ behind_pool in
    let pair : List ℕ → List ℕ × List ℕ = λ steps. (all, steps) in
    let entries : from_be_bytes w16 (high ∷ low ∷ []) - 1 ≡ units es = omega (arith, count) in
    ap (λ n. option_and_then (λ b. option_map pair (behind_bytes before_steps b)) (behind_entries n all)) entries
    ∙ ap (option_and_then (λ b. option_map pair (behind_bytes before_steps b))) (all_passed es es behind_pool kinds)
    ∙ ap (option_map pair) (passed before_steps behind_pool (omega arith))

pub code_is_found : (bytes : List ℕ) (code : List Plain) → IsClassOf bytes code → code_of bytes ≡ Some code
unfolding from_steps
code_is_found bytes code c =
    let es = c.entries in
    let behind_pool = pieces es (class_pieces code) in
    let all = flat_map (cp_info es) es ++ behind_pool in
    let split : bytes ≡ 0xCA ∷ 0xFE ∷ 0xBA ∷ 0xBE ∷ 0 ∷ 0 ∷ 0 ∷ 52 ∷ (u2 (1 + units es) ++ all) =
    c.bytes_are ∙ ap (λ l. 0xCA ∷ 0xFE ∷ 0xBA ∷ 0xBE ∷ 0 ∷ 0 ∷ 0 ∷ 52 ∷ (u2 (1 + units es) ++ (flat_map (cp_info es) es ++ l))) c.spells.bytes in
    let there = all_there es (mentions (class_pieces code)) 1 (1 + units es) c.spells.order in
    let numbers = has_numbers es code ending (subst (λ ps. AreThere es (mentions ps)) (steps_and_ending code) there.1.1.1.1.1.1) in
    ap code_of split
    ∙ ap (option_map (λ (f : List ℕ × List ℕ). steps_front 512 f.0 f.1)) (front_is es code _ _ (from_be_bytes-to_be_bytes_2 (1 + units es) c.count) c.kinds)
    ∙ ap (λ l. Some (steps_front 512 all l)) (ap (pieces es) (steps_and_ending code) ∙ pieces_both es (flat_map step_pieces code) ending)
    ∙ ap (λ l. Some l) (steps_found es c.kinds c.count behind_pool 512 code _ c.code_is.steps numbers)
