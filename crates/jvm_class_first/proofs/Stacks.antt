-- Heights are those of the stack while the code runs.
use Rattle.std.proofs.Common.{◌≡◌, ℕ, suc, ℤ, ◌+◌, ◌<◌, ◌≤◌, get_or, drop, max, List, [], ◌∷◌, length, IsSome, is_some, Option, None, Some, refl, sym, ap, ◌∙◌, arith, true, true≢false}
use Rattle.std.proofs.lemmas.Bool.Decides.{nat_tests}
use Rattle.std.proofs.lemmas.List.{at_drop_more}
use Rattle.std.specs.Prelude.{option_map, option_and_then}
use Rattle.kt_base.specs.declared.stack_code.Plain.{Plain}
use Rattle.kt_base.specs.declared.stack_code.Plain.TheVariants.{Push, Add, Sub, Mul, Print}
use Rattle.kt_base.specs.StackCode.{Stacked, stepped, runs, nothing}
use Rattle.jvm_class_first.specs.Instructions.{of_state, highest, max_stack, IsPlainCode}
use Rattle.jvm_class_first.specs.Heights.{one_less, height_after, highest_from}

abbrev height : Stacked → ℕ
height state = length state.stack

two_there : (n : ℕ) → one_less 2 (suc (suc n)) ≡ Some (suc n)
two_there n = grind (arith, nat_tests)

one_there : (n : ℕ) → one_less 1 (suc n) ≡ Some n
one_there n = grind (arith, nat_tests)

after_is : (step : Plain) (state : Stacked) → height_after step (height state) ≡ option_map height (stepped step state.stack state.printed)
after_is step state = by step state.stack
  where
    by : (step : Plain) (stack : List ℤ) → height_after step (length stack) ≡ option_map height (stepped step stack state.printed)
    by (Push n) stack = ap (λ m. Some m) (omega arith)
    by Add [] = refl
    by Add (b ∷ []) = refl
    by Add (b ∷ a ∷ stack) = two_there (length stack)
    by Sub [] = refl
    by Sub (b ∷ []) = refl
    by Sub (b ∷ a ∷ stack) = two_there (length stack)
    by Mul [] = refl
    by Mul (b ∷ []) = refl
    by Mul (b ∷ a ∷ stack) = two_there (length stack)
    by Print [] = refl
    by Print (n ∷ stack) = one_there (length stack)

-- the number, where there is a state
abbrev where_some : Option Stacked → ℕ → Option ℕ
where_some None n = None
where_some (Some state) n = Some n

in_max : (h : ℕ) (o : Option Stacked) (n : ℕ) → option_map (max h) (where_some o n) ≡ where_some o (max h n)
in_max h None n = refl
in_max h (Some state) n = refl

-- the height of a state, and what the code reaches from it, where that is so for the next state
from_next : (code : List Plain) (h : ℕ) (o : Option Stacked)
    → ((next : Stacked) → highest_from code (height next) ≡ where_some (runs code next) (highest code next))
    → option_map (max h) (option_and_then (highest_from code) (option_map height o))
    ≡ where_some (option_and_then (runs code) o) (max h (of_state (highest code) o))
from_next code h None later = refl
from_next code h (Some next) later = ap (option_map (max h)) (later next) ∙ in_max h (runs code next) (highest code next)

pub highest_is : (code : List Plain) (state : Stacked) → highest_from code (height state) ≡ where_some (runs code state) (highest code state)
highest_is [] state = refl
highest_is (step ∷ code) state =
    ap (λ o. option_map (max (height state)) (option_and_then (highest_from code) o)) (after_is step state)
    ∙ from_next code (height state) (stepped step state.stack state.printed) (λ next. highest_is code next)

-- ---- counting from the front

max_again : (h : ℕ) (o : Option ℕ) → option_map (max h) o ≡ option_map (max h) (option_map (max h) o)
max_again h None = refl
max_again h (Some n) = ap (λ m. Some m) (omega arith)

-- what code reaches is no lower than where it begins
at_least : (code : List Plain) (h : ℕ) → highest_from code h ≡ option_map (max h) (highest_from code h)
at_least [] h = ap (λ m. Some m) (omega arith)
at_least (step ∷ code) h = max_again h (option_and_then (highest_from code) (height_after step h))

widened : (so_far h next : ℕ) (o : Option ℕ) → h ≤ so_far → option_map (max so_far) (option_map (max h) (option_map (max next) o)) ≡ option_map (max (max so_far next)) (option_map (max next) o)
widened so_far h next None le = refl
widened so_far h next (Some n) le = ap (λ m. Some m) (omega arith)

-- one step more is counted
pub counted : (step : Plain) (code : List Plain) (so_far h next : ℕ) → h ≤ so_far → height_after step h ≡ Some next
    → option_map (max (max so_far next)) (highest_from code next) ≡ option_map (max so_far) (highest_from (step ∷ code) h)
counted step code so_far h next le is =
    ap (option_map (max (max so_far next))) (at_least code next)
    ∙ sym (widened so_far h next (highest_from code next) le)
    ∙ ap (λ o. option_map (max so_far) (option_map (max h) o)) (sym (at_least code next))
    ∙ ap (λ o. option_map (max so_far) (option_map (max h) (option_and_then (highest_from code) o))) (sym is)

-- the same at a place of code
pub counted_at : (code : List Plain) (i : ℕ) (d : Plain) (so_far h next : ℕ) → i < length code → h ≤ so_far → height_after (get_or code i d) h ≡ Some next
    → option_map (max (max so_far next)) (highest_from (drop (i + 1) code) next) ≡ option_map (max so_far) (highest_from (drop i code) h)
counted_at code i d so_far h next lt le is =
    counted (get_or code i d) (drop (i + 1) code) so_far h next le is
    ∙ ap (option_map (max so_far)) (sym (at_drop_more (λ code. highest_from code h) code i d lt))

some_there : (o : Option Stacked) (n : ℕ) → IsSome o → where_some o n ≡ Some n
some_there None n there = absurd (true≢false (sym there))
some_there (Some state) n there = refl

-- code that runs needs the stack of its definition
pub needed : (code : List Plain) → IsSome (runs code nothing) → highest_from code 0 ≡ Some (max_stack code)
needed code there = highest_is code nothing ∙ some_there (runs code nothing) (max_stack code) there

whether : (o : Option Stacked) (n : ℕ) → is_some (where_some o n) ≡ is_some o
whether None n = refl
whether (Some state) n = refl

-- a height is counted exactly for code that runs
pub whether_runs : (code : List Plain) → is_some (highest_from code 0) ≡ is_some (runs code nothing)
whether_runs code = ap is_some (highest_is code nothing) ∙ whether (runs code nothing) (highest code nothing)

pub plain_code : (code : List Plain) → length code ≤ 512 → is_some (highest_from code 0) ≡ true → IsPlainCode code
plain_code code steps there = record { steps = steps; runs = sym (whether_runs code) ∙ there }

pub plain_height : (code : List Plain) → IsPlainCode code → is_some (highest_from code 0) ≡ true
plain_height code p = whether_runs code ∙ p.runs
