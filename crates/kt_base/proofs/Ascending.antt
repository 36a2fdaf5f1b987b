-- Each coroutine that a legal history starts has a greater number than those before it.
use Rattle.std.proofs.Common.{◌≡◌, ℕ, zero, suc, ◌+◌, ◌<◌, Bool, true, false, List, [], ◌∷◌, ◌++◌, Option, Some, sym}
use Rattle.std.proofs.Common.{subst, arith}
use Rattle.std.specs.Prelude.{◌≤◌, ⊤, is_some, option_map, option_to_list, if◌then◌else◌, nat_lt}
use Rattle.std.specs.List.{AllByRecursion, slice_index}
use Rattle.std.specs.List.Sorted.{IsStrictlyIncreasing}
use Rattle.std.proofs.lemmas.List.{append-nil}
use Rattle.kt_base.specs.declared.lumps.Lump.{Lump}
use Rattle.kt_base.specs.declared.events.Event.{Event}
use Rattle.kt_base.specs.declared.events.Event.TheVariants as event
use Rattle.kt_base.specs.declared.events.Answer.{Answer}
use Rattle.kt_base.specs.declared.events.Answer.TheVariants as answer
use Rattle.kt_base.specs.History.{History, reply, number_in, numbers_drawn}
use Rattle.kt_base.specs.World.{IsLegal, CoroutinesAscend, coroutines, launch_in}

-- the numbers rise, by recursion
abbrev Rises : List ℕ → Type 0
Rises [] = ⊤
Rises (x ∷ []) = ⊤
Rises (x ∷ y ∷ xs) = (x < y) × Rises (y ∷ xs)

abbrev AreBelow : ℕ → List ℕ → Type 0
AreBelow n xs = AllByRecursion (λ x. x < n) xs

rise_behind : (xs : List ℕ) (n : ℕ) → Rises xs → AreBelow n xs → Rises (xs ++ n ∷ [])
rise_behind [] n rise below = tt
rise_behind (x ∷ []) n rise below = (below.0, tt)
rise_behind (x ∷ y ∷ xs) n rise below = (rise.0, rise_behind (y ∷ xs) n rise.1 below.1)

below_more : (xs : List ℕ) (m n : ℕ) → m ≤ n → AreBelow m xs → AreBelow n xs
below_more [] m n le below = tt
below_more (x ∷ xs) m n le below = (omega (arith, le, below.0), below_more xs m n le below.1)

below_behind : (xs : List ℕ) (n : ℕ) → AreBelow n xs → AreBelow (1 + n) (xs ++ n ∷ [])
below_behind [] n below = (omega arith, tt)
below_behind (x ∷ xs) n below = (omega (arith, below.0), below_behind xs n below.1)

increasing : (xs : List ℕ) → Rises xs → IsStrictlyIncreasing xs
increasing [] rise k lt = absurd (omega arith)
increasing (x ∷ []) rise k lt = absurd (omega arith)
increasing (x ∷ y ∷ xs) rise zero lt = rise.0
increasing (x ∷ y ∷ xs) rise (suc k) lt =
    let e : suc k + 1 ≡ suc (k + 1) = omega arith in
    subst (λ (n : ℕ). slice_index (x ∷ y ∷ xs) (suc k) < slice_index (x ∷ y ∷ xs) n) (sym e)
    (increasing (y ∷ xs) rise.1 k (omega arith))

-- the answer to a draw, by whether a number is left
abbrev drawn : Bool → ℕ → Option (Answer Lump)
drawn left next = Some (if left then answer.Number next else answer.Full)

drawn_next : (left : Bool) (next n : ℕ) → drawn left next ≡ Some (answer.Number n) → next ≡ n
drawn_next true next n is = cc
drawn_next false next n is = cc

-- the coroutines rise, and are below the next number
abbrev Stand : ℕ → List ℕ → Type 0
Stand next ns = Rises ns × AreBelow next ns

-- a launch that drew the next number stands behind them
launched : (ns : List ℕ) (next n : ℕ) → next ≡ n → Stand next ns → Stand (1 + next) (ns ++ n ∷ [])
launched ns next n is stand =
    subst (λ (m : ℕ). Stand (1 + next) (ns ++ m ∷ [])) is
    (rise_behind ns next stand.0 stand.1, below_behind ns next stand.1)

-- any other step starts none, and may draw a number
others : (ns : List ℕ) (next more : ℕ) → Stand next ns → Stand (more + next) (ns ++ [])
others ns next more stand =
    subst (Stand (more + next)) (sym (append-nil ns)) (stand.0, below_more ns next (more + next) (omega arith) stand.1)

stepped : (numbers : ℕ) (history : History) (asked : Event Lump) (answered : Answer Lump)
    → reply numbers history asked ≡ Some answered
    → Stand (numbers_drawn history) (coroutines history)
    → Stand ((if is_some (number_in answered) then 1 else 0) + numbers_drawn history)
    (coroutines history ++ option_to_list (option_map (λ launch. launch.0) (launch_in asked answered)))
stepped numbers history (event.Launch body) (answer.Number n) is stand =
    launched (coroutines history) (numbers_drawn history) n
    (drawn_next (nat_lt (numbers_drawn history) numbers) (numbers_drawn history) n is) stand
stepped numbers history asked answered is stand = others (coroutines history) (numbers_drawn history) _ stand

stand : (numbers : ℕ) (history : History) → IsLegal numbers history → Stand (numbers_drawn history) (coroutines history)
stand numbers [] legal = (tt, (omega arith, tt))
stand numbers (entry ∷ history) legal =
    stepped numbers history entry.asked entry.answered legal.1 (stand numbers history legal.2)

pub coroutines_ascend : CoroutinesAscend
coroutines_ascend numbers history legal = increasing (coroutines history) (stand numbers history legal).0
