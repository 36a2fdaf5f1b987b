-- What choices play after a legal history is legal.
use Rattle.std.proofs.Common.{◌≡◌, ℕ, List, [], ◌∷◌, Option, Some, None, refl, sym, subst}
use Rattle.std.specs.Prelude.{option_and_then, option_map, IsSome}
use Rattle.kt_base.specs.History.{History, Entry, reply}
use Rattle.kt_base.specs.Meaning.{Program, next_event}
use Rattle.kt_base.specs.World.{IsLegal, PlaysLegally, played, step, start_of, answers_of}

went_on : {A B : Type 0} (f : A → Option B) (o : Option A) (b : B) → option_and_then f o ≡ Some b
    → (a : A) × ((o ≡ Some a) × (f a ≡ Some b))
went_on f None b h = cc
went_on f (Some a) b h = (a, (refl, h))

mapped : {A B : Type 0} (f : A → B) (o : Option A) (b : B) → option_map f o ≡ Some b
    → (a : A) × ((o ≡ Some a) × (f a ≡ b))
mapped f None b h = cc
mapped f (Some a) b h = (a, (refl, cc))

there : {A : Type 0} (o : Option A) (a : A) → o ≡ Some a → IsSome o
there o a h = subst IsSome (sym h) refl

-- an entry that fits a history: its coroutine had begun, and its answer is the reply
abbrev Fits : ℕ → History → Entry → Type 0
Fits numbers history entry =
    IsSome (start_of history entry.coroutine) × (reply numbers history entry.asked ≡ Some entry.answered)

step_fits : (program : Program) (numbers : ℕ) (history : History) (n : ℕ) (entry : Entry)
    → step program numbers history n ≡ Some entry → Fits numbers history entry
step_fits program numbers history n entry is =
    let begun = went_on _ (start_of history n) entry is in
    let asked = went_on _ (next_event program begun.0 (answers_of n history)) entry begun.1.1 in
    let answered = mapped _ (reply numbers history asked.0) entry asked.1.1 in
    subst (Fits numbers history) answered.1.1 (there (start_of history n) begun.0 begun.1.0, answered.1.0)

played_legally : (program : Program) (numbers : ℕ) (choices : List ℕ) (before after : History)
    → IsLegal numbers before → played program numbers before choices ≡ Some after → IsLegal numbers after
played_legally program numbers [] before after legal is =
    let same : before ≡ after = cc in subst (IsLegal numbers) same legal
played_legally program numbers (n ∷ choices) before after legal is =
    let next = went_on _ (step program numbers before n) after is in
    let fits = step_fits program numbers before n next.0 next.1.0 in
    played_legally program numbers choices (next.0 ∷ before) after (fits.0, fits.1, legal) next.1.1

pub plays_legally : PlaysLegally
plays_legally program numbers choices history is = played_legally program numbers choices [] history tt is
