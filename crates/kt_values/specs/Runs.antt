-- How code runs: what it is given, and how it ends.
use Rattle.std.specs.Prelude.{ℕ, zero, suc, List, [], ◌∷◌, ◌++◌, Option, Some, None}
use Rattle.kt_base.specs.declared.lumps.Lump.{Lump}
use Rattle.kt_base.specs.declared.events.Event.{Event}
use Rattle.kt_base.specs.declared.events.Answer.{Answer}
use Rattle.kt_values.specs.Values.{Value, Object}

-- what a coroutine has of the world around it: the answers that are left, its events so far, and the turns that are
-- left
pub record World : Type 0 where
  pub answers : List (Answer Lump)
  pub events : List (Event Lump)
  pub turns : ℕ

-- the variables of the body that runs, the objects in the order in which they were made, and the world
pub record Store : Type 0 where
  pub variables : List Value
  pub heap : List Object
  pub world : World

-- why a coroutine goes no further
pub data Stop : Type 0 where
  -- a charge found no turn left
  turns_spent : Stop
  -- a draw or a launch found no number left
  numbers_spent : Stop
  -- the event has no answer
  asks : Event Lump → Stop
  -- an operation met a value that it doesn't take, or an answer of another kind
  unfit : Stop
  -- the bound on calls and on turns of loops was met
  bound_met : Stop

-- how a run ends
pub data Gives (A : Type 0) : Type 0 where
  gave : A → Store → Gives A
  thrown : Value → Store → Gives A
  returned : Value → Store → Gives A
  -- by `break`
  broken : Store → Gives A
  -- by `continue`
  continued : Store → Gives A
  stopped : Stop → World → Gives A

-- what a piece of code does
abbrev pub Run : Type 0 → Type 0
Run A = Store → Gives A

-- goes on from what was given; any other end is that of the whole
abbrev pub then_do : {A B : Type 0} → Gives A → (A → Run B) → Gives B
then_do (gave a s) go = go a s
then_do (thrown v s) go = thrown v s
then_do (returned v s) go = returned v s
then_do (broken s) go = broken s
then_do (continued s) go = continued s
then_do (stopped why w) go = stopped why w

-- one after the other, the second with what the first gave
infixr 10 ◌>>=◌
abbrev pub ◌>>=◌ : {A B : Type 0} → Run A → (A → Run B) → Run B
◌>>=◌ first go = λ s. then_do (first s) go

infixr 10 ◌>>◌
abbrev pub ◌>>◌ : {A B : Type 0} → Run A → Run B → Run B
◌>>◌ first second = λ s. then_do (first s) (λ a. second)

abbrev pub give : {A : Type 0} → A → Run A
give a s = gave a s

abbrev pub throws : {A : Type 0} → Value → Run A
throws v s = thrown v s

abbrev pub returns : {A : Type 0} → Value → Run A
returns v s = returned v s

abbrev pub stop : {A : Type 0} → Stop → Run A
stop why s = stopped why s.world

-- what is there, where it is
abbrev pub or_unfit : {A : Type 0} → Option A → Run A
or_unfit (Some a) s = gave a s
or_unfit None s = stopped unfit s.world

abbrev pub spend : ℕ → Run (Unit {0})
spend zero s = stopped turns_spent s.world
spend (suc left) s = gave tt (record s { world = record s.world { turns = left } })

-- one turn is charged
abbrev pub charge : Run (Unit {0})
charge s = spend s.world.turns s

abbrev pub answer_from : List (Answer Lump) → Event Lump → Run (Answer Lump)
answer_from [] event s = stopped (asks event) s.world
answer_from (answer ∷ left) event s =
    gave answer (record s {
      world = record { answers = left; events = s.world.events ++ event ∷ []; turns = s.world.turns };
    })

-- the event is asked, and takes the next answer
abbrev pub ask : Event Lump → Run (Answer Lump)
ask event s = answer_from s.world.answers event s
