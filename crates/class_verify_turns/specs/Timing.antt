-- The turn rule, as it is decided.
use Rattle.std.specs.Prelude.{◌≡◌, ◌≢◌, ◌⊎◌, ℕ, suc, ◌<◌, Bool, true, false, List, Option, Some, None, slice_get}
use Rattle.jvm_code_instructions.specs.declared.instr.Instr.{Instr}
use Rattle.class_linked.specs.declared.methods.Role.TheVariants as role
use Rattle.class_linked.specs.declared.code.LinkedHandler.{LinkedHandler}
use Rattle.class_supers.specs.Graph.{Ascends}
use Rattle.class_verify_rules.specs.Acts.{act}
use Rattle.class_verify_rules.specs.Bodies.{Body, instruction}
use Rattle.class_verify_rules.specs.Frames.{goes_on}
use Rattle.class_verify_rules.specs.Typing.{Covers}
use Rattle.class_verify_rules.specs.Turns.{Early, Edge, IsFirst, IsFixed, IsTimed, is_late, is_tick_at}

-- a number stands in a list
abbrev pub Stands : List ℕ → ℕ → Type 0
Stands xs x = (n : ℕ) × (slice_get xs n ≡ Some x)

-- a list has some numbers more
pub record Adds (P : ℕ → Type 0) (old new : List ℕ) : Type 0 where
  pub kept : (j : ℕ) → Stands old j → Stands new j
  pub added : (j : ℕ) → P j → Stands new j
  pub only : (j : ℕ) → Stands new j → Stands old j ⊎ P j

-- the instruction of a place
abbrev pub IsAt : Body → ℕ → ℕ × Instr → Type 0
IsAt b place i = instruction b place ≡ Some i

-- the instruction of a place starts at an offset
abbrev pub IsPlace : Body → ℕ → ℕ → Type 0
IsPlace b o j = (t : ℕ × Instr) × (instruction b j ≡ Some t) × (t.0 ≡ o)

-- it starts at one of the first so many offsets
abbrev pub IsTarget : Body → List ℕ → ℕ → ℕ → Type 0
IsTarget b targets count j = (n : ℕ) × (o : ℕ) × (n < count) × (slice_get targets n ≡ Some o) × IsPlace b o j

-- one of the first so many entries covers an offset, and leads there
abbrev pub IsHandler : Body → List LinkedHandler → ℕ → ℕ → ℕ → Type 0
IsHandler b handlers at count j =
    (n : ℕ) × (h : LinkedHandler) × (n < count) × (slice_get handlers n ≡ Some h) × Covers h at × IsPlace b h.handler j

abbrev pub IsOn : Instr → ℕ → ℕ → Type 0
IsOn i place j = (goes_on (act i) ≡ true) × (j ≡ suc place)

-- a path leads from one place to another, and the first isn't a tick
pub record Follows (b : Body) (k j : ℕ) : Type 0 where
  pub plain : is_tick_at b (instruction b k) ≡ false
  pub edge : Edge b k j

-- the places to which an instruction leads without a tick
pub record AreNext (b : Body) (k : ℕ) (row : List ℕ) : Type 0 where
  pub each : (j : ℕ) → Stands row j → Follows b k j
  pub all : (j : ℕ) → Follows b k j → Stands row j

-- the places that some path reaches without a tick
pub record AreEarly (b : Body) (row : List ℕ) : Type 0 where
  pub ascending : Ascends 0 row
  pub each : (k : ℕ) → Stands row k → Early b k
  pub all : (k : ℕ) (i : ℕ × Instr) → instruction b k ≡ Some i → Early b k → Stands row k

-- a call or a return comes behind a tick
abbrev pub LateHolds : Body → ℕ → Instr → Type 0
LateHolds b place i =
    is_late b i ≡ true → (IsFixed b → ⊥) → b.method.role ≢ role.Resumption → Early b place → ⊥

-- it is the first of its kind, where it is of that kind
abbrev pub OnceHolds : Body → (ℕ × Instr → Bool) → ℕ → ℕ × Instr → Type 0
OnceHolds b test place i = test i ≡ true → IsFirst b test place × (b.method.role ≢ role.Resumption)

-- whether one of a kind stands before a place
pub record IsSeen (b : Body) (test : ℕ × Instr → Bool) (place : ℕ) (seen : Bool) : Type 0 where
  pub none : seen ≡ false → IsFirst b test place
  pub some : seen ≡ true → IsFirst b test place → ⊥

-- the instruction of a place keeps the rule
abbrev pub TimedAt : Body → ℕ → Type 0
TimedAt b place = (i : ℕ × Instr) → instruction b place ≡ Some i → IsTimed b place i.0 i.1

-- the instruction of a place is the first that doesn't
abbrev pub UntimedFirst : Body → ℕ → Type 0
UntimedFirst b place = (TimedAt b place → ⊥) × ((k : ℕ) → k < place → TimedAt b k)
