-- The instructions of a program that only prints numbers (JVMS SE 8 §6.5), and the stack that they need.
use Rattle.std.specs.Prelude.{ℕ, ◌≤◌, max, List, [], ◌∷◌, ◌++◌, length, Option, None, Some, IsSome, codes}
use Rattle.std.specs.List.{flat_map}
use Rattle.kt_base.specs.declared.stack_code.Plain.{Plain}
use Rattle.kt_base.specs.declared.stack_code.Plain.TheVariants.{Push, Add, Sub, Mul, Print}
use Rattle.kt_base.specs.StackCode.{Stacked, stepped, runs, nothing}
use Rattle.jvm_pool.specs.declared.entries.Entry.{Entry}
use Rattle.jvm_pool.specs.declared.entries.Entry.TheVariants.{Int, Method}
use Rattle.jvm_pieces.specs.Pieces.{Piece, Bytes, Mention}

-- counts a turn of the coroutine
abbrev pub tick : Entry
tick = Method (codes "kt/rt/Turn") (codes "tick") (codes "()V")

-- makes a text of a number
abbrev pub text_of : Entry
text_of = Method (codes "kt/rt/Text") (codes "of") (codes "(I)Ljava/lang/String;")

-- prints a text on a line of its own
abbrev pub println : Entry
println = Method (codes "kt/rt/Out") (codes "println") (codes "(Ljava/lang/String;)V")

-- invokestatic
abbrev pub call : Entry → List Piece
call method = Bytes (0xb8 ∷ []) ∷ Mention method ∷ []

-- ldc_w, iadd, isub, imul, and the two calls of a print
abbrev pub step_pieces : Plain → List Piece
step_pieces (Push n) = Bytes (0x13 ∷ []) ∷ Mention (Int n) ∷ []
step_pieces Add = Bytes (0x60 ∷ []) ∷ []
step_pieces Sub = Bytes (0x64 ∷ []) ∷ []
step_pieces Mul = Bytes (0x68 ∷ []) ∷ []
step_pieces Print = call text_of ++ call println

-- the code of `main`: a turn, the steps, return
abbrev pub instructions : List Plain → List Piece
instructions code = call tick ++ (flat_map step_pieces code ++ Bytes (0xb1 ∷ []) ∷ [])

-- the code runs from an empty stack, and has no more steps than a text of 512 bytes can have
pub record IsPlainCode (code : List Plain) : Type 0 where
  pub steps : length code ≤ 512
  pub runs : IsSome (runs code nothing)

abbrev pub of_state : (Stacked → ℕ) → Option Stacked → ℕ
of_state f None = 0
of_state f (Some state) = f state

-- the greatest height of the stack while the code runs from a state
abbrev pub highest : List Plain → Stacked → ℕ
highest [] state = length state.stack
highest (step ∷ code) state =
    max (length state.stack) (of_state (highest code) (stepped step state.stack state.printed))

-- the stack that the code needs: a print puts a text in the place of its number
abbrev pub max_stack : List Plain → ℕ
max_stack code = highest code nothing
