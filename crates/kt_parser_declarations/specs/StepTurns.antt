-- Turns of a loop that take no memory.
use Rattle.std.specs.Prelude.{Result, ◌⊎◌}
use denote.Ref.{MutBor}
use Rattle.kt_grammar_parsers.specs.Parsers.{Cursor, Parser}
use Rattle.kt_parser_steps.specs.Steps.{Expects, turn_tree}
use Rattle.kt_parser_steps.specs.declared.loops.Turn.{Turn}
use Rattle.kt_parser_steps.specs.declared.refused.Refused.{Refused}

-- each call of a function value is a turn of the parser's loop
abbrev pub EachStepTurns : {T S B X Y : Type 0} → (S → X) → (B → Y) → (X → Parser T (X ⊎ Y))
    → (S → MutBor (Cursor T) → Result (Turn S B) Refused → MutBor (Cursor T) → Type 0) → Type 0
EachStepTurns {T} {S} {B} state outcome t post = (s : S) (old new : MutBor (Cursor T)) (r : Result (Turn S B) Refused)
    → post s old r new → Expects (turn_tree state outcome) (t (state s) old.now) r new.now
