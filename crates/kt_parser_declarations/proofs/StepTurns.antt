-- The exit of a `?` behind a step that takes no memory, in a function that takes none.
use Rattle.std.proofs.Common.{◌≡◌, Result, IsErr, Ok, Err}
use Rattle.kt_grammar_parsers.specs.Parsers.{Cursor, Outcome}
use Rattle.kt_parser_steps.specs.Steps.{Expects}
use Rattle.kt_parser_steps.specs.declared.refused.Refused.{Refused}

pub step_stopped : {T A B : Type 0} (tree : A → B) (outcome : Outcome T B) (new : Cursor T) → outcome ≡ Err new.far → (r : Result A Refused) → IsErr r → Expects tree outcome r new
step_stopped tree outcome new h (Ok a) i = absurd (cc)
step_stopped tree outcome new h (Err e) i = h
