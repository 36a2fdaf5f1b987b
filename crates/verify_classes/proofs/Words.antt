-- Words that name files.
use Rattle.std.proofs.Common.{ℕ, ◌≤◌, List, [], ◌∷◌, length, map, arith}
use Rattle.std.specs.Prelude.{String, string_bytes}
use Rattle.std.specs.declared.alloc.Global.{Global}
use Rattle.kt_outside.specs.Held.{Contents}
use Rattle.class_answers.specs.declared.answers.Answer.{Answer}
use Rattle.verify_classes.specs.Verifying.{AnswersWords, IsAnswer}

pub words : (held : Contents) (names : List (String Global)) (before after : List (List ℕ)) (a : Answer) → 1 ≤ length names
    → IsAnswer held (map string_bytes names) before after a → AnswersWords held (map string_bytes names) before after a
words held [] before after a some is = absurd (omega arith)
words held (name ∷ names) before after a some is = is
