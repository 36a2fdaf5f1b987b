-- Steps after which the same parser goes on, whatever stood there.
use Rattle.std.proofs.Common.{◌≡◌, Bool, Option, Some, None, Ok, refl}
use Rattle.kt_tree.specs.declared.tokens.Token.{Token}
use Rattle.kt_tree.specs.Tokens.{is_new_line}
use Rattle.kt_grammar_parsers.specs.Parsers.{Cursor, Parser, ◌>>◌, on, skip}
use Rattle.kt_grammar.specs.Readers.{lines}
use Rattle.kt_parser_steps.specs.Cursors.{Turned}
use Rattle.kt_parser_steps.proofs.Turns.{on_taken, on_missed}

pub either_way : {T B : Type 0} (test : T → Bool) (q : Parser T B) (c c1 : Cursor T) (found : Option T) → Turned test c found c1 → on test (λ _. q) q c ≡ q c1
either_way test q c c1 (Some t) h = on_taken test c (λ _. q) q t c1 h
either_way test q c c1 None h = on_missed test c (λ _. q) q c1 h

pub past_lines : {B : Type 0} (q : Parser Token B) (c c1 : Cursor Token) → skip is_new_line c ≡ Ok (tt, c1) → (lines >> q) c ≡ q c1
past_lines q c c1 e = rw e refl
