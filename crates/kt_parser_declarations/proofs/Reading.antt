-- Parts that are read one after the other, where the parser behind them has to be named.
use Rattle.std.proofs.Common.{◌≡◌, Bool, Some, None, Result, Ok, Err, refl}
use Rattle.kt_tree.specs.declared.tokens.Token.{Token}
use Rattle.kt_tree.specs.Tokens.{is_new_line}
use Rattle.kt_parser_steps.specs.declared.error.ParseError.{ParseError}
use Rattle.kt_grammar_parsers.specs.Parsers.{Cursor, Parser, Outcome, ◌>>=◌, ◌>>◌, token, skip}
use Rattle.kt_grammar.specs.Readers.{lines}
use Rattle.kt_parser_steps.specs.Cursors.{Turned}
use Rattle.kt_parser_steps.proofs.Turns.{token_taken, token_missed}
use Rattle.kt_parser_steps.specs.Steps.{ReadsAs}
use Rattle.kt_parser_steps.proofs.Ways.{reads_from}

-- what stands behind line ends
pub past_lines : {A B : Type 0} (tree : A → B) (q : Parser Token B) (c c1 : Cursor Token) → skip is_new_line c ≡ Ok (tt, c1)
    → (r : Result A ParseError) (new : Cursor Token) → ReadsAs tree (q c1) r new → ReadsAs tree ((lines >> q) c) r new
past_lines tree q c c1 e r new h = reads_from tree ((lines >> q) c) (q c1) (rw e refl) r new h

-- a token that has to be there
module _ {T B : Type 0} (test : T → Bool) (go : T → Parser T B) (c c1 : Cursor T) where
  pub token_gives : (t : T) (z : Outcome T B) → Turned test c (Some t) c1 → go t c1 ≡ z → (token test >>= go) c ≡ z
  token_gives t z h e = rw (token_taken test c t c1 h) e

  pub token_fails : Turned test c None c1 → (token test >>= go) c ≡ Err c1.far
  token_fails h = rw (token_missed test c c1 h) refl
