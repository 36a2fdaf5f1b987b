-- What functions say that take a part where it is allowed and stands.
use Rattle.std.specs.Prelude.{◌≡◌, Bool, true, false, Option, None}
use denote.Ref.{Bor}
use Rattle.kt_tree.specs.declared.tokens.Token.{Token}
use Rattle.kt_grammar_parsers.specs.Parsers.{Cursor, Parser}
use Rattle.kt_parser_steps.specs.Cursors.{Turned}
use Rattle.kt_parser_steps.specs.Steps.{Finds, Tries}

-- the next token was taken where it is allowed and passes the test
abbrev pub TurnedIf : {T : Type 0} → Bool → (T → Bool) → Cursor T → Option T → Cursor T → Type 0
TurnedIf true test old found new = Turned test old found new
TurnedIf false test old found new = (found ≡ None) × (new ≡ old)

-- a part was taken where it is allowed and is there
abbrev pub FindsIf : {T A B : Type 0} → Bool → (A → B) → Parser T B → Cursor T → Option A → Cursor T → Type 0
FindsIf true view p old found new = Finds view (p old) old found new
FindsIf false view p old found new = (found ≡ None) × (new ≡ old)

-- a look ahead, where it is asked for
abbrev pub TriesIf : {T : Type 0} → Bool → Parser T (Unit {0}) → Cursor T → Bool → Cursor T → Type 0
TriesIf true p old seen new = Tries (p old) old seen new
TriesIf false p old seen new = (seen ≡ false) × (new ≡ old)

-- a token that was found, and what it stands for
abbrev pub found_token : {A : Type 0} → Bor Token × A → Token × A
found_token found = (found.0.now, found.1)
