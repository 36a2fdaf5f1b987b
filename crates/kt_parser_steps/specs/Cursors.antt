-- What the calls of the cursor do.
use Rattle.std.specs.Prelude.{◌≡◌, Bool, true, false, ◌∷◌, Option, None, Some}
use Rattle.kt_grammar_parsers.specs.Parsers.{Cursor, cursor, further, first}

-- the next token was taken where it passes the test, else examined in vain
abbrev pub Turned : {T : Type 0} → (T → Bool) → Cursor T → Option T → Cursor T → Type 0
Turned test old None new = (first test old.rest ≡ false) × (new ≡ cursor old.rest (further old.rest old.far))
Turned test old (Some t) new = (old.rest ≡ t ∷ new.rest) × (test t ≡ true) × (new.far ≡ old.far)
