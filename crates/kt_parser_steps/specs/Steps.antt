-- What functions say that read a production and give a node of the tree.
use Rattle.std.specs.Prelude.{◌≡◌, ◌≢◌, Bool, true, false, Option, Some, None, Result, Ok, Err, ◌⊎◌}
use Rattle.std.proofs.Common.{inl, inr}
use denote.Ref.{MutBor, Bor}
use Rattle.kt_tree.specs.declared.tokens.Token.{Token}
use Rattle.kt_tree.specs.Tokens.{is_new_line, is_sign}
use Rattle.kt_base.specs.declared.refusals.Pos.{Pos}
use Rattle.kt_tree.specs.declared.tokens.Sign.TheVariants as sign
use Rattle.kt_parser_steps.specs.declared.error.ParseError.{ParseError}
use Rattle.kt_parser_steps.specs.declared.error.ParseError.TheVariants as parse_error
use Rattle.kt_grammar_parsers.specs.Parsers.{Cursor, Outcome, Parser, ◌>>=◌, ◌>>◌, pure, token, skip}
use Rattle.kt_tree.specs.declared.bodies.BinaryOperator.{BinaryOperator}
use Rattle.kt_grammar.specs.Terminals.{Meaning, disjunction_of, conjunction_of, equality_of, comparison_of, elvis_of, infix_of, additive_of, multiplicative_of}
use Rattle.kt_parser_steps.specs.declared.refused.Refused.{Refused}
use Rattle.kt_parser_steps.specs.declared.loops.Turn.{Turn}
use Rattle.kt_parser_steps.specs.declared.loops.Turn.TheVariants as turn
use Rattle.kt_parser_steps.specs.declared.lists.Lead.{Lead}
use Rattle.kt_parser_steps.specs.declared.lists.Lead.TheVariants as lead
use Rattle.kt_parser_steps.specs.declared.meanings.BinaryLevel.{BinaryLevel}
use Rattle.kt_parser_steps.specs.declared.meanings.BinaryLevel.TheVariants as level

-- A function that reads a production gives what the parser gives, seen as its tree, unless memory fails. Where it is
-- refused, the cursor keeps the place.
abbrev pub ReadsAs : {T A B : Type 0} → (A → B) → Outcome T B → Result A ParseError → Cursor T → Type 0
ReadsAs tree outcome (Ok a) new = outcome ≡ Ok (tree a, new)
ReadsAs tree outcome (Err e) new = e ≢ parse_error.NoMemory → outcome ≡ Err new.far

-- A step that takes no memory gives what the parser gives, and fails just where the parser does.
abbrev pub Expects : {T A B : Type 0} → (A → B) → Outcome T B → Result A Refused → Cursor T → Type 0
Expects view outcome (Ok a) new = outcome ≡ Ok (view a, new)
Expects view outcome (Err e) new = outcome ≡ Err new.far

-- A look ahead succeeds where the parser does, else the cursor goes back and keeps the place.
abbrev pub Tries : {T : Type 0} → Outcome T (Unit {0}) → Cursor T → Bool → Cursor T → Type 0
Tries outcome old true new = outcome ≡ Ok (tt, new)
Tries outcome old false new = (outcome ≡ Err new.far) × (new.rest ≡ old.rest)

-- A look for a value, as well.
abbrev pub Finds : {T A B : Type 0} → (A → B) → Outcome T B → Cursor T → Option A → Cursor T → Type 0
Finds view outcome old (Some a) new = outcome ≡ Ok (view a, new)
Finds view outcome old None new = (outcome ≡ Err new.far) × (new.rest ≡ old.rest)

-- each call of a function value reads what the parser reads
abbrev pub EachReads : {T A B : Type 0} → (A → B) → Parser T B
    → (MutBor (Cursor T) → Result A ParseError → MutBor (Cursor T) → Type 0) → Type 0
EachReads {T} {A} tree p post = (old new : MutBor (Cursor T)) (r : Result A ParseError) → post old r new
    → ReadsAs tree (p old.now) r new.now

-- each call of a function value takes what the parser takes, without memory
abbrev pub EachExpects : {T A B : Type 0} → (A → B) → Parser T B
    → (MutBor (Cursor T) → Result A Refused → MutBor (Cursor T) → Type 0) → Type 0
EachExpects {T} {A} view p post = (old new : MutBor (Cursor T)) (r : Result A Refused) → post old r new
    → Expects view (p old.now) r new.now

-- each call of a function value tells what a token stands for
abbrev pub EachMeans : {A : Type 0} → Meaning A → (Bor Token → Option A → Type 0) → Type 0
EachMeans {A} of post = (token : Bor Token) (r : Option A) → post token r → r ≡ of token.now

-- what a turn of a loop gives, seen as trees
abbrev pub turn_tree : {S B X Y : Type 0} → (S → X) → (B → Y) → Turn S B → X ⊎ Y
turn_tree state outcome (turn.More s) = inl (state s)
turn_tree state outcome (turn.Done b) = inr (outcome b)

-- each call of a function value is a turn of the parser's loop
abbrev pub EachTurns : {T S B X Y : Type 0} → (S → X) → (B → Y) → (X → Parser T (X ⊎ Y))
    → (S → MutBor (Cursor T) → Result (Turn S B) ParseError → MutBor (Cursor T) → Type 0) → Type 0
EachTurns {T} {S} {B} state outcome t post = (s : S) (old new : MutBor (Cursor T)) (r : Result (Turn S B) ParseError)
    → post s old r new → ReadsAs (turn_tree state outcome) (t (state s) old.now) r new.now

-- what a parser gives, seen as something else
abbrev pub given : {T A B : Type 0} → (A → B) → Parser T A → Parser T B
given f p = p >>= (λ a. pure (f a))

-- what ends a loop, seen as something else
abbrev pub ended : {S B C : Type 0} → (B → C) → S ⊎ B → S ⊎ C
ended f (inl s) = inl s
ended f (inr b) = inr (f b)

-- the place of the token that ends a list, beside the list
abbrev pub place_of : {A : Type 0} → A × Token → A × Pos
place_of x = (x.0, x.1.pos)

-- what may stand before a comma
abbrev pub lead_of : Lead → Parser Token (Unit {0})
lead_of lead.Nothing = pure tt
lead_of lead.Lines = skip is_new_line

abbrev pub led_comma : Lead → Parser Token Token
led_comma l = lead_of l >> token (is_sign sign.Comma)

-- ---- operators

-- the operators of a level
abbrev pub binary_of : BinaryLevel → Meaning BinaryOperator
binary_of level.Disjunction = disjunction_of
binary_of level.Conjunction = conjunction_of
binary_of level.Equality = equality_of
binary_of level.Comparison = comparison_of
binary_of level.Elvis = elvis_of
binary_of level.Infix = infix_of
binary_of level.Additive = additive_of
binary_of level.Multiplicative = multiplicative_of
