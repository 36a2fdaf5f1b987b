-- What is known of the phrases that have one level less, and of their parsers.
use Rattle.std.proofs.Common.{◌≡◌, ℕ, zero, suc, Bool, true, false, not, List, Err}
use Rattle.kt_tree.specs.declared.tokens.Token.{Token}
use Rattle.kt_tree.specs.declared.tokens.TokenKind.{TokenKind}
use Rattle.kt_tree.specs.declared.tokens.Sign.TheVariants as sign
use Rattle.kt_tree.specs.Tokens.{kind_is_sign, kind_is_identifier, is_sign}
use Rattle.kt_grammar_parsers.specs.Parsers.{Cursor, Parser, further, first, some_levels}
use Rattle.kt_grammar.specs.Terminals.{either}
use Rattle.kt_grammar.specs.Levels.{Phrases}
use Rattle.kt_grammar.specs.declared.context.Context.{Context}
use Rattle.kt_grammar.specs.ExpressionParser.{Parsers}
use Rattle.kt_grammar_parsers.proofs.Correct.{Correct}
use Rattle.kt_grammar_parsers.proofs.Steps.{Any}
use Rattle.kt_grammar_parsers.proofs.On.{Phrase}
use Rattle.kt_grammar.proofs.tokens.Closing.{is_closing}
use Rattle.kt_grammar.proofs.parts.Sequences.{Part, Anything, Closes}
use Rattle.kt_grammar.proofs.tokens.Begins.{
  kind_begins_expression,
  kind_begins_statement,
  kind_begins_condition,
  kind_begins_entry,
  kind_begins_part,
  Begins,
}

-- What stands where `left` says that levels are left for it: then the parser reads exactly the language, and else there is no
-- phrase and the parser refuses the next token. Stop is what may follow a phrase that was completed, and Halt what may follow
-- one certain phrase.
pub record IsRead {A : Type 0} (left : Bool) (p : Parser Token A) (L : A → List Token → List Token → Type 0) (Stop Halt : List Token → Type 0) (test : TokenKind → Bool) : Type 0 where
  pub correct : left ≡ true → Correct p L Any (λ _. Stop)
  pub phrase : left ≡ true → Phrase L (λ _. Halt)
  pub begins : Begins test L
  pub refuses : left ≡ false → (c : Cursor Token) → p c ≡ Err (further c.rest c.far)
  pub none : left ≡ false → (a : A) (u rest : List Token) → L a u rest → ⊥

-- a token that goes on with a name: `->` doesn't
abbrev pub goes_past : Token → Bool
goes_past t = not (either is_closing (is_sign sign.Arrow) t)

-- what may follow a name alone
abbrev pub Halts : List Token → Type 0
Halts tail = first goes_past tail ≡ false

abbrev pub IsExpressionRead : {A : Type 0} → Bool → Parser Token A → (A → List Token → List Token → Type 0) → (TokenKind → Bool) → Type 0
IsExpressionRead left p L = IsRead left p L Closes Halts

-- two levels are left
abbrev pub two_levels : ℕ → Bool
two_levels zero = false
two_levels (suc n) = some_levels n

-- of a `when` with a subject a condition may be a type; else it is an expression, one level below it
abbrev pub condition_levels : Bool → ℕ → Bool
condition_levels true n = some_levels n
condition_levels false n = two_levels n

-- An entry of a `when` holds a body, one level below it.
pub record ReadsBelow (parsers : Parsers) (phrases : Phrases) : Type 0 where
  pub same : parsers.levels ≡ phrases.levels
  pub disjunction : (at : Context) → IsExpressionRead (some_levels parsers.levels) (parsers.disjunction at) (phrases.disjunction at) kind_begins_expression
  pub conjunction : (at : Context) → IsExpressionRead (some_levels parsers.levels) (parsers.conjunction at) (phrases.conjunction at) kind_begins_expression
  pub equality : (at : Context) → IsExpressionRead (some_levels parsers.levels) (parsers.equality at) (phrases.equality at) kind_begins_expression
  pub comparison : (at : Context) → IsExpressionRead (some_levels parsers.levels) (parsers.comparison at) (phrases.comparison at) kind_begins_expression
  pub test : (at : Context) → IsExpressionRead (some_levels parsers.levels) (parsers.test at) (phrases.test at) kind_begins_expression
  pub infixed : (at : Context) → IsExpressionRead (some_levels parsers.levels) (parsers.infixed at) (phrases.infixed at) kind_begins_expression
  pub additive : (at : Context) → IsExpressionRead (some_levels parsers.levels) (parsers.additive at) (phrases.additive at) kind_begins_expression
  pub multiplicative : (at : Context) → IsExpressionRead (some_levels parsers.levels) (parsers.multiplicative at) (phrases.multiplicative at) kind_begins_expression
  pub cast : (at : Context) → IsExpressionRead (some_levels parsers.levels) (parsers.cast at) (phrases.cast at) kind_begins_expression
  pub prefix : (at : Context) → IsExpressionRead (some_levels parsers.levels) (parsers.prefix at) (phrases.prefix at) kind_begins_expression
  pub lambda : (at : Context) → IsRead (some_levels parsers.levels) (parsers.lambda at) (phrases.lambda at) Anything Anything (kind_is_sign sign.OpenBrace)
  pub statement : (at : Context) → IsExpressionRead (some_levels parsers.levels) (parsers.statement at) (phrases.statement at) kind_begins_statement
  pub body : (at : Context) → IsExpressionRead (some_levels parsers.levels) (parsers.body at) (phrases.body at) kind_begins_statement
  pub string_part : (at : Context) → IsRead (some_levels parsers.levels) (parsers.part at) (phrases.part at) Anything Anything kind_begins_part
  pub parameter : IsExpressionRead (some_levels parsers.levels) parsers.parameter phrases.parameter kind_is_identifier
  pub entry : (at : Context) (subject : Bool) → IsExpressionRead (two_levels parsers.levels) (parsers.entry at subject) (phrases.entry at subject) kind_begins_entry
  pub condition : (at : Context) (subject : Bool) → IsExpressionRead (condition_levels subject parsers.levels) (parsers.condition at subject) (phrases.condition at subject) kind_begins_condition
  pub catch : (at : Context) (name : List ℕ) → (some_levels parsers.levels ≡ true) → Part (parsers.catch at name) (phrases.catch at name) Anything (λ _. Anything)
