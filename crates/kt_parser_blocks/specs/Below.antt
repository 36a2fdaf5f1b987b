-- What the function values read that stand for the levels below.
use Rattle.std.specs.Prelude.{ℕ, ◌+◌, ◌≤◌, ◌<◌, ◌^◌, Result}
use denote.Ref.{MutBor}
use Rattle.std.specs.declared.alloc.Global.{Global}
use Rattle.kt_tree.specs.declared.tokens.Token.{Token}
use Rattle.kt_tree.specs.declared.bodies.Expression.{Expression}
use Rattle.kt_tree.specs.declared.bodies.Statement.{Statement}
use Rattle.kt_tree.specs.Bodies.{expression_tree, statement_tree}
use Rattle.kt_grammar.specs.declared.context.Context.{Context}
use Rattle.kt_parser_steps.specs.declared.error.ParseError.{ParseError}
use Rattle.kt_grammar_parsers.specs.Parsers.{Cursor}
use Rattle.kt_grammar.specs.StatementParser.{parsers}
use Rattle.kt_parser_steps.specs.Steps.{ReadsAs}
use Rattle.kt_parser_blocks.specs.declared.below.Precedence.{Precedence}
use Rattle.kt_parser_blocks.specs.Rules.{expression}

-- function values that read expressions and statements of each number of levels up to so many
pub record AreRead (room : ℕ) (expression_pre : Global → ℕ → Precedence → Context → MutBor (Cursor Token) → Type 0)
    (expression_post : Global → ℕ → Precedence → Context → MutBor (Cursor Token) → Result Expression ParseError
    → MutBor (Cursor Token) → Type 0)
    (statement_pre : Global → ℕ → Context → MutBor (Cursor Token) → Type 0)
    (statement_post : Global → ℕ → Context → MutBor (Cursor Token) → Result Statement ParseError
    → MutBor (Cursor Token) → Type 0) : Type 0 where
  pub small : room + 2 < 2 ^ 32
  pub expression_callable : (alloc : Global) (n : ℕ) (kind : Precedence) (at : Context) (old : MutBor (Cursor Token))
      → n ≤ room → expression_pre alloc n kind at old
  pub expression_reads :
      (alloc : Global) (n : ℕ) (kind : Precedence) (at : Context) (old new : MutBor (Cursor Token))
      (r : Result Expression ParseError) → n ≤ room → expression_post alloc n kind at old r new
      → ReadsAs expression_tree (expression kind n at old.now) r new.now
  pub statement_callable : (alloc : Global) (n : ℕ) (at : Context) (old : MutBor (Cursor Token)) → n ≤ room
      → statement_pre alloc n at old
  pub statement_reads :
      (alloc : Global) (n : ℕ) (at : Context) (old new : MutBor (Cursor Token)) (r : Result Statement ParseError)
      → n ≤ room → statement_post alloc n at old r new
      → ReadsAs statement_tree ((parsers n).statement at old.now) r new.now
