-- Expressions and statements of each number of levels, and those of one more.
use Rattle.std.proofs.Common.{◌≡◌, ℕ, suc, ◌+◌, Err, ap, ◌∙◌}
use Rattle.kt_tree.specs.declared.tokens.Token.{Token}
use Rattle.kt_grammar.specs.declared.context.Context.{Context}
use Rattle.kt_grammar_parsers.specs.Parsers.{Cursor, further}
use Rattle.kt_grammar.specs.ExpressionParser as p
use Rattle.kt_grammar.specs.ExpressionParser.{Parsers}
use Rattle.kt_grammar.specs.StatementParser as s
use Rattle.kt_grammar.specs.StatementParser.{parsers}
use Rattle.kt_parser_blocks.specs.Rules.{expression}
use Rattle.kt_parser_blocks.specs.declared.below.Precedence.{Precedence}
use Rattle.kt_parser_blocks.specs.declared.below.Precedence.TheVariants as precedence
use Rattle.kt_parser_blocks.proofs.Depth.{levels_are, none_left, above}
use Rattle.kt_parser_operators.specs.Rules.{whole_expression}
use Rattle.kt_parser_statements.specs.Rules.{statement}

-- ---- no level is left

module _ (n : ℕ) (at : Context) (c : Cursor Token) (h : n ≡ 0) where
  pub no_expression : (kind : Precedence) → expression kind n at c ≡ Err (further c.rest c.far)
  no_expression precedence.Disjunction = ap (λ (z : Parsers). z.disjunction at c) (none_left n h)
  no_expression precedence.Conjunction = ap (λ (z : Parsers). z.conjunction at c) (none_left n h)
  no_expression precedence.Equality = ap (λ (z : Parsers). z.equality at c) (none_left n h)
  no_expression precedence.Comparison = ap (λ (z : Parsers). z.comparison at c) (none_left n h)
  no_expression precedence.Test = ap (λ (z : Parsers). z.test at c) (none_left n h)
  no_expression precedence.Infix = ap (λ (z : Parsers). z.infixed at c) (none_left n h)
  no_expression precedence.Additive = ap (λ (z : Parsers). z.additive at c) (none_left n h)
  no_expression precedence.Multiplicative = ap (λ (z : Parsers). z.multiplicative at c) (none_left n h)
  no_expression precedence.Cast = ap (λ (z : Parsers). z.cast at c) (none_left n h)
  no_expression precedence.Prefix = ap (λ (z : Parsers). z.prefix at c) (none_left n h)

  pub no_statement : (parsers n).statement at c ≡ Err (further c.rest c.far)
  no_statement = ap (λ (z : Parsers). z.statement at c) (none_left n h)

-- ---- one level above `m`

-- what a parser of one level more reads with what it holds
module _ (n m : ℕ) (h : m + 1 ≡ n) (at : Context) (c : Cursor Token) where
  pub expression_above : (kind : Precedence) → expression kind n at c ≡ whole_expression kind m at c
  expression_above precedence.Disjunction = ap (λ (z : Parsers). z.disjunction at c) (above n m h) ∙ ap (λ (k : ℕ). p.disjunction_parser (suc k) (parsers m) at c) (levels_are m)
  expression_above precedence.Conjunction = ap (λ (z : Parsers). z.conjunction at c) (above n m h) ∙ ap (λ (k : ℕ). p.conjunction_parser (suc k) (parsers m) at c) (levels_are m)
  expression_above precedence.Equality = ap (λ (z : Parsers). z.equality at c) (above n m h) ∙ ap (λ (k : ℕ). p.equality_parser (suc k) (parsers m) at c) (levels_are m)
  expression_above precedence.Comparison = ap (λ (z : Parsers). z.comparison at c) (above n m h) ∙ ap (λ (k : ℕ). p.comparison_parser (suc k) (parsers m) at c) (levels_are m)
  expression_above precedence.Test = ap (λ (z : Parsers). z.test at c) (above n m h) ∙ ap (λ (k : ℕ). p.test_parser (suc k) (parsers m) at c) (levels_are m)
  expression_above precedence.Infix = ap (λ (z : Parsers). z.infixed at c) (above n m h) ∙ ap (λ (k : ℕ). p.infix_parser (suc k) (parsers m) at c) (levels_are m)
  expression_above precedence.Additive = ap (λ (z : Parsers). z.additive at c) (above n m h) ∙ ap (λ (k : ℕ). p.additive_parser (suc k) (parsers m) at c) (levels_are m)
  expression_above precedence.Multiplicative = ap (λ (z : Parsers). z.multiplicative at c) (above n m h) ∙ ap (λ (k : ℕ). p.multiplicative_parser (suc k) (parsers m) at c) (levels_are m)
  expression_above precedence.Cast = ap (λ (z : Parsers). z.cast at c) (above n m h) ∙ ap (λ (k : ℕ). p.cast_parser (suc k) (parsers m) at c) (levels_are m)
  expression_above precedence.Prefix = ap (λ (z : Parsers). z.prefix at c) (above n m h) ∙ ap (λ (k : ℕ). p.prefix_parser (suc k) (parsers m) at c) (levels_are m)

  pub statement_above : (parsers n).statement at c ≡ statement m at c
  statement_above = ap (λ (z : Parsers). z.statement at c) (above n m h) ∙ ap (λ (k : ℕ). s.statement_parser (suc k) (parsers m) at c) (levels_are m)
