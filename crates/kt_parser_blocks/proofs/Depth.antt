-- The parsers of each number of levels, and those of one more.
use Rattle.std.proofs.Common.{◌≡◌, ℕ, zero, suc, ◌+◌, ◌<◌, nat_lt, Err, refl, ap, sym, ◌∙◌, arith}
use Rattle.std.proofs.lemmas.Bool.Decides.{nat_tests}
use Rattle.kt_tree.specs.declared.tokens.Token.{Token}
use Rattle.kt_grammar.specs.declared.context.Context.{Context}
use Rattle.kt_grammar_parsers.specs.Parsers.{Cursor, further, some_levels}
use Rattle.kt_grammar.specs.ExpressionParser as p
use Rattle.kt_grammar.specs.ExpressionParser.{Parsers}
use Rattle.kt_grammar.specs.StatementParser.{parsers, parsers_over, no_parsers}
use Rattle.kt_parser_blocks.specs.Rules as rules

pub levels_are : (n : ℕ) → (parsers n).levels ≡ n
unfolding parsers
levels_are zero = refl
levels_are (suc n) = ap suc (levels_are n)

pub deep_is : (n : ℕ) → nat_lt 0 n ≡ some_levels (parsers n).levels
deep_is n = go n ∙ ap some_levels (sym (levels_are n))
  where
    go : (n : ℕ) → nat_lt 0 n ≡ some_levels n
    go zero = refl
    go (suc n) = grind (arith, nat_tests)

-- ---- no level is left

pub none_left : (n : ℕ) → n ≡ 0 → parsers n ≡ no_parsers
unfolding parsers
none_left n h = ap parsers h

module _ (n : ℕ) (at : Context) (c : Cursor Token) (h : n ≡ 0) where
  pub no_body : (parsers n).body at c ≡ Err (further c.rest c.far)
  no_body = ap (λ (z : Parsers). z.body at c) (none_left n h)

  pub no_lambda : (parsers n).lambda at c ≡ Err (further c.rest c.far)
  no_lambda = ap (λ (z : Parsers). z.lambda at c) (none_left n h)

pub no_parameter : (n : ℕ) (c : Cursor Token) → n ≡ 0 → (parsers n).parameter c ≡ Err (further c.rest c.far)
no_parameter n c h = ap (λ (z : Parsers). z.parameter c) (none_left n h)

-- ---- one level above `m`

pub above : (n m : ℕ) → m + 1 ≡ n → parsers n ≡ parsers_over (parsers m)
unfolding parsers
above n m h = ap parsers (step n m h)
  where
    step : (n m : ℕ) → m + 1 ≡ n → n ≡ suc m
    step n m h = omega arith

pub lambda_above : (n m : ℕ) (h : m + 1 ≡ n) (at : Context) (c : Cursor Token) → (parsers n).lambda at c ≡ rules.lambda m c
lambda_above n m h at c = ap (λ (z : Parsers). z.lambda at c) (above n m h)

-- ---- a body and a parameter say of their own level what they hold

pub body_is : (n : ℕ) (at : Context) (c : Cursor Token) → 0 < n → (parsers n).body at c ≡ rules.body_over n at c
unfolding parsers
body_is zero at c h = absurd (omega arith)
body_is (suc n) at c h = refl

pub parameter_is : (n : ℕ) (c : Cursor Token) → 0 < n → (parsers n).parameter c ≡ p.parameter_of n c
unfolding parsers
parameter_is zero c h = absurd (omega arith)
parameter_is (suc n) c h = ap (λ (k : ℕ). p.parameter_of (suc k) c) (levels_are n)
