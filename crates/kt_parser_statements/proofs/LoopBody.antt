-- The body of a `for`, read in the context that was made for it.
use Rattle.std.proofs.Common.{◌≡◌, ℕ, List, Ok, Err, refl, ap, sym}
use Rattle.kt_tree.specs.declared.tokens.Token.{Token}
use Rattle.kt_tree.specs.declared.bodies.RangeOperator.{RangeOperator}
use Rattle.kt_tree.specs.Bodies.{ExpressionTree}
use Rattle.kt_tree.specs.Tokens.{is_new_line}
use Rattle.kt_grammar.specs.declared.context.Context.{Context}
use Rattle.kt_grammar_parsers.specs.Parsers.{Cursor, skip}
use Rattle.kt_grammar.specs.StatementParser.{parsers}
use Rattle.kt_grammar.specs.Statements.{in_loop}
use Rattle.kt_parser_statements.specs.Rules as rules

module _ (n : ℕ) (at within : Context) (same : within ≡ in_loop at) (t x : Token) (a : ExpressionTree) (o : RangeOperator) (b : ExpressionTree) (c c1 : Cursor Token) (skipped : skip is_new_line c ≡ Ok (tt, c1)) where
  read_within : (parsers n).body (in_loop at) c1 ≡ (parsers n).body within c1
  read_within = ap (λ (z : Context). (parsers n).body z c1) (sym same)

  pub body_fails : (k : List Token) → (parsers n).body within c1 ≡ Err k → rules.for_body n at t x a o b c ≡ Err k
  body_fails k h = rw skipped (rw read_within (rw h refl))
