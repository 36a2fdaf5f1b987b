-- A `try` without `finally`, and a `catch` block more.
use Rattle.std.proofs.Common.{◌≡◌, ℕ, List, [], ◌∷◌, ◌++◌, Ok, Err, map, inl, refl, ap, sym}
use Rattle.kt_tree.specs.declared.tokens.Token.{Token}
use Rattle.kt_tree.specs.declared.bodies.CatchBlock.{CatchBlock}
use Rattle.kt_tree.specs.Bodies.{BlockTree, CatchTree, catch_tree}
use Rattle.kt_grammar.specs.declared.context.Context.{Context}
use Rattle.kt_grammar_parsers.specs.Parsers.{Cursor}
use Rattle.kt_grammar.specs.ExpressionParser as p
use Rattle.kt_grammar.specs.StatementParser.{parsers}
use Rattle.kt_grammar.specs.Terminals.{name_of}
use Rattle.kt_parser_steps.proofs.Turning.{pushed}
use Rattle.kt_parser_blocks.specs.Rules as rules

-- the grammar's word for it
pub no_finally_is : (n : ℕ) (at : Context) (t : Token) (b : BlockTree) (cs : List CatchTree) (c : Cursor Token) → p.no_finally n (parsers n) at t.pos b cs c ≡ rules.without_finally t b cs c
no_finally_is n at t b [] c = refl
no_finally_is n at t b (x ∷ cs) c = refl

-- a `catch` block more
module _ (n : ℕ) (at : Context) (cs : List CatchBlock) (x : Token) (name : List ℕ) (is : name ≡ name_of x) (c : Cursor Token) where
  named : (parsers n).catch at (name_of x) c ≡ (parsers n).catch at name c
  named = ap (λ (z : List ℕ). (parsers n).catch at z c) (sym is)

  pub caught : (k : CatchBlock) (c1 : Cursor Token) → (parsers n).catch at name c ≡ Ok (catch_tree k, c1) → (ys : List CatchBlock) → ys ≡ cs ++ k ∷ [] → rules.catch_more n at (map catch_tree cs) x c ≡ Ok (inl (map catch_tree ys), c1)
  caught k c1 h ys more = rw named (rw h (ap (λ (z : List CatchTree). Ok (inl z, c1)) (sym (pushed catch_tree cs k ys more))))

  pub uncaught : (k : List Token) → (parsers n).catch at name c ≡ Err k → rules.catch_more n at (map catch_tree cs) x c ≡ Err k
  uncaught k h = rw named (rw h refl)
