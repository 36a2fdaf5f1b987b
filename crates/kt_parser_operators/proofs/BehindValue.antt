-- What is read behind a value that was held beside it.
use Rattle.std.proofs.Common.{◌≡◌, Bool, Option, Result, Ok, IfOk, subst}
use Rattle.std.proofs.lemmas.Result.{IfOk-at_ok}
use Rattle.kt_base.specs.declared.errors.NoMemory.{NoMemory}
use Rattle.kt_tree.specs.declared.tokens.Token.{Token}
use Rattle.kt_tree.specs.declared.bodies.Expression.{Expression}
use Rattle.kt_tree.specs.Bodies.{ExpressionTree, expression_tree}
use Rattle.kt_parser_steps.specs.declared.error.ParseError.{ParseError}
use Rattle.kt_grammar_parsers.specs.Parsers.{Cursor, Parser}
use Rattle.kt_parser_steps.specs.Steps.{ReadsAs}
use Rattle.kt_parser_steps.specs.Chosen.{FindsIf}

-- a part that was tried beside the value
pub tried_is : {T X Y : Type 0} (there : Bool) (view : X → Y) (p : Parser T Y) (c c1 : Cursor T) (r : Result (Option X) NoMemory) → IfOk r (λ found. FindsIf there view p c found c1) → (found : Option X) → r ≡ Ok found → FindsIf there view p c found c1
tried_is there view p c c1 r h found is = IfOk-at_ok (λ (z : Option _). FindsIf there view p c z c1) is h

-- the value is the same
pub behind_same : {A B : Type 0} (tree : A → B) (go : ExpressionTree → Parser Token B) (a b : Expression) → a ≡ b → (c : Cursor Token) (r : Result A ParseError) (new : Cursor Token) → ReadsAs tree (go (expression_tree a) c) r new → ReadsAs tree (go (expression_tree b) c) r new
behind_same tree go a b is c r new h = subst (λ (z : Expression). ReadsAs tree (go (expression_tree z) c) r new) is h
