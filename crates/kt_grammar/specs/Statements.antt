-- The grammar of statements, and of what `when` and `try` hold; and phrases of each number of levels.
use Rattle.std.specs.Prelude.{◌≡◌, ℕ, zero, suc, Bool, true, false, ◌&&◌, List, [], ◌++◌, Option, None, Some}
use Rattle.kt_tree.specs.declared.tokens.Token.{Token}
use Rattle.kt_tree.specs.declared.tokens.Sign.TheVariants as sign
use Rattle.kt_tree.specs.declared.tokens.Keyword.TheVariants as word
use Rattle.kt_tree.specs.Tokens.{is_sign}
use Rattle.kt_tree.specs.Bodies as e
use Rattle.kt_tree.specs.Bodies.{
  ExpressionTree,
  StatementTree,
  BodyTree,
  EntryTree,
  ConditionTree,
  CatchTree,
  conditions_of,
  maybe_expression,
}
use Rattle.kt_grammar_parsers.specs.Parsers.{some_levels, first}
use Rattle.kt_grammar_parsers.specs.Phrases.{Seq, Either, If, WhereRoom}
use Rattle.kt_grammar.specs.Terminals.{name_of, variable_of, assignment_of, step_of, range_of, type_check_of}
use Rattle.kt_grammar.specs.Words.{
  Empty,
  Gives,
  IsSign,
  IsKeyword,
  IsIdentifier,
  IsMeant,
  IsPast,
  Maybe,
  Several,
  Directly,
}
use Rattle.kt_grammar.specs.Types.{IsType}
use Rattle.kt_grammar.specs.Levels.{Phrases, none, place, is_target}
use Rattle.kt_grammar.specs.declared.context.Context.{Context}
use Rattle.kt_grammar.specs.Expressions as x
use Rattle.kt_grammar.specs.Expressions.{
  IsBlock,
  IsPart,
  IsParameter,
  IsLambda,
  IsDisjunction,
  IsConjunction,
  IsEquality,
  IsComparison,
  IsTest,
  IsElvis,
  IsInfix,
  IsAdditive,
  IsMultiplicative,
  IsCast,
  IsPrefixed,
}

-- the body of a loop
abbrev pub in_loop : Context → Context
in_loop at = record at { in_loop = true }

module _ (room : ℕ) (below : Phrases) (at : Context) where
  -- ('=' n expr)?
  abbrev pub IsInitializer : Option ExpressionTree → List Token → List Token → Type 0
  IsInitializer = WhereRoom (some_levels below.levels) (IsSign sign.Assign)
      (λ _. Seq (IsPast (below.disjunction at)) (λ a. Gives (Some a))) (Gives None)

  -- ('val' | 'var') ID (':' type)? ('=' n expr)?
  abbrev pub IsLocal : StatementTree → List Token → List Token → Type 0
  IsLocal = Seq (IsMeant variable_of)
      (λ var. Seq IsIdentifier
      (λ name. Seq (Maybe (is_sign sign.Colon) (IsType room))
      (λ t. Seq IsInitializer (λ a. Gives (e.local var.0.pos var.1 (name_of name) t (maybe_expression a))))))

  -- target ('=' | '+=' | '-=' | '*=' | '/=' | '%=') n expr | target ('++' | '--') | expr
  -- A target is a name, ends in a member name behind `.`, or ends in `[` expr `]`.
  abbrev pub IsSimple : StatementTree → List Token → List Token → Type 0
  IsSimple = Seq (IsDisjunction room below at)
      (λ a. WhereRoom (is_target a && x.has_more room below at a) (IsMeant assignment_of)
      (λ o. Seq (IsPast (below.disjunction at)) (λ b. Gives (e.assign (place a) a o.1 b)))
      (WhereRoom (is_target a && x.has_more room below at a) (IsMeant step_of) (λ o. Gives (e.step (place a) a o.1))
      (Gives (e.evaluate (place a) a))))

  -- 'while' '(' expr ')' n body
  abbrev pub IsWhile : StatementTree → List Token → List Token → Type 0
  IsWhile = Seq (IsKeyword word.While)
      (λ t. Seq (IsSign sign.OpenParenthesis)
      (λ _. Seq (below.disjunction at)
      (λ a. Seq (IsSign sign.CloseParenthesis)
      (λ _. Seq (IsPast (below.body (in_loop at))) (λ b. Gives (e.while t.pos a b))))))

  -- 'do' n block n 'while' '(' expr ')'
  abbrev pub IsDoWhile : StatementTree → List Token → List Token → Type 0
  IsDoWhile = Seq (IsKeyword word.Do)
      (λ t. Seq (IsPast (IsBlock (below.statement (in_loop at))))
      (λ b. Seq (IsPast (IsKeyword word.While))
      (λ _. Seq (IsSign sign.OpenParenthesis)
      (λ _. Seq (below.disjunction at) (λ a. Seq (IsSign sign.CloseParenthesis) (λ _. Gives (e.do_while t.pos b a)))))))

  -- 'for' '(' ID 'in' add ('..' | 'until') add ')' n body
  abbrev pub IsFor : StatementTree → List Token → List Token → Type 0
  IsFor = Seq (IsKeyword word.For)
      (λ t. Seq (IsSign sign.OpenParenthesis)
      (λ _. Seq IsIdentifier
      (λ name. Seq (IsKeyword word.In)
      (λ _. Seq (below.additive at) (λ a. Seq (IsMeant range_of) (λ o. Seq (below.additive at) (λ b.
      Seq (IsSign sign.CloseParenthesis)
      (λ _. Seq (IsPast (below.body (in_loop at))) (λ body. Gives (e.for t.pos (name_of name) a o.1 b body))))))))))

  -- stmt : ('val' | 'var') .. | target .. | 'while' .. | 'do' .. | 'for' .. | expr
  -- No statement begins with `{`.
  abbrev pub IsStatement : StatementTree → List Token → List Token → Type 0
  IsStatement s u rest = Either IsLocal (Either IsWhile (Either IsDoWhile (Either IsFor IsSimple))) s u rest
      × (first (is_sign sign.OpenBrace) (u ++ rest) ≡ false)

  -- body : block | stmt
  abbrev pub IsBody : BodyTree → List Token → List Token → Type 0
  IsBody = Either (Seq (IsBlock IsStatement) (λ b. Gives (e.braces b))) (Seq IsStatement (λ s. Gives (e.single s)))

  -- cond : expr | ('is' | '!is') type
  -- Without a subject it is an expression.
  abbrev pub IsCondition : Bool → ConditionTree → List Token → List Token → Type 0
  IsCondition subject =
      Either (Seq (below.disjunction at) (λ a. Gives (e.equals a)))
      (If subject (Seq (IsMeant type_check_of) (λ not. Seq (IsType room) (λ t. Gives (e.of_type not.1 t)))) Empty)

  -- entry : (cond (',' n cond)* | 'else') n '->' n body
  abbrev pub IsEntry : Bool → EntryTree → List Token → List Token → Type 0
  IsEntry subject = Seq
      (Either (Seq (IsKeyword word.Else) (λ _. Gives [])) (Several Directly (below.condition at subject)))
      (λ cs. Seq (IsPast (IsSign sign.Arrow))
      (λ _. Seq (IsPast (below.body at)) (λ b. Gives (e.entry (conditions_of cs) b))))

  -- type ')' n block
  abbrev pub IsCatchRest : List ℕ → CatchTree → List Token → List Token → Type 0
  IsCatchRest name = Seq (IsType room)
      (λ t. Seq (IsSign sign.CloseParenthesis)
      (λ _. Seq (IsPast (IsBlock (below.statement at))) (λ b. Gives (e.catch name t b))))

-- phrases of one level more
abbrev pub over : Phrases → Phrases
over below = record {
  levels = suc below.levels;
  disjunction = IsDisjunction (suc below.levels) below;
  conjunction = IsConjunction (suc below.levels) below;
  equality = IsEquality (suc below.levels) below;
  comparison = IsComparison (suc below.levels) below;
  test = IsTest (suc below.levels) below;
  elvis = IsElvis (suc below.levels) below;
  infixed = IsInfix (suc below.levels) below;
  additive = IsAdditive (suc below.levels) below;
  multiplicative = IsMultiplicative (suc below.levels) below;
  cast = IsCast (suc below.levels) below;
  prefix = IsPrefixed (suc below.levels) below;
  lambda = IsLambda (suc below.levels) below;
  statement = IsStatement (suc below.levels) below;
  body = IsBody (suc below.levels) below;
  part = λ at. IsPart below.levels (below.disjunction at);
  parameter = IsParameter (suc below.levels);
  entry = IsEntry (suc below.levels) below;
  condition = IsCondition (suc below.levels) below;
  catch = IsCatchRest (suc below.levels) below;
}

-- phrases of at most so many levels
unfoldable pub phrases : ℕ → Phrases
phrases zero = none
phrases (suc n) = over (phrases n)
