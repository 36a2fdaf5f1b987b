-- The grammar of expressions: each production over the phrases that have one level less.
use Rattle.std.specs.Prelude.{
  ℕ,
  ◌+◌,
  Bool,
  true,
  false,
  not,
  nat_lt,
  nat_le,
  List,
  [],
  ◌∷◌,
  ◌++◌,
  Option,
  None,
  Some,
  is_some,
  ◌⊎◌,
}
use Rattle.std.proofs.Common.{inl, inr}
use Rattle.kt_base.specs.declared.refusals.Pos.{Pos}
use Rattle.kt_tree.specs.declared.tokens.Token.{Token}
use Rattle.kt_tree.specs.declared.tokens.Sign.TheVariants as sign
use Rattle.kt_tree.specs.declared.tokens.Keyword.TheVariants as word
use Rattle.kt_tree.specs.declared.tokens.SoftKeyword.TheVariants as soft
use Rattle.kt_tree.specs.declared.bodies.BinaryOperator.{BinaryOperator}
use Rattle.kt_tree.specs.Tokens.{is_new_line, is_sign}
use Rattle.kt_tree.specs.Types.{TypeTree}
use Rattle.kt_tree.specs.Bodies as e
use Rattle.kt_tree.specs.Bodies.{
  ExpressionTree,
  PartTree,
  ParameterTree,
  StatementTree,
  BlockTree,
  EntryTree,
  ConditionTree,
  CatchTree,
  expressions_of,
  parts_of,
  entries_of,
  conditions_of,
  catches_of,
  statements_of,
  maybe_expression,
}
use Rattle.kt_tree.specs.Levels.{levels, parts_levels}
use Rattle.kt_grammar_parsers.specs.Parsers.{some_levels}
use Rattle.kt_grammar_parsers.specs.Phrases.{
  Chain,
  IsToken,
  Seq,
  Either,
  Loop,
  If,
  Where,
  WhereNext,
  WhereRoom,
  IsAhead,
}
use Rattle.kt_grammar.specs.Terminals.{
  begins_expression,
  is_no_arrow,
  opens_arguments,
  name_of,
  is_open_quote,
  is_close_quote,
  is_name_part,
  is_this_part,
  is_open_template,
  literal_of,
  text_of,
  disjunction_of,
  conjunction_of,
  equality_of,
  comparison_of,
  elvis_of,
  infix_of,
  additive_of,
  multiplicative_of,
  prefix_of,
  type_check_of,
  cast_of,
  member_of,
}
use Rattle.kt_grammar.specs.Words.{
  Empty,
  Gives,
  IsSign,
  IsKeyword,
  IsSoftKeyword,
  IsIdentifier,
  IsMeant,
  IsLines,
  IsPast,
  Maybe,
  CommaList,
  MaybeCommaList,
  Several,
  Items,
  Directly,
}
use Rattle.kt_grammar.specs.Types.{IsType}
use Rattle.kt_grammar.specs.Levels.{Phrases, place, ends_in_name}
use Rattle.kt_grammar.specs.declared.context.Context.{Context}

-- ---- strings

-- a part of a string, where so many levels are left for what it holds
-- part : '$' ID | '$' 'this' | '${' n expr n '}' | text
abbrev pub IsPart : ℕ → (ExpressionTree → List Token → List Token → Type 0) → PartTree → List Token → List Token
    → Type 0
IsPart left Expression =
    Either (If (some_levels left) (Seq (IsToken is_name_part) (λ t. Gives (e.name_part (name_of t)))) Empty)
    (Either (If (some_levels left) (Seq (IsToken is_this_part) (λ _. Gives e.this_part)) Empty)
    (Either (Seq (IsToken is_open_template)
    (λ _. Seq (IsPast Expression) (λ a. Seq (IsPast (IsSign sign.CloseBrace)) (λ _. Gives (e.hole a)))))
    (Seq (IsMeant text_of) (λ t. Gives (e.text t.1)))))

-- ---- lambda literals

-- lparam : ID (':' type)?
abbrev pub IsParameter : ℕ → ParameterTree → List Token → List Token → Type 0
IsParameter room = Seq IsIdentifier
    (λ x. Seq (Maybe (is_sign sign.Colon) (IsType room)) (λ t. Gives (record { name = name_of x; annotation = t })))

-- block : '{' sep? (stmt (sep stmt)*)? sep? '}', behind its '{'
abbrev pub IsBlockRest : (StatementTree → List Token → List Token → Type 0) → BlockTree → List Token → List Token
    → Type 0
IsBlockRest Statement =
    Seq (Items (is_sign sign.CloseBrace) Statement) (λ b. Gives (e.block (statements_of b.0) b.1.pos))

abbrev pub IsBlock : (StatementTree → List Token → List Token → Type 0) → BlockTree → List Token → List Token → Type 0
IsBlock Statement = Seq (IsSign sign.OpenBrace) (λ _. IsBlockRest Statement)

-- A lambda is a loop's end for `break` and `continue`, and no `return` stands in it.
abbrev pub in_lambda : Context
in_lambda = record { in_loop = false; in_lambda = true }

-- ---- primaries and what follows them

module _ (room : ℕ) (below : Phrases) (at : Context) where
  -- literal : a number, a character, 'true', 'false' or 'null'
  abbrev pub IsLiteral : ExpressionTree → List Token → List Token → Type 0
  IsLiteral = Seq (IsMeant literal_of) (λ l. Gives (e.literal l.0.pos l.1))

  -- a part more: the first alone has what it holds one level below the string, several are a level of their own
  abbrev pub IsNextPart : List PartTree → PartTree → List Token → List Token → Type 0
  IsNextPart [] = IsPart below.levels (below.disjunction at)
  IsNextPart (p ∷ ps) = If (nat_le (parts_levels (parts_of (p ∷ ps)) + 2) room) (below.part at) Empty

  abbrev pub PartTurn : Pos → List PartTree → List PartTree ⊎ ExpressionTree → List Token → List Token → Type 0
  PartTurn start ps = Either (Seq (IsToken is_close_quote) (λ _. Gives (inr (e.template start (parts_of ps)))))
      (Seq (IsNextPart ps) (λ p. Gives (inl (ps ++ p ∷ []))))

  -- string : '"' part* '"'
  abbrev pub IsString : ExpressionTree → List Token → List Token → Type 0
  IsString = Seq (IsToken is_open_quote) (λ t. Loop (PartTurn t.pos) [])

  -- ID
  abbrev pub IsName : ExpressionTree → List Token → List Token → Type 0
  IsName = Seq IsIdentifier (λ t. Gives (e.name t.pos (name_of t)))

  -- 'this'
  abbrev pub IsThis : ExpressionTree → List Token → List Token → Type 0
  IsThis = Seq (IsKeyword word.This) (λ t. Gives (e.this t.pos))

  -- '(' expr ')'
  abbrev pub IsParenthesized : ExpressionTree → List Token → List Token → Type 0
  IsParenthesized = Seq (IsSign sign.OpenParenthesis)
      (λ t. Seq (below.disjunction at) (λ a. Seq (IsSign sign.CloseParenthesis) (λ _. Gives (e.parenthesized t.pos a))))

  -- lparam (',' n lparam)* n '->'
  abbrev pub IsLambdaHead : List ParameterTree → List Token → List Token → Type 0
  IsLambdaHead = Seq (Several Directly below.parameter) (λ ps. Seq (IsPast (IsSign sign.Arrow)) (λ _. Gives ps))

  -- lambda : '{' n (lparam (',' n lparam)* n '->')? sep? (stmt (sep stmt)*)? sep? '}'
  abbrev pub IsLambda : ExpressionTree → List Token → List Token → Type 0
  IsLambda = Seq (IsSign sign.OpenBrace)
      (λ t. Seq IsLines (λ _. Seq (Where IsLambdaHead Gives (Gives []))
      (λ ps. Seq (IsBlockRest (below.statement in_lambda)) (λ b. Gives (e.lambda t.pos (e.lambda_of ps b))))))

  -- ';'? n 'else' n
  -- An `else` with `->` behind it begins an entry of a `when`.
  abbrev pub IsElse : Unit {0} → List Token → List Token → Type 0
  IsElse = Seq (Either (Seq (IsSign sign.Semicolon) (λ _. IsPast (IsKeyword word.Else)))
      (IsPast (IsKeyword word.Else))) (λ _. IsPast (IsAhead is_no_arrow))

  -- if : 'if' '(' expr ')' n body (';'? n 'else' n body)?
  -- An `else` belongs to the nearest `if`.
  abbrev pub IsIf : ExpressionTree → List Token → List Token → Type 0
  IsIf = Seq (IsKeyword word.If)
      (λ t. Seq (IsSign sign.OpenParenthesis)
      (λ _. Seq (below.disjunction at) (λ a. Seq (IsSign sign.CloseParenthesis) (λ _. Seq (IsPast (below.body at)) (λ b.
      Where IsElse (λ _. Seq (below.body at) (λ c. Gives (e.if_else t.pos a b (e.some_body c))))
      (Gives (e.if_else t.pos a b e.no_body)))))))

  -- ('(' expr ')')?
  abbrev pub IsSubject : Option ExpressionTree → List Token → List Token → Type 0
  IsSubject = WhereRoom (some_levels below.levels) (IsSign sign.OpenParenthesis)
      (λ _. Seq (below.disjunction at) (λ a. Seq (IsSign sign.CloseParenthesis) (λ _. Gives (Some a)))) (Gives None)

  -- when : 'when' ('(' expr ')')? n '{' sep? (entry (sep entry)*)? sep? '}'
  abbrev pub IsWhen : ExpressionTree → List Token → List Token → Type 0
  IsWhen = Seq (IsKeyword word.When)
      (λ t. Seq IsSubject (λ a. Seq (IsPast (IsSign sign.OpenBrace))
      (λ _. Seq (Items (is_sign sign.CloseBrace) (below.entry at (is_some a)))
      (λ es. Gives (e.when t.pos (maybe_expression a) (entries_of es.0))))))

  -- n 'catch' '(' ID ':'
  abbrev pub IsCatchHead : Token → List Token → List Token → Type 0
  IsCatchHead = Seq (IsPast (IsSoftKeyword soft.Catch))
      (λ _. Seq (IsSign sign.OpenParenthesis) (λ _. Seq IsIdentifier (λ x. Seq (IsSign sign.Colon) (λ _. Gives x))))

  -- n 'finally' n '{'
  abbrev pub IsFinallyHead : Token → List Token → List Token → Type 0
  IsFinallyHead = Seq (IsPast (IsSoftKeyword soft.Finally)) (λ _. IsPast (IsSign sign.OpenBrace))

  abbrev pub CatchTurn : List CatchTree → List CatchTree ⊎ List CatchTree → List Token → List Token → Type 0
  CatchTurn cs = WhereRoom (some_levels below.levels) IsCatchHead
      (λ x. Seq (below.catch at (name_of x)) (λ c. Gives (inl (cs ++ c ∷ [])))) (Gives (inr cs))

  -- without `catch` there is a `finally`
  abbrev pub IsNoFinally : Pos → BlockTree → List CatchTree → ExpressionTree → List Token → List Token → Type 0
  IsNoFinally start b [] = Empty
  IsNoFinally start b (c ∷ cs) = Gives (e.try_catch start b (catches_of (c ∷ cs)) e.no_block)

  -- try : 'try' n block (n 'catch' '(' ID ':' type ')' n block)* (n 'finally' n block)?
  -- It takes each `catch` and the `finally` that follow.
  abbrev pub IsTry : ExpressionTree → List Token → List Token → Type 0
  IsTry = Seq (IsKeyword word.Try)
      (λ t. Seq (IsPast (IsBlock (below.statement at))) (λ b. Seq (Loop CatchTurn []) (λ cs.
      Where IsFinallyHead (λ _. Seq (IsBlockRest (below.statement at))
      (λ f. Gives (e.try_catch t.pos b (catches_of cs) (e.some_block f)))) (IsNoFinally t.pos b cs))))

  -- 'throw' expr
  abbrev pub IsThrow : ExpressionTree → List Token → List Token → Type 0
  IsThrow = Seq (IsKeyword word.Throw) (λ t. Seq (below.disjunction at) (λ a. Gives (e.throw t.pos a)))

  -- 'return' expr?
  -- It takes an expression where the next token begins one, and doesn't stand in a lambda.
  abbrev pub IsReturn : ExpressionTree → List Token → List Token → Type 0
  IsReturn = If (not at.in_lambda)
      (Seq (IsKeyword word.Return)
      (λ t. WhereNext begins_expression
      (Seq (below.disjunction at) (λ a. Gives (e.return t.pos (e.some_expression a))))
      (Gives (e.return t.pos e.no_expression)))) Empty

  -- 'break', in a loop
  abbrev pub IsBreak : ExpressionTree → List Token → List Token → Type 0
  IsBreak = If at.in_loop (Seq (IsKeyword word.Break) (λ t. Gives (e.break t.pos))) Empty

  -- 'continue', in a loop
  abbrev pub IsContinue : ExpressionTree → List Token → List Token → Type 0
  IsContinue = If at.in_loop (Seq (IsKeyword word.Continue) (λ t. Gives (e.continue t.pos))) Empty

  -- primary : '(' expr ')' | if | 'throw' expr | 'return' expr? | 'break' | 'continue' | lambda | when | try | string
  --         | 'this' | ID | literal
  abbrev pub IsPrimary : ExpressionTree → List Token → List Token → Type 0
  IsPrimary = Either IsParenthesized (Either IsIf (Either IsThrow (Either IsReturn (Either IsBreak (Either IsContinue
      (Either IsLambda (Either IsWhen (Either IsTry (Either IsString (Either IsThis (Either IsName IsLiteral)))))))))))

  -- args? ')' lambda?, behind '('      args : expr (',' expr)*
  -- A lambda that follows is the last argument; it follows where a `{` does.
  abbrev pub IsArguments : List ExpressionTree → List Token → List Token → Type 0
  IsArguments =
      Seq (MaybeCommaList (is_sign sign.CloseParenthesis) (below.disjunction at))
      (λ es. WhereNext (is_sign sign.OpenBrace) (Seq (below.lambda at) (λ l. Gives (es ++ l ∷ []))) (Gives es))

  -- call : '(' args? ')' lambda? | lambda, behind its type arguments, with the place of its first token
  abbrev pub IsCall : List ExpressionTree × Pos → List Token → List Token → Type 0
  IsCall =
      Either (Seq (IsSign sign.OpenParenthesis) (λ t. Seq IsArguments (λ es. Gives (es, t.pos))))
      (Seq (below.lambda at) (λ l. Gives (l ∷ [], place l)))

  -- a call whose suffix begins at this place
  abbrev pub called : ExpressionTree → Pos → List TypeTree → List ExpressionTree → ExpressionTree
  called f start ts es = e.call (place f) f start ts (expressions_of es)

  -- the call has room
  abbrev pub has_call : ExpressionTree → Bool
  has_call f = nat_le (levels (called f (place f) [] [])) room

  -- there is room for one level more
  abbrev pub has_more : ExpressionTree → Bool
  has_more a = nat_lt (levels a) room

  -- a call with these type arguments, where its suffix begins
  abbrev pub IsCallOf : ExpressionTree → List TypeTree × Pos → ExpressionTree ⊎ ExpressionTree → List Token
      → List Token → Type 0
  IsCallOf a ts = Seq IsCall (λ es. Gives (inl (called a ts.1 ts.0 es.0)))

  -- a call without type arguments
  abbrev pub IsPlainCall : ExpressionTree → ExpressionTree ⊎ ExpressionTree → List Token → List Token → Type 0
  IsPlainCall a = Seq IsCall (λ es. Gives (inl (called a es.1 [] es.0)))

  -- '[' expr ']', behind its '['
  abbrev pub IsElement : ExpressionTree → ExpressionTree ⊎ ExpressionTree → List Token → List Token → Type 0
  IsElement a = Seq (below.disjunction at)
      (λ i. Seq (IsSign sign.CloseBracket) (λ _. Gives (inl (e.index (place a) a i))))

  -- n ('.' | '?.') n ID, behind the sign
  abbrev pub IsMember : ExpressionTree → Bool → ExpressionTree ⊎ ExpressionTree → List Token → List Token → Type 0
  IsMember a safe = Seq (IsPast IsIdentifier) (λ x. Gives (inl (e.member (place a) a safe (name_of x))))

  -- targs, and then '(' or '{'; with the place of the '<'
  abbrev pub IsTypeArgumentsOfCall : List TypeTree × Pos → List Token → List Token → Type 0
  IsTypeArgumentsOfCall =
      Seq (IsSign sign.Less)
      (λ t. Seq (CommaList (is_sign sign.Greater) (IsType room))
      (λ ts. Seq (IsAhead opens_arguments) (λ _. Gives (ts, t.pos))))

  -- suffix : '!!' | call | '[' expr ']' | n ('.' | '?.') n ID      call : targs? ('(' args? ')' lambda? | lambda)
  -- As many suffixes are taken as follow: one follows where its first token does. Where a name is followed by tokens
  -- that read as type arguments and then `(` or `{`, they are read so.
  abbrev pub SuffixTurn : ExpressionTree → ExpressionTree ⊎ ExpressionTree → List Token → List Token → Type 0
  SuffixTurn a = WhereRoom (ends_in_name a) IsTypeArgumentsOfCall (IsCallOf a)
      (WhereRoom (has_call a) (IsAhead opens_arguments) (λ _. IsPlainCall a)
      (WhereRoom (has_more a) (IsSign sign.NotNull) (λ _. Gives (inl (e.not_null (place a) a)))
      (WhereRoom (has_more a) (IsSign sign.OpenBracket) (λ _. IsElement a)
      (WhereRoom (has_more a) (IsPast (IsMeant member_of)) (λ safe. IsMember a safe.1) (Gives (inr a))))))

  -- postfix : primary suffix*
  abbrev pub IsPostfix : ExpressionTree → List Token → List Token → Type 0
  IsPostfix = Seq IsPrimary (Loop SuffixTurn)

  -- ---- operators

  -- prefix : ('-' | '!')* postfix
  abbrev pub IsPrefixed : ExpressionTree → List Token → List Token → Type 0
  IsPrefixed = Either (Seq (IsMeant prefix_of) (λ o. Seq (below.prefix at) (λ a. Gives (e.prefix o.0.pos o.1 a))))
      IsPostfix

  abbrev pub CastTurn : ExpressionTree → ExpressionTree ⊎ ExpressionTree → List Token → List Token → Type 0
  CastTurn a = WhereRoom (has_more a) (IsMeant cast_of)
      (λ safe. Seq (IsPast (IsType room)) (λ t. Gives (inl (e.cast (place a) a safe.1 t)))) (Gives (inr a))

  -- cast : prefix (('as' | 'as?') n type)*
  abbrev pub IsCast : ExpressionTree → List Token → List Token → Type 0
  IsCast = Seq IsPrefixed (Loop CastTurn)

  -- the operator between two operands
  abbrev pub joined : Token × BinaryOperator → ExpressionTree → ExpressionTree → ExpressionTree
  joined o a b = e.binary (place a) o.1 a b

  -- operand (operator n operand)*, grouped to the left, while there is room
  abbrev pub IsChain : (ExpressionTree → List Token → List Token → Type 0)
      → (Token × BinaryOperator → List Token → List Token → Type 0)
      → (ExpressionTree → List Token → List Token → Type 0) → ExpressionTree → List Token → List Token → Type 0
  IsChain First Operator Operand = Chain has_more First Operator is_new_line Operand joined

  -- mul : cast (('*' | '/' | '%') n cast)*
  abbrev pub IsMultiplicative : ExpressionTree → List Token → List Token → Type 0
  IsMultiplicative = IsChain IsCast (IsMeant multiplicative_of) (below.cast at)

  -- add : mul (('+' | '-') n mul)*
  abbrev pub IsAdditive : ExpressionTree → List Token → List Token → Type 0
  IsAdditive = IsChain IsMultiplicative (IsMeant additive_of) (below.multiplicative at)

  -- infixed : add (('and' | 'or' | 'xor' | 'shl' | 'shr' | 'ushr') n add)*
  abbrev pub IsInfix : ExpressionTree → List Token → List Token → Type 0
  IsInfix = IsChain IsAdditive (IsMeant infix_of) (below.additive at)

  -- elvis : infix (n '?:' n infix)*
  abbrev pub IsElvis : ExpressionTree → List Token → List Token → Type 0
  IsElvis = IsChain IsInfix (IsPast (IsMeant elvis_of)) (below.infixed at)

  -- test : elvis (('is' | '!is') n type)?
  abbrev pub IsTest : ExpressionTree → List Token → List Token → Type 0
  IsTest = Seq IsElvis
      (λ a. WhereRoom (has_more a) (IsMeant type_check_of)
      (λ not. Seq (IsPast (IsType room)) (λ t. Gives (e.type_check (place a) a not.1 t))) (Gives a))

  -- cmp : test (('<' | '>' | '<=' | '>=') n test)?
  abbrev pub IsComparison : ExpressionTree → List Token → List Token → Type 0
  IsComparison = Seq IsTest
      (λ a. WhereRoom (has_more a) (IsMeant comparison_of)
      (λ o. Seq (IsPast (below.test at)) (λ b. Gives (joined o a b))) (Gives a))

  -- eq : cmp (('==' | '!=') n cmp)*
  abbrev pub IsEquality : ExpressionTree → List Token → List Token → Type 0
  IsEquality = IsChain IsComparison (IsMeant equality_of) (below.comparison at)

  -- and : eq (n '&&' n eq)*
  abbrev pub IsConjunction : ExpressionTree → List Token → List Token → Type 0
  IsConjunction = IsChain IsEquality (IsPast (IsMeant conjunction_of)) (below.equality at)

  -- expr : and (n '||' n and)*
  abbrev pub IsDisjunction : ExpressionTree → List Token → List Token → Type 0
  IsDisjunction = IsChain IsConjunction (IsPast (IsMeant disjunction_of)) (below.conjunction at)
