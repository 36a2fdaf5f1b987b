-- The productions of blocks, lambda literals, `if`, `when` and `try`, over what holds `n` levels: each has `n + 1` itself.
use Rattle.std.specs.Prelude.{ℕ, suc, Bool, nat_lt, List, [], ◌∷◌, ◌++◌, Option, Some, is_some, ◌⊎◌}
use Rattle.std.proofs.Common.{inl}
use Rattle.kt_tree.specs.declared.tokens.Token.{Token}
use Rattle.kt_tree.specs.declared.tokens.Sign.TheVariants as sign
use Rattle.kt_tree.specs.declared.tokens.Keyword.TheVariants as word
use Rattle.kt_tree.specs.declared.tokens.SoftKeyword.TheVariants as soft
use Rattle.kt_tree.specs.Tokens.{is_keyword, is_sign, is_soft_keyword, is_identifier}
use Rattle.kt_tree.specs.Bodies as e
use Rattle.kt_tree.specs.Bodies.{ExpressionTree, ParameterTree, BodyTree, BlockTree, EntryTree, ConditionTree, CatchTree}
use Rattle.kt_tree.specs.Levels.{levels}
use Rattle.kt_grammar.specs.declared.context.Context.{Context}
use Rattle.kt_grammar.specs.Declarations.{outside}
use Rattle.kt_grammar_parsers.specs.Parsers.{Parser, some_levels, ◌>>=◌, ◌>>◌, pure, token, on, ahead, attempt, attempt_if, repeat}
use Rattle.kt_grammar.specs.Terminals.{name_of, is_no_arrow}
use Rattle.kt_grammar.specs.Readers.{refuse, lines, expect, separated, type_parser}
use Rattle.kt_grammar.specs.ExpressionParser as p
use Rattle.kt_grammar.specs.StatementParser as s
use Rattle.kt_grammar.specs.StatementParser.{parsers}
use Rattle.kt_parser_blocks.specs.declared.below.Precedence.{Precedence}
use Rattle.kt_parser_blocks.specs.declared.below.Precedence.TheVariants as precedence

-- expressions of at most `n` levels, by what operators they may have outside
abbrev pub expression : Precedence → ℕ → Context → Parser Token ExpressionTree
expression precedence.Disjunction n = (parsers n).disjunction
expression precedence.Conjunction n = (parsers n).conjunction
expression precedence.Equality n = (parsers n).equality
expression precedence.Comparison n = (parsers n).comparison
expression precedence.Test n = (parsers n).test
expression precedence.Infix n = (parsers n).infixed
expression precedence.Additive n = (parsers n).additive
expression precedence.Multiplicative n = (parsers n).multiplicative
expression precedence.Cast n = (parsers n).cast
expression precedence.Prefix n = (parsers n).prefix

-- there is room for a level above
abbrev pub has_more : ℕ → ExpressionTree → Bool
has_more n a = nat_lt (levels a) (suc n)

-- ---- lambda literals, which are the same in each context

module _ (n : ℕ) where
  abbrev pub lambda_head : Parser Token (List ParameterTree)
  lambda_head = p.lambda_head (suc n) (parsers n) outside

  abbrev pub lambda_parameters : Parser Token (List ParameterTree)
  lambda_parameters = attempt_if (some_levels (parsers n).levels) lambda_head (λ ps. pure ps) (pure [])

  abbrev pub lambda_rest : Token → Parser Token ExpressionTree
  lambda_rest = p.lambda_rest (suc n) (parsers n) outside

  abbrev pub lambda : Parser Token ExpressionTree
  lambda = p.lambda_parser (suc n) (parsers n) outside

module _ (n : ℕ) (at : Context) where
  -- ---- bodies

  abbrev pub braced_body : Parser Token BodyTree
  braced_body = p.block_rest ((parsers n).statement at) >>= (λ b. pure (e.braces b))

  abbrev pub single_body : Parser Token BodyTree
  single_body = (parsers n).statement at >>= (λ s. pure (e.single s))

  -- a body whose statements have at most `n` levels
  abbrev pub body_over : Parser Token BodyTree
  body_over = on (is_sign sign.OpenBrace) (λ _. braced_body) single_body

  -- ---- if

  abbrev pub else_body : Token → ExpressionTree → BodyTree → Parser Token ExpressionTree
  else_body t a b = (parsers n).body at >>= (λ c. pure (e.if_else t.pos a b (e.some_body c)))

  abbrev pub else_rest : Token → ExpressionTree → BodyTree → Parser Token ExpressionTree
  else_rest t a b = attempt (p.else_word (suc n) (parsers n) at) (λ _. else_body t a b)
      (pure (e.if_else t.pos a b e.no_body))

  abbrev pub if_rest : Token → Parser Token ExpressionTree
  if_rest = p.if_rest (suc n) (parsers n) at

  -- ---- when

  abbrev pub subject_rest : Parser Token (Option ExpressionTree)
  subject_rest = (parsers n).disjunction at >>= (λ a. expect sign.CloseParenthesis >> pure (Some a))

  abbrev pub subject : Parser Token (Option ExpressionTree)
  subject = p.subject (suc n) (parsers n) at

  abbrev pub equals_condition : Parser Token ConditionTree
  equals_condition = (parsers n).disjunction at >>= (λ a. pure (e.equals a))

  abbrev pub condition : Bool → Parser Token ConditionTree
  condition = s.condition_parser (suc n) (parsers n) at

  abbrev pub entry_head : Bool → Parser Token (List ConditionTree)
  entry_head = s.entry_head (suc n) (parsers n) at

  -- an entry, where a level is left for its body
  abbrev pub entry : Bool → Parser Token EntryTree
  entry subject = entry_head subject >>= s.entry_rest (suc n) (parsers n) at

  -- the entries of a `when`, and the `}`
  abbrev pub entries : Bool → Parser Token (List EntryTree × Token)
  entries subject = separated (is_sign sign.CloseBrace) ((parsers n).entry at subject)

  abbrev pub entries_rest : Token → Option ExpressionTree → Parser Token ExpressionTree
  entries_rest t a = entries (is_some a)
      >>= (λ es. pure (e.when t.pos (e.maybe_expression a) (e.entries_of es.0)))

  abbrev pub when_rest : Token → Parser Token ExpressionTree
  when_rest = p.when_rest (suc n) (parsers n) at

  -- ---- try

  abbrev pub catch_rest : List ℕ → Parser Token CatchTree
  catch_rest = s.catch_parser (suc n) (parsers n) at

  abbrev pub catch_more : List CatchTree → Token → Parser Token (List CatchTree ⊎ List CatchTree)
  catch_more cs x = (parsers n).catch at (name_of x) >>= (λ c. pure (inl (cs ++ c ∷ [])))

  abbrev pub catch_turn : List CatchTree → Parser Token (List CatchTree ⊎ List CatchTree)
  catch_turn = p.catch_turn (suc n) (parsers n) at

  abbrev pub catches : Parser Token (List CatchTree)
  catches = repeat catch_turn []

  abbrev pub finally_block : Token → BlockTree → List CatchTree → Parser Token ExpressionTree
  finally_block t b cs = p.block_rest ((parsers n).statement at)
      >>= (λ f. pure (e.try_catch t.pos b (e.catches_of cs) (e.some_block f)))

  abbrev pub finally_rest : Token → BlockTree → List CatchTree → Parser Token ExpressionTree
  finally_rest t b cs =
      attempt (p.finally_head (suc n) (parsers n) at) (λ _. finally_block t b cs)
      (p.no_finally (suc n) (parsers n) at t.pos b cs)

  abbrev pub try_rest : Token → Parser Token ExpressionTree
  try_rest = p.try_rest (suc n) (parsers n) at

-- ---- parts that are the same in each context

abbrev pub type_condition : ℕ → Bool → Parser Token ConditionTree
type_condition n not = type_parser (suc n) >>= (λ t. pure (e.of_type not t))

abbrev pub else_behind_lines : Parser Token Token
else_behind_lines = lines >> token (is_keyword word.Else)

abbrev pub else_keyword : Parser Token Token
else_keyword = on (is_sign sign.Semicolon) (λ _. else_behind_lines) else_behind_lines

abbrev pub else_word : Parser Token (Unit {0})
else_word = else_keyword >> (lines >> ahead is_no_arrow)

abbrev pub catch_head : Parser Token Token
catch_head = lines >> (token (is_soft_keyword soft.Catch)
    >> (expect sign.OpenParenthesis >> (token is_identifier >>= (λ x. expect sign.Colon >> pure x))))

abbrev pub finally_head : Parser Token Token
finally_head = lines >> (token (is_soft_keyword soft.Finally) >> (lines >> expect sign.OpenBrace))

abbrev pub without_finally : Token → BlockTree → List CatchTree → Parser Token ExpressionTree
without_finally t b [] = refuse
without_finally t b (c ∷ cs) = pure (e.try_catch t.pos b (e.catches_of (c ∷ cs)) e.no_block)
