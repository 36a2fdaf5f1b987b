-- Functions are read exactly, over expressions and statements.
use Rattle.std.proofs.Common.{true, false, List, [], ◌∷◌, refl, ◌≡◌, ◌++◌, Bool, None, Some}
use Rattle.std.specs.Prelude.{is_some}
use Rattle.kt_base.specs.declared.refusals.Pos.{Pos}
use Rattle.kt_tree.specs.declared.tokens.Sign.TheVariants as sign
use Rattle.kt_tree.specs.declared.tokens.Keyword.TheVariants as word
use Rattle.kt_tree.specs.declared.tokens.SoftKeyword.{SoftKeyword}
use Rattle.kt_tree.specs.declared.tokens.SoftKeyword.TheVariants as soft
use Rattle.kt_tree.specs.declared.tokens.Token.{Token}
use Rattle.kt_tree.specs.declared.declarations.FunctionModifiers.{FunctionModifiers}
use Rattle.kt_tree.specs.Declarations as d
use Rattle.kt_tree.specs.Bodies.{ExpressionTree}
use Rattle.kt_tree.specs.Declarations.{FunctionBodyTree}
use Rattle.kt_tree.specs.Tokens.{
  is_new_line,
  is_sign,
  kind_is_identifier,
  kind_is_new_line,
  same_sign,
  is_identifier,
  is_keyword,
  is_soft_keyword,
}
use Rattle.kt_grammar_parsers.specs.Parsers.{◌>>=◌, ◌>>◌, first, pure, behind}
use Rattle.kt_grammar_parsers.specs.Phrases.{If, IsNothing, IsToken, Seq}
use Rattle.kt_grammar.specs.Terminals.{name_of}
use Rattle.kt_grammar.specs.Words.{IsPast}
use Rattle.kt_grammar.specs.Expressions.{IsBlock, IsBlockRest}
use Rattle.kt_grammar.specs.Statements.{phrases}
use Rattle.kt_grammar.specs.Declarations.{
  IsFun,
  IsFunction,
  IsFunctionBody,
  IsTypeParameters,
  Scope,
  has_body,
  may_be_generic,
  most_levels,
  outside,
}
use Rattle.kt_grammar.specs.Readers.{lines}
use Rattle.kt_grammar.specs.ExpressionParser.{block_of}
use Rattle.kt_grammar.specs.StatementParser.{parsers}
use Rattle.kt_grammar.specs.DeclarationParser.{fun_word, body_if, function_body, function_parser, generic_if}
use Rattle.kt_grammar.proofs.tokens.Apart.{signs_apart}
use Rattle.kt_grammar_parsers.proofs.Optional.{seq_begins}
use Rattle.kt_grammar.proofs.types.TypesRead.{a_sign}
use Rattle.kt_grammar.proofs.parts.Sequences.{Anything, Part, Closes, then, any_part, made}
use Rattle.kt_grammar.proofs.parts.Choices.{past_then}
use Rattle.kt_grammar.proofs.tokens.Begins.{
  Begins,
  first_no,
  kind_begins_expression,
  kind_begins_statement,
  of_kind,
  seq_begins_with,
}
use Rattle.kt_grammar.proofs.parts.Below.{IsExpressionRead}
use Rattle.kt_grammar.proofs.parts.Optionals.{maybe_part}
use Rattle.kt_grammar.proofs.tokens.Distinct.{no_sign, token_no}
use Rattle.kt_grammar.proofs.parts.Productions.{from_read}
use Rattle.kt_grammar.proofs.tokens.Keywords.{or_keyword}
use Rattle.kt_grammar.proofs.parts.Left.{on_only}
use Rattle.kt_grammar.proofs.tokens.Witnesses.{begins_no_line, sign_is, sign_then}
use Rattle.kt_grammar.proofs.expressions.BlocksRead.{block_rest_part}
use Rattle.kt_grammar.proofs.statements.LoopsRead.{block_no_line}
use Rattle.kt_grammar.proofs.tokens.Following.{EndsType, Next, closes_type, most_type_part, no_colon}
use Rattle.kt_grammar.proofs.parts.Enclosed.{if_false_part, if_true_part, past_no, swap_part}
use Rattle.kt_grammar.proofs.declarations.ModifiersRead.{
  start,
  Distinct,
  Modifier,
  word_begins,
  word_part,
  Unlike,
  keyword_behind,
  word_unlike,
}
use Rattle.kt_grammar.proofs.declarations.ParametersRead.{name_then, parameters_part, type_parameters_part}

-- the modifiers of a function
unfoldable pub function_modifiers : List (Modifier FunctionModifiers)
function_modifiers = record { word = soft.Override; stands = λ f. f.is_override; add = λ f. record f { is_override = true } } ∷ record { word = soft.Open; stands = λ f. f.is_open; add = λ f. record f { is_open = true } }
    ∷ record { word = soft.Abstract; stands = λ f. f.is_abstract; add = λ f. record f { is_abstract = true } } ∷ record { word = soft.Suspend; stands = λ f. f.is_suspend; add = λ f. record f { is_suspend = true } } ∷ []

no_modifiers : FunctionModifiers
no_modifiers = record { is_override = false; is_open = false; is_abstract = false; is_suspend = false }

all_distinct : Distinct function_modifiers
unfolding function_modifiers
all_distinct = ((refl, (refl, (refl, tt))), ((refl, (refl, tt)), ((refl, tt), (tt, tt))))

-- fmod* 'fun'
pub fun_part : Part fun_word IsFun Anything (λ _. Anything)
unfolding function_modifiers no_modifiers
fun_part = word_part word.Fun function_modifiers all_distinct no_modifiers

pub fun_begins : Begins (or_keyword word.Fun kind_is_identifier) IsFun
unfolding function_modifiers no_modifiers
fun_begins = word_begins word.Fun function_modifiers all_distinct no_modifiers (start word.Fun function_modifiers all_distinct no_modifiers)

pub fun_unlike : (v : SoftKeyword) → Unlike v function_modifiers → (m : Pos × FunctionModifiers) (u rest : List Token) → IsFun m u rest → first (is_soft_keyword v) (u ++ rest) ≡ false
unfolding function_modifiers no_modifiers
fun_unlike v apart = word_unlike word.Fun function_modifiers all_distinct no_modifiers v apart (start word.Fun function_modifiers all_distinct no_modifiers)

pub fun_behind : (m : Pos × FunctionModifiers) (u rest : List Token) → IsFun m u rest → first (is_keyword word.Fun) (behind is_identifier (u ++ rest)) ≡ true
unfolding function_modifiers no_modifiers
fun_behind = keyword_behind word.Fun function_modifiers all_distinct no_modifiers (start word.Fun function_modifiers all_distinct no_modifiers)

-- ---- what is known of expressions and statements

abbrev pub Expressions : Type 0
Expressions = IsExpressionRead true ((parsers most_levels).disjunction outside) ((phrases most_levels).disjunction outside) kind_begins_expression

abbrev pub Statements : Type 0
Statements = IsExpressionRead true ((parsers most_levels).statement outside) ((phrases most_levels).statement outside) kind_begins_statement

-- ---- parts of a function

brace_no_assign : (t : Token) → is_sign sign.OpenBrace t ≡ true → is_sign sign.Assign t ≡ false
unfolding same_sign
brace_no_assign = signs_apart sign.OpenBrace sign.Assign refl

name_no_less : (tail : List Token) → Next kind_is_identifier tail → first (is_sign sign.Less) tail ≡ false
name_no_less tail = first_no (of_kind kind_is_identifier) (is_sign sign.Less) tail (no_sign kind_is_identifier sign.Less refl)

-- where a function may have type parameters, tparams?
generic_part : (b : Bool) → Part (generic_if b) (If b IsTypeParameters (IsNothing [])) (Next kind_is_identifier) (λ _. Next kind_is_identifier)
generic_part true = if_true_part (type_parameters_part name_no_less)
generic_part false = if_false_part (made [] (λ tail h. h))

module _ (E : Expressions) (S : Statements) where
  abbrev pub expression_part : Part ((parsers most_levels).disjunction outside) ((phrases most_levels).disjunction outside) Anything (λ _. Closes)
  expression_part = from_read E refl

  abbrev pub expression_no_line : (a : ExpressionTree) (u rest : List Token) → (phrases most_levels).disjunction outside a u rest → first is_new_line (u ++ rest) ≡ false
  expression_no_line = begins_no_line kind_begins_expression refl E.begins

  abbrev IsBraces : FunctionBodyTree → List Token → List Token → Type 0
  IsBraces = Seq (IsPast (IsBlock ((phrases most_levels).statement outside))) (λ b. IsNothing (d.braces b))

  braces_no_assign : (b : FunctionBodyTree) (u rest : List Token) → IsBraces b u rest → first (is_sign sign.Assign) (u ++ rest) ≡ false
  braces_no_assign = seq_begins (is_sign sign.Assign) (IsPast (IsBlock ((phrases most_levels).statement outside))) (λ b. IsNothing (d.braces b)) false (past_no (is_sign sign.Assign) (no_sign kind_is_new_line sign.Assign refl)
      (seq_begins (is_sign sign.Assign) (IsToken (is_sign sign.OpenBrace)) (λ _. IsBlockRest ((phrases most_levels).statement outside)) false (token_no (is_sign sign.OpenBrace) (is_sign sign.Assign) brace_no_assign)))

  -- n block
  braces_part : Part (lines >> (block_of ((parsers most_levels).statement outside) >>= (λ b. pure (d.braces b)))) IsBraces EndsType (λ _. Closes)
  braces_part = past_then (block_no_line ((phrases most_levels).statement outside)) (sign_then {F = EndsType} sign.OpenBrace (λ tail. refl) (λ _. block_rest_part S)) (λ b. made (d.braces b) (λ tail h. tt))

  -- n block | '=' n expr
  body_part : (typed : Bool) → Part (function_body typed) (IsFunctionBody typed) EndsType (λ _. Closes)
  body_part typed = swap_part (on_only (a_sign sign.Assign) (sign_is sign.Assign) typed (λ h t. past_then expression_no_line expression_part (λ a. made (d.result a) (λ tail c. c))) braces_part braces_no_assign)

  maybe_body_part : (b typed : Bool) → Part (body_if b typed) (If b (Seq (IsFunctionBody typed) (λ f. IsNothing (Some f))) (IsNothing None)) EndsType (λ _. Closes)
  maybe_body_part true typed = if_true_part (then (body_part typed) (λ f. made (Some f) (λ tail h. h)))
  maybe_body_part false typed = if_false_part (made None closes_type)

  pub function_part : (scope : Scope) → Part (function_parser scope) (IsFunction scope) Anything (λ _. Closes)
  function_part scope = then fun_part (λ m. any_part (then (generic_part (may_be_generic scope)) (λ ts. name_then (λ tail. refl) (λ x. sign_then sign.OpenParenthesis (λ tail. tt) (λ _. then parameters_part (λ ps.
      any_part (then (maybe_part (is_sign sign.Colon) (a_sign sign.Colon) (sign_is sign.Colon) most_type_part no_colon) (λ r. then (maybe_body_part (has_body scope m.1) (is_some r)) (λ b.
      made (record { at = m.0; modifiers = m.1; type_parameters = ts; name = name_of x; parameters = ps; result = r; body = b }) (λ tail h. h))))))))))

pub function_begins : (scope : Scope) → Begins (or_keyword word.Fun kind_is_identifier) (IsFunction scope)
function_begins scope = seq_begins_with (or_keyword word.Fun kind_is_identifier) fun_begins
