-- Worked examples: 200 levels and 201 of each kind of nesting.
use Rattle.std.proofs.Common.{◌≡◌, ℕ, zero, suc, false, List, [], ◌∷◌, ◌++◌, None, Some, refl}
use Rattle.kt_tree.specs.declared.tokens.Token.{Token}
use Rattle.kt_tree.specs.declared.tokens.TokenKind.{TokenKind}
use Rattle.kt_tree.specs.declared.tokens.TokenKind.TheVariants as kind
use Rattle.kt_tree.specs.declared.tokens.Keyword.TheVariants as word
use Rattle.kt_tree.specs.declared.tokens.Sign.{Sign}
use Rattle.kt_tree.specs.declared.tokens.Sign.TheVariants as sign
use Rattle.kt_tree.specs.declared.tokens.SoftKeyword.{SoftKeyword}
use Rattle.kt_tree.specs.declared.tokens.SoftKeyword.TheVariants as soft
use Rattle.kt_tree.specs.Tokens.{same_keyword, same_sign, spelling}
use Rattle.kt_grammar_parsers.specs.Parsers.{further, token, skip, on, attempt, loop, ahead}
use Rattle.kt_grammar.specs.Readers.{meant, type_parser}
use Rattle.kt_grammar.specs.StatementParser.{parsers}
use Rattle.kt_grammar.specs.Declarations.{most_levels}
use Rattle.kt_grammar.specs.DeclarationParser.{file_parser, refused_in}
use Rattle.kt_grammar.proofs.examples.Examples.{at, name, body}

-- ---- 200 levels and 201: a list of tokens that grows by one level, in front of and behind what it holds

abbrev pub wrapped : ℕ → List Token → List Token → List Token → List Token
wrapped zero before inner after = inner
wrapped (suc n) before inner after = before ++ (wrapped n before inner after ++ after)

abbrev pub repeated : ℕ → List Token → List Token
repeated zero ts = []
repeated (suc n) ts = ts ++ repeated n ts

abbrev pub sign_of : Sign → Token
sign_of s = at (kind.Sign s)

abbrev pub x : List Token
x = name (120 ∷ []) ∷ []

parentheses_200 : refused_in (body (wrapped 199 (sign_of sign.OpenParenthesis ∷ []) x (sign_of sign.CloseParenthesis ∷ []))) ≡ None
unfolding file_parser further token skip on attempt loop ahead meant type_parser parsers most_levels same_keyword same_sign
parentheses_200 = refl

parentheses_201 : refused_in (body (wrapped 200 (sign_of sign.OpenParenthesis ∷ []) x (sign_of sign.CloseParenthesis ∷ []))) ≡ Some 204
unfolding file_parser further token skip on attempt loop ahead meant type_parser parsers most_levels same_keyword same_sign
parentheses_201 = refl

prefix_200 : refused_in (body (wrapped 199 (sign_of sign.Minus ∷ []) x [])) ≡ None
unfolding file_parser further token skip on attempt loop ahead meant type_parser parsers most_levels same_keyword same_sign
prefix_200 = refl

prefix_201 : refused_in (body (wrapped 200 (sign_of sign.Minus ∷ []) x [])) ≡ Some 204
unfolding file_parser further token skip on attempt loop ahead meant type_parser parsers most_levels same_keyword same_sign
prefix_201 = refl

chain_200 : refused_in (body (x ++ repeated 199 (sign_of sign.Plus ∷ x))) ≡ None
unfolding file_parser further token skip on attempt loop ahead meant type_parser parsers most_levels same_keyword same_sign
chain_200 = refl

chain_201 : refused_in (body (x ++ repeated 200 (sign_of sign.Plus ∷ x))) ≡ Some 404
unfolding file_parser further token skip on attempt loop ahead meant type_parser parsers most_levels same_keyword same_sign
chain_201 = refl

members_200 : refused_in (body (x ++ repeated 199 (sign_of sign.Dot ∷ x))) ≡ None
unfolding file_parser further token skip on attempt loop ahead meant type_parser parsers most_levels same_keyword same_sign
members_200 = refl

members_201 : refused_in (body (x ++ repeated 200 (sign_of sign.Dot ∷ x))) ≡ Some 404
unfolding file_parser further token skip on attempt loop ahead meant type_parser parsers most_levels same_keyword same_sign
members_201 = refl

calls_200 : refused_in (body (wrapped 199 (x ++ sign_of sign.OpenParenthesis ∷ []) x (sign_of sign.CloseParenthesis ∷ []))) ≡ None
unfolding file_parser further token skip on attempt loop ahead meant type_parser parsers most_levels same_keyword same_sign
calls_200 = refl

calls_201 : refused_in (body (wrapped 200 (x ++ sign_of sign.OpenParenthesis ∷ []) x (sign_of sign.CloseParenthesis ∷ []))) ≡ Some 405
unfolding file_parser further token skip on attempt loop ahead meant type_parser parsers most_levels same_keyword same_sign
calls_201 = refl

whiles_200 : refused_in (body (wrapped 199 (at (kind.Keyword word.While) ∷ sign_of sign.OpenParenthesis ∷ x ++ sign_of sign.CloseParenthesis ∷ sign_of sign.OpenBrace ∷ []) x (sign_of sign.CloseBrace ∷ []))) ≡ None
unfolding file_parser further token skip on attempt loop ahead meant type_parser parsers most_levels same_keyword same_sign
whiles_200 = refl

whiles_201 : refused_in (body (wrapped 200 (at (kind.Keyword word.While) ∷ sign_of sign.OpenParenthesis ∷ x ++ sign_of sign.CloseParenthesis ∷ sign_of sign.OpenBrace ∷ []) x (sign_of sign.CloseBrace ∷ []))) ≡ Some 1000
unfolding file_parser further token skip on attempt loop ahead meant type_parser parsers most_levels same_keyword same_sign
whiles_201 = refl

holes_200 : refused_in (body (wrapped 199 (at kind.OpenQuote ∷ at kind.OpenTemplate ∷ []) x (sign_of sign.CloseBrace ∷ at kind.CloseQuote ∷ []))) ≡ None
unfolding file_parser further token skip on attempt loop ahead meant type_parser parsers most_levels same_keyword same_sign
holes_200 = refl

holes_201 : refused_in (body (wrapped 200 (at kind.OpenQuote ∷ at kind.OpenTemplate ∷ []) x (sign_of sign.CloseBrace ∷ at kind.CloseQuote ∷ []))) ≡ Some 404
unfolding file_parser further token skip on attempt loop ahead meant type_parser parsers most_levels same_keyword same_sign
holes_201 = refl

ifs_200 : refused_in (body (wrapped 199 (at (kind.Keyword word.If) ∷ sign_of sign.OpenParenthesis ∷ x ++ sign_of sign.CloseParenthesis ∷ []) x [])) ≡ None
unfolding file_parser further token skip on attempt loop ahead meant type_parser parsers most_levels same_keyword same_sign
ifs_200 = refl

ifs_201 : refused_in (body (wrapped 200 (at (kind.Keyword word.If) ∷ sign_of sign.OpenParenthesis ∷ x ++ sign_of sign.CloseParenthesis ∷ []) x [])) ≡ Some 801
unfolding file_parser further token skip on attempt loop ahead meant type_parser parsers most_levels same_keyword same_sign
ifs_201 = refl

types_200 : refused_in (body (at (kind.Keyword word.Val) ∷ x ++ sign_of sign.Colon ∷ wrapped 199 (sign_of sign.OpenParenthesis ∷ []) x (sign_of sign.CloseParenthesis ∷ []))) ≡ None
unfolding file_parser further token skip on attempt loop ahead meant type_parser parsers most_levels same_keyword same_sign
types_200 = refl

types_201 : refused_in (body (at (kind.Keyword word.Val) ∷ x ++ sign_of sign.Colon ∷ wrapped 200 (sign_of sign.OpenParenthesis ∷ []) x (sign_of sign.CloseParenthesis ∷ []))) ≡ Some 207
unfolding file_parser further token skip on attempt loop ahead meant type_parser parsers most_levels same_keyword same_sign
types_201 = refl

-- An entry of a `when` holds a body, one level below it: where no level is left for one, there is no entry.
whens_200 : refused_in (body (wrapped 197 (sign_of sign.OpenParenthesis ∷ []) (at (kind.Keyword word.When) ∷ sign_of sign.OpenBrace ∷ at (kind.Keyword word.Else) ∷ sign_of sign.Arrow ∷ x ++ sign_of sign.CloseBrace ∷ []) (sign_of sign.CloseParenthesis ∷ []))) ≡ None
unfolding file_parser further token skip on attempt loop ahead meant type_parser parsers most_levels same_keyword same_sign
whens_200 = refl

whens_201 : refused_in (body (wrapped 198 (sign_of sign.OpenParenthesis ∷ []) (at (kind.Keyword word.When) ∷ sign_of sign.OpenBrace ∷ at (kind.Keyword word.Else) ∷ sign_of sign.Arrow ∷ x ++ sign_of sign.CloseBrace ∷ []) (sign_of sign.CloseParenthesis ∷ []))) ≡ Some 205
unfolding file_parser further token skip on attempt loop ahead meant type_parser parsers most_levels same_keyword same_sign
whens_201 = refl

-- ---- what follows is taken by its first token, also where it doesn't fit: then there is no sentence

abbrev c_in_parentheses : List Token
c_in_parentheses = sign_of sign.OpenParenthesis ∷ x ++ sign_of sign.CloseParenthesis ∷ []

-- '(' .. 'x' .. ')'
abbrev nested : ℕ → List Token
nested n = wrapped n (sign_of sign.OpenParenthesis ∷ []) x (sign_of sign.CloseParenthesis ∷ [])

-- return ((..x..))
returns_200 : refused_in (body (at (kind.Keyword word.Return) ∷ nested 198)) ≡ None
unfolding file_parser further token skip on attempt loop ahead meant type_parser parsers most_levels same_keyword same_sign
returns_200 = refl

-- The operand of `return` is deeper than 200 levels: it is no call of `return`.
returns_201 : refused_in (body (at (kind.Keyword word.Return) ∷ nested 199)) ≡ Some 204
unfolding file_parser further token skip on attempt loop ahead meant type_parser parsers most_levels same_keyword same_sign
returns_201 = refl

-- if (x) x(((..x..)))
bodies_200 : refused_in (body (at (kind.Keyword word.If) ∷ c_in_parentheses ++ x ++ sign_of sign.OpenParenthesis ∷ nested 197 ++ sign_of sign.CloseParenthesis ∷ [])) ≡ None
unfolding file_parser further token skip on attempt loop ahead meant type_parser parsers most_levels same_keyword same_sign
bodies_200 = refl

-- It is no call of the `if`.
bodies_201 : refused_in (body (at (kind.Keyword word.If) ∷ c_in_parentheses ++ x ++ sign_of sign.OpenParenthesis ∷ nested 198 ++ sign_of sign.CloseParenthesis ∷ [])) ≡ Some 208
unfolding file_parser further token skip on attempt loop ahead meant type_parser parsers most_levels same_keyword same_sign
bodies_201 = refl

-- throw x[((..x..))]
thrown_200 : refused_in (body (at (kind.Keyword word.Throw) ∷ x ++ sign_of sign.OpenBracket ∷ nested 197 ++ sign_of sign.CloseBracket ∷ [])) ≡ None
unfolding file_parser further token skip on attempt loop ahead meant type_parser parsers most_levels same_keyword same_sign
thrown_200 = refl

-- It is no element of the `throw`.
thrown_201 : refused_in (body (at (kind.Keyword word.Throw) ∷ x ++ sign_of sign.OpenBracket ∷ nested 198 ++ sign_of sign.CloseBracket ∷ [])) ≡ Some 205
unfolding file_parser further token skip on attempt loop ahead meant type_parser parsers most_levels same_keyword same_sign
thrown_201 = refl

-- ((..if (x) x else x { x }..))
branches_200 : refused_in (body (wrapped 196 (sign_of sign.OpenParenthesis ∷ []) (at (kind.Keyword word.If) ∷ c_in_parentheses ++ x ++ at (kind.Keyword word.Else) ∷ x ++ sign_of sign.OpenBrace ∷ x ++ sign_of sign.CloseBrace ∷ []) (sign_of sign.CloseParenthesis ∷ []))) ≡ None
unfolding file_parser further token skip on attempt loop ahead meant type_parser parsers most_levels same_keyword same_sign
branches_200 = refl

-- It is no call of the `if` with a lambda.
branches_201 : refused_in (body (wrapped 197 (sign_of sign.OpenParenthesis ∷ []) (at (kind.Keyword word.If) ∷ c_in_parentheses ++ x ++ at (kind.Keyword word.Else) ∷ x ++ sign_of sign.OpenBrace ∷ x ++ sign_of sign.CloseBrace ∷ []) (sign_of sign.CloseParenthesis ∷ []))) ≡ Some 210
unfolding file_parser further token skip on attempt loop ahead meant type_parser parsers most_levels same_keyword same_sign
branches_201 = refl
