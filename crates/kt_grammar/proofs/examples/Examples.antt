-- Worked examples: short lists of tokens, and the index of the token at which they are refused.
use Rattle.std.proofs.Common.{◌≡◌, ℕ, zero, suc, false, List, [], ◌∷◌, ◌++◌, None, Some, refl}
use Rattle.kt_tree.specs.declared.tokens.Token.{Token}
use Rattle.kt_tree.specs.declared.tokens.TokenKind.{TokenKind}
use Rattle.kt_tree.specs.declared.tokens.TokenKind.TheVariants as kind
use Rattle.kt_tree.specs.declared.tokens.Keyword.TheVariants as word
use Rattle.kt_tree.specs.declared.tokens.Sign.{Sign}
use Rattle.kt_tree.specs.declared.tokens.Sign.TheVariants as sign
use Rattle.kt_tree.specs.declared.tokens.SoftKeyword.{SoftKeyword}
use Rattle.kt_tree.specs.declared.tokens.SoftKeyword.TheVariants as soft
use Rattle.kt_tree.specs.Tokens.{same_keyword, same_sign, spelling}
use Rattle.kt_grammar_parsers.specs.Parsers.{further, token, skip, on, attempt, loop, ahead}
use Rattle.kt_grammar.specs.Readers.{meant, type_parser}
use Rattle.kt_grammar.specs.StatementParser.{parsers}
use Rattle.kt_grammar.specs.Declarations.{most_levels}
use Rattle.kt_grammar.specs.DeclarationParser.{file_parser, refused_in}

abbrev pub at : TokenKind → Token
at k = record { kind = k; pos = record { line = 1; column = 1 } }

abbrev pub name : List ℕ → Token
name x = at (kind.Identifier x)

abbrev pub soft_word : SoftKeyword → Token
soft_word w = name (spelling w)

abbrev pub number : ℕ → Token
number n = at (kind.Number (record { value = Some n; long = false }))

-- the tokens of a file
abbrev pub file : List Token → List Token
file ts = ts ++ at kind.End ∷ []

-- the tokens of a function's body, in a file
abbrev pub body : List Token → List Token
body ts = at (kind.Keyword word.Fun) ∷ name (102 ∷ []) ∷ at (kind.Sign sign.OpenParenthesis) ∷ at (kind.Sign sign.CloseParenthesis) ∷ at (kind.Sign sign.OpenBrace) ∷ (ts ++ at (kind.Sign sign.CloseBrace) ∷ at kind.End ∷ [])

-- if ( c ) if ( d ) f ( ) else g ( )
statement_1 : refused_in (body (at (kind.Keyword word.If) ∷ at (kind.Sign sign.OpenParenthesis) ∷ name (99 ∷ []) ∷ at (kind.Sign sign.CloseParenthesis) ∷ at (kind.Keyword word.If) ∷ at (kind.Sign sign.OpenParenthesis) ∷ name (100 ∷ []) ∷ at (kind.Sign sign.CloseParenthesis) ∷ name (102 ∷ []) ∷ at (kind.Sign sign.OpenParenthesis) ∷ at (kind.Sign sign.CloseParenthesis) ∷ at (kind.Keyword word.Else) ∷ name (103 ∷ []) ∷ at (kind.Sign sign.OpenParenthesis) ∷ at (kind.Sign sign.CloseParenthesis) ∷ [])) ≡ None
unfolding file_parser further token skip on attempt loop ahead meant type_parser parsers most_levels same_keyword same_sign
statement_1 = refl

-- f < A > ( x )
statement_2 : refused_in (body (name (102 ∷ []) ∷ at (kind.Sign sign.Less) ∷ name (65 ∷ []) ∷ at (kind.Sign sign.Greater) ∷ at (kind.Sign sign.OpenParenthesis) ∷ name (120 ∷ []) ∷ at (kind.Sign sign.CloseParenthesis) ∷ [])) ≡ None
unfolding file_parser further token skip on attempt loop ahead meant type_parser parsers most_levels same_keyword same_sign
statement_2 = refl

-- f < A
statement_3 : refused_in (body (name (102 ∷ []) ∷ at (kind.Sign sign.Less) ∷ name (65 ∷ []) ∷ [])) ≡ None
unfolding file_parser further token skip on attempt loop ahead meant type_parser parsers most_levels same_keyword same_sign
statement_3 = refl

-- f < A > { }
statement_4 : refused_in (body (name (102 ∷ []) ∷ at (kind.Sign sign.Less) ∷ name (65 ∷ []) ∷ at (kind.Sign sign.Greater) ∷ at (kind.Sign sign.OpenBrace) ∷ at (kind.Sign sign.CloseBrace) ∷ [])) ≡ None
unfolding file_parser further token skip on attempt loop ahead meant type_parser parsers most_levels same_keyword same_sign
statement_4 = refl

-- g ( a < b , c > ( d ) )
statement_5 : refused_in (body (name (103 ∷ []) ∷ at (kind.Sign sign.OpenParenthesis) ∷ name (97 ∷ []) ∷ at (kind.Sign sign.Less) ∷ name (98 ∷ []) ∷ at (kind.Sign sign.Comma) ∷ name (99 ∷ []) ∷ at (kind.Sign sign.Greater) ∷ at (kind.Sign sign.OpenParenthesis) ∷ name (100 ∷ []) ∷ at (kind.Sign sign.CloseParenthesis) ∷ at (kind.Sign sign.CloseParenthesis) ∷ [])) ≡ None
unfolding file_parser further token skip on attempt loop ahead meant type_parser parsers most_levels same_keyword same_sign
statement_5 = refl

-- g ( a < b , c > d )
statement_6 : refused_in (body (name (103 ∷ []) ∷ at (kind.Sign sign.OpenParenthesis) ∷ name (97 ∷ []) ∷ at (kind.Sign sign.Less) ∷ name (98 ∷ []) ∷ at (kind.Sign sign.Comma) ∷ name (99 ∷ []) ∷ at (kind.Sign sign.Greater) ∷ name (100 ∷ []) ∷ at (kind.Sign sign.CloseParenthesis) ∷ [])) ≡ None
unfolding file_parser further token skip on attempt loop ahead meant type_parser parsers most_levels same_keyword same_sign
statement_6 = refl

-- a < b > c
statement_7 : refused_in (body (name (97 ∷ []) ∷ at (kind.Sign sign.Less) ∷ name (98 ∷ []) ∷ at (kind.Sign sign.Greater) ∷ name (99 ∷ []) ∷ [])) ≡ Some 9
unfolding file_parser further token skip on attempt loop ahead meant type_parser parsers most_levels same_keyword same_sign
statement_7 = refl

-- a < b < c
statement_8 : refused_in (body (name (97 ∷ []) ∷ at (kind.Sign sign.Less) ∷ name (98 ∷ []) ∷ at (kind.Sign sign.Less) ∷ name (99 ∷ []) ∷ [])) ≡ Some 10
unfolding file_parser further token skip on attempt loop ahead meant type_parser parsers most_levels same_keyword same_sign
statement_8 = refl

-- f ( a , )
statement_9 : refused_in (body (name (102 ∷ []) ∷ at (kind.Sign sign.OpenParenthesis) ∷ name (97 ∷ []) ∷ at (kind.Sign sign.Comma) ∷ at (kind.Sign sign.CloseParenthesis) ∷ [])) ≡ Some 9
unfolding file_parser further token skip on attempt loop ahead meant type_parser parsers most_levels same_keyword same_sign
statement_9 = refl

-- f ( , a )
statement_10 : refused_in (body (name (102 ∷ []) ∷ at (kind.Sign sign.OpenParenthesis) ∷ at (kind.Sign sign.Comma) ∷ name (97 ∷ []) ∷ at (kind.Sign sign.CloseParenthesis) ∷ [])) ≡ Some 7
unfolding file_parser further token skip on attempt loop ahead meant type_parser parsers most_levels same_keyword same_sign
statement_10 = refl

-- f ( )
statement_11 : refused_in (body (name (102 ∷ []) ∷ at (kind.Sign sign.OpenParenthesis) ∷ at (kind.Sign sign.CloseParenthesis) ∷ [])) ≡ None
unfolding file_parser further token skip on attempt loop ahead meant type_parser parsers most_levels same_keyword same_sign
statement_11 = refl

-- f ( a , b ) { c }
statement_12 : refused_in (body (name (102 ∷ []) ∷ at (kind.Sign sign.OpenParenthesis) ∷ name (97 ∷ []) ∷ at (kind.Sign sign.Comma) ∷ name (98 ∷ []) ∷ at (kind.Sign sign.CloseParenthesis) ∷ at (kind.Sign sign.OpenBrace) ∷ name (99 ∷ []) ∷ at (kind.Sign sign.CloseBrace) ∷ [])) ≡ None
unfolding file_parser further token skip on attempt loop ahead meant type_parser parsers most_levels same_keyword same_sign
statement_12 = refl

-- f { } { }
statement_13 : refused_in (body (name (102 ∷ []) ∷ at (kind.Sign sign.OpenBrace) ∷ at (kind.Sign sign.CloseBrace) ∷ at (kind.Sign sign.OpenBrace) ∷ at (kind.Sign sign.CloseBrace) ∷ [])) ≡ None
unfolding file_parser further token skip on attempt loop ahead meant type_parser parsers most_levels same_keyword same_sign
statement_13 = refl

-- f ( x ) NL { }
statement_14 : refused_in (body (name (102 ∷ []) ∷ at (kind.Sign sign.OpenParenthesis) ∷ name (120 ∷ []) ∷ at (kind.Sign sign.CloseParenthesis) ∷ at kind.NewLine ∷ at (kind.Sign sign.OpenBrace) ∷ at (kind.Sign sign.CloseBrace) ∷ [])) ≡ Some 10
unfolding file_parser further token skip on attempt loop ahead meant type_parser parsers most_levels same_keyword same_sign
statement_14 = refl

-- try { }
statement_15 : refused_in (body (at (kind.Keyword word.Try) ∷ at (kind.Sign sign.OpenBrace) ∷ at (kind.Sign sign.CloseBrace) ∷ [])) ≡ Some 8
unfolding file_parser further token skip on attempt loop ahead meant type_parser parsers most_levels same_keyword same_sign
statement_15 = refl

-- try { } NL x
statement_16 : refused_in (body (at (kind.Keyword word.Try) ∷ at (kind.Sign sign.OpenBrace) ∷ at (kind.Sign sign.CloseBrace) ∷ at kind.NewLine ∷ name (120 ∷ []) ∷ [])) ≡ Some 9
unfolding file_parser further token skip on attempt loop ahead meant type_parser parsers most_levels same_keyword same_sign
statement_16 = refl

-- try { } catch ( e : E ) { }
statement_17 : refused_in (body (at (kind.Keyword word.Try) ∷ at (kind.Sign sign.OpenBrace) ∷ at (kind.Sign sign.CloseBrace) ∷ soft_word soft.Catch ∷ at (kind.Sign sign.OpenParenthesis) ∷ name (101 ∷ []) ∷ at (kind.Sign sign.Colon) ∷ name (69 ∷ []) ∷ at (kind.Sign sign.CloseParenthesis) ∷ at (kind.Sign sign.OpenBrace) ∷ at (kind.Sign sign.CloseBrace) ∷ [])) ≡ None
unfolding file_parser further token skip on attempt loop ahead meant type_parser parsers most_levels same_keyword same_sign
statement_17 = refl

-- try { } NL catch ( e : E ) { } NL finally { x }
statement_18 : refused_in (body (at (kind.Keyword word.Try) ∷ at (kind.Sign sign.OpenBrace) ∷ at (kind.Sign sign.CloseBrace) ∷ at kind.NewLine ∷ soft_word soft.Catch ∷ at (kind.Sign sign.OpenParenthesis) ∷ name (101 ∷ []) ∷ at (kind.Sign sign.Colon) ∷ name (69 ∷ []) ∷ at (kind.Sign sign.CloseParenthesis) ∷ at (kind.Sign sign.OpenBrace) ∷ at (kind.Sign sign.CloseBrace) ∷ at kind.NewLine ∷ soft_word soft.Finally ∷ at (kind.Sign sign.OpenBrace) ∷ name (120 ∷ []) ∷ at (kind.Sign sign.CloseBrace) ∷ [])) ≡ None
unfolding file_parser further token skip on attempt loop ahead meant type_parser parsers most_levels same_keyword same_sign
statement_18 = refl

-- try { } finally { }
statement_19 : refused_in (body (at (kind.Keyword word.Try) ∷ at (kind.Sign sign.OpenBrace) ∷ at (kind.Sign sign.CloseBrace) ∷ soft_word soft.Finally ∷ at (kind.Sign sign.OpenBrace) ∷ at (kind.Sign sign.CloseBrace) ∷ [])) ≡ None
unfolding file_parser further token skip on attempt loop ahead meant type_parser parsers most_levels same_keyword same_sign
statement_19 = refl

-- try { } catch ( e ) { }
statement_20 : refused_in (body (at (kind.Keyword word.Try) ∷ at (kind.Sign sign.OpenBrace) ∷ at (kind.Sign sign.CloseBrace) ∷ soft_word soft.Catch ∷ at (kind.Sign sign.OpenParenthesis) ∷ name (101 ∷ []) ∷ at (kind.Sign sign.CloseParenthesis) ∷ at (kind.Sign sign.OpenBrace) ∷ at (kind.Sign sign.CloseBrace) ∷ [])) ≡ Some 11
unfolding file_parser further token skip on attempt loop ahead meant type_parser parsers most_levels same_keyword same_sign
statement_20 = refl

-- if ( c ) a ; NL else b
statement_21 : refused_in (body (at (kind.Keyword word.If) ∷ at (kind.Sign sign.OpenParenthesis) ∷ name (99 ∷ []) ∷ at (kind.Sign sign.CloseParenthesis) ∷ name (97 ∷ []) ∷ at (kind.Sign sign.Semicolon) ∷ at kind.NewLine ∷ at (kind.Keyword word.Else) ∷ name (98 ∷ []) ∷ [])) ≡ None
unfolding file_parser further token skip on attempt loop ahead meant type_parser parsers most_levels same_keyword same_sign
statement_21 = refl

-- if ( c ) a NL else b
statement_22 : refused_in (body (at (kind.Keyword word.If) ∷ at (kind.Sign sign.OpenParenthesis) ∷ name (99 ∷ []) ∷ at (kind.Sign sign.CloseParenthesis) ∷ name (97 ∷ []) ∷ at kind.NewLine ∷ at (kind.Keyword word.Else) ∷ name (98 ∷ []) ∷ [])) ≡ None
unfolding file_parser further token skip on attempt loop ahead meant type_parser parsers most_levels same_keyword same_sign
statement_22 = refl

-- if ( c ) { } else { }
statement_23 : refused_in (body (at (kind.Keyword word.If) ∷ at (kind.Sign sign.OpenParenthesis) ∷ name (99 ∷ []) ∷ at (kind.Sign sign.CloseParenthesis) ∷ at (kind.Sign sign.OpenBrace) ∷ at (kind.Sign sign.CloseBrace) ∷ at (kind.Keyword word.Else) ∷ at (kind.Sign sign.OpenBrace) ∷ at (kind.Sign sign.CloseBrace) ∷ [])) ≡ None
unfolding file_parser further token skip on attempt loop ahead meant type_parser parsers most_levels same_keyword same_sign
statement_23 = refl

-- if ( c ) else a
statement_24 : refused_in (body (at (kind.Keyword word.If) ∷ at (kind.Sign sign.OpenParenthesis) ∷ name (99 ∷ []) ∷ at (kind.Sign sign.CloseParenthesis) ∷ at (kind.Keyword word.Else) ∷ name (97 ∷ []) ∷ [])) ≡ Some 9
unfolding file_parser further token skip on attempt loop ahead meant type_parser parsers most_levels same_keyword same_sign
statement_24 = refl

-- if ( c ) a ; b
statement_25 : refused_in (body (at (kind.Keyword word.If) ∷ at (kind.Sign sign.OpenParenthesis) ∷ name (99 ∷ []) ∷ at (kind.Sign sign.CloseParenthesis) ∷ name (97 ∷ []) ∷ at (kind.Sign sign.Semicolon) ∷ name (98 ∷ []) ∷ [])) ≡ None
unfolding file_parser further token skip on attempt loop ahead meant type_parser parsers most_levels same_keyword same_sign
statement_25 = refl

-- val x = if ( c ) 1 else 2
statement_26 : refused_in (body (at (kind.Keyword word.Val) ∷ name (120 ∷ []) ∷ at (kind.Sign sign.Assign) ∷ at (kind.Keyword word.If) ∷ at (kind.Sign sign.OpenParenthesis) ∷ name (99 ∷ []) ∷ at (kind.Sign sign.CloseParenthesis) ∷ number 1 ∷ at (kind.Keyword word.Else) ∷ number 2 ∷ [])) ≡ None
unfolding file_parser further token skip on attempt loop ahead meant type_parser parsers most_levels same_keyword same_sign
statement_26 = refl

-- when ( x ) { 1 -> if ( c ) a NL else -> b }
statement_27 : refused_in (body (at (kind.Keyword word.When) ∷ at (kind.Sign sign.OpenParenthesis) ∷ name (120 ∷ []) ∷ at (kind.Sign sign.CloseParenthesis) ∷ at (kind.Sign sign.OpenBrace) ∷ number 1 ∷ at (kind.Sign sign.Arrow) ∷ at (kind.Keyword word.If) ∷ at (kind.Sign sign.OpenParenthesis) ∷ name (99 ∷ []) ∷ at (kind.Sign sign.CloseParenthesis) ∷ name (97 ∷ []) ∷ at kind.NewLine ∷ at (kind.Keyword word.Else) ∷ at (kind.Sign sign.Arrow) ∷ name (98 ∷ []) ∷ at (kind.Sign sign.CloseBrace) ∷ [])) ≡ None
unfolding file_parser further token skip on attempt loop ahead meant type_parser parsers most_levels same_keyword same_sign
statement_27 = refl

-- when ( x ) { 1 -> if ( c ) a else b ; else -> d }
statement_28 : refused_in (body (at (kind.Keyword word.When) ∷ at (kind.Sign sign.OpenParenthesis) ∷ name (120 ∷ []) ∷ at (kind.Sign sign.CloseParenthesis) ∷ at (kind.Sign sign.OpenBrace) ∷ number 1 ∷ at (kind.Sign sign.Arrow) ∷ at (kind.Keyword word.If) ∷ at (kind.Sign sign.OpenParenthesis) ∷ name (99 ∷ []) ∷ at (kind.Sign sign.CloseParenthesis) ∷ name (97 ∷ []) ∷ at (kind.Keyword word.Else) ∷ name (98 ∷ []) ∷ at (kind.Sign sign.Semicolon) ∷ at (kind.Keyword word.Else) ∷ at (kind.Sign sign.Arrow) ∷ name (100 ∷ []) ∷ at (kind.Sign sign.CloseBrace) ∷ [])) ≡ None
unfolding file_parser further token skip on attempt loop ahead meant type_parser parsers most_levels same_keyword same_sign
statement_28 = refl

-- if ( c ) a else -> b
statement_29 : refused_in (body (at (kind.Keyword word.If) ∷ at (kind.Sign sign.OpenParenthesis) ∷ name (99 ∷ []) ∷ at (kind.Sign sign.CloseParenthesis) ∷ name (97 ∷ []) ∷ at (kind.Keyword word.Else) ∷ at (kind.Sign sign.Arrow) ∷ name (98 ∷ []) ∷ [])) ≡ Some 11
unfolding file_parser further token skip on attempt loop ahead meant type_parser parsers most_levels same_keyword same_sign
statement_29 = refl

-- x NL . f ( )
statement_30 : refused_in (body (name (120 ∷ []) ∷ at kind.NewLine ∷ at (kind.Sign sign.Dot) ∷ name (102 ∷ []) ∷ at (kind.Sign sign.OpenParenthesis) ∷ at (kind.Sign sign.CloseParenthesis) ∷ [])) ≡ None
unfolding file_parser further token skip on attempt loop ahead meant type_parser parsers most_levels same_keyword same_sign
statement_30 = refl

-- x ?. y NL ?. z
statement_31 : refused_in (body (name (120 ∷ []) ∷ at (kind.Sign sign.SafeDot) ∷ name (121 ∷ []) ∷ at kind.NewLine ∷ at (kind.Sign sign.SafeDot) ∷ name (122 ∷ []) ∷ [])) ≡ None
unfolding file_parser further token skip on attempt loop ahead meant type_parser parsers most_levels same_keyword same_sign
statement_31 = refl

-- - a . b
statement_32 : refused_in (body (at (kind.Sign sign.Minus) ∷ name (97 ∷ []) ∷ at (kind.Sign sign.Dot) ∷ name (98 ∷ []) ∷ [])) ≡ None
unfolding file_parser further token skip on attempt loop ahead meant type_parser parsers most_levels same_keyword same_sign
statement_32 = refl

-- ! - a
statement_33 : refused_in (body (at (kind.Sign sign.Not) ∷ at (kind.Sign sign.Minus) ∷ name (97 ∷ []) ∷ [])) ≡ None
unfolding file_parser further token skip on attempt loop ahead meant type_parser parsers most_levels same_keyword same_sign
statement_33 = refl

-- a as B < c
statement_34 : refused_in (body (name (97 ∷ []) ∷ at (kind.Keyword word.As) ∷ name (66 ∷ []) ∷ at (kind.Sign sign.Less) ∷ name (99 ∷ []) ∷ [])) ≡ None
unfolding file_parser further token skip on attempt loop ahead meant type_parser parsers most_levels same_keyword same_sign
statement_34 = refl

-- a as? B ?: c
statement_35 : refused_in (body (name (97 ∷ []) ∷ at (kind.Sign sign.SafeAs) ∷ name (66 ∷ []) ∷ at (kind.Sign sign.Elvis) ∷ name (99 ∷ []) ∷ [])) ≡ None
unfolding file_parser further token skip on attempt loop ahead meant type_parser parsers most_levels same_keyword same_sign
statement_35 = refl

-- a as B ? as C
statement_36 : refused_in (body (name (97 ∷ []) ∷ at (kind.Keyword word.As) ∷ name (66 ∷ []) ∷ at (kind.Sign sign.Question) ∷ at (kind.Keyword word.As) ∷ name (67 ∷ []) ∷ [])) ≡ None
unfolding file_parser further token skip on attempt loop ahead meant type_parser parsers most_levels same_keyword same_sign
statement_36 = refl

-- val f : ( Int ) -> Int ? = g
statement_37 : refused_in (body (at (kind.Keyword word.Val) ∷ name (102 ∷ []) ∷ at (kind.Sign sign.Colon) ∷ at (kind.Sign sign.OpenParenthesis) ∷ name (73 ∷ 110 ∷ 116 ∷ []) ∷ at (kind.Sign sign.CloseParenthesis) ∷ at (kind.Sign sign.Arrow) ∷ name (73 ∷ 110 ∷ 116 ∷ []) ∷ at (kind.Sign sign.Question) ∷ at (kind.Sign sign.Assign) ∷ name (103 ∷ []) ∷ [])) ≡ None
unfolding file_parser further token skip on attempt loop ahead meant type_parser parsers most_levels same_keyword same_sign
statement_37 = refl

-- val f : suspend ( ) -> Unit
statement_38 : refused_in (body (at (kind.Keyword word.Val) ∷ name (102 ∷ []) ∷ at (kind.Sign sign.Colon) ∷ soft_word soft.Suspend ∷ at (kind.Sign sign.OpenParenthesis) ∷ at (kind.Sign sign.CloseParenthesis) ∷ at (kind.Sign sign.Arrow) ∷ name (85 ∷ 110 ∷ 105 ∷ 116 ∷ []) ∷ [])) ≡ None
unfolding file_parser further token skip on attempt loop ahead meant type_parser parsers most_levels same_keyword same_sign
statement_38 = refl

-- val f : suspend
statement_39 : refused_in (body (at (kind.Keyword word.Val) ∷ name (102 ∷ []) ∷ at (kind.Sign sign.Colon) ∷ soft_word soft.Suspend ∷ [])) ≡ None
unfolding file_parser further token skip on attempt loop ahead meant type_parser parsers most_levels same_keyword same_sign
statement_39 = refl

-- val f : ( A , B < C > ) -> ( D ) ?
statement_40 : refused_in (body (at (kind.Keyword word.Val) ∷ name (102 ∷ []) ∷ at (kind.Sign sign.Colon) ∷ at (kind.Sign sign.OpenParenthesis) ∷ name (65 ∷ []) ∷ at (kind.Sign sign.Comma) ∷ name (66 ∷ []) ∷ at (kind.Sign sign.Less) ∷ name (67 ∷ []) ∷ at (kind.Sign sign.Greater) ∷ at (kind.Sign sign.CloseParenthesis) ∷ at (kind.Sign sign.Arrow) ∷ at (kind.Sign sign.OpenParenthesis) ∷ name (68 ∷ []) ∷ at (kind.Sign sign.CloseParenthesis) ∷ at (kind.Sign sign.Question) ∷ [])) ≡ None
unfolding file_parser further token skip on attempt loop ahead meant type_parser parsers most_levels same_keyword same_sign
statement_40 = refl

-- val f : ( A , B )
statement_41 : refused_in (body (at (kind.Keyword word.Val) ∷ name (102 ∷ []) ∷ at (kind.Sign sign.Colon) ∷ at (kind.Sign sign.OpenParenthesis) ∷ name (65 ∷ []) ∷ at (kind.Sign sign.Comma) ∷ name (66 ∷ []) ∷ at (kind.Sign sign.CloseParenthesis) ∷ [])) ≡ Some 13
unfolding file_parser further token skip on attempt loop ahead meant type_parser parsers most_levels same_keyword same_sign
statement_41 = refl

-- val f : ( ) -> A ? ?
statement_42 : refused_in (body (at (kind.Keyword word.Val) ∷ name (102 ∷ []) ∷ at (kind.Sign sign.Colon) ∷ at (kind.Sign sign.OpenParenthesis) ∷ at (kind.Sign sign.CloseParenthesis) ∷ at (kind.Sign sign.Arrow) ∷ name (65 ∷ []) ∷ at (kind.Sign sign.Question) ∷ at (kind.Sign sign.Question) ∷ [])) ≡ Some 13
unfolding file_parser further token skip on attempt loop ahead meant type_parser parsers most_levels same_keyword same_sign
statement_42 = refl

-- val f : ( A ) ?
statement_43 : refused_in (body (at (kind.Keyword word.Val) ∷ name (102 ∷ []) ∷ at (kind.Sign sign.Colon) ∷ at (kind.Sign sign.OpenParenthesis) ∷ name (65 ∷ []) ∷ at (kind.Sign sign.CloseParenthesis) ∷ at (kind.Sign sign.Question) ∷ [])) ≡ None
unfolding file_parser further token skip on attempt loop ahead meant type_parser parsers most_levels same_keyword same_sign
statement_43 = refl

-- val f = { a , b -> a }
statement_44 : refused_in (body (at (kind.Keyword word.Val) ∷ name (102 ∷ []) ∷ at (kind.Sign sign.Assign) ∷ at (kind.Sign sign.OpenBrace) ∷ name (97 ∷ []) ∷ at (kind.Sign sign.Comma) ∷ name (98 ∷ []) ∷ at (kind.Sign sign.Arrow) ∷ name (97 ∷ []) ∷ at (kind.Sign sign.CloseBrace) ∷ [])) ≡ None
unfolding file_parser further token skip on attempt loop ahead meant type_parser parsers most_levels same_keyword same_sign
statement_44 = refl

-- val f = { a : Int -> NL a ; b NL }
statement_45 : refused_in (body (at (kind.Keyword word.Val) ∷ name (102 ∷ []) ∷ at (kind.Sign sign.Assign) ∷ at (kind.Sign sign.OpenBrace) ∷ name (97 ∷ []) ∷ at (kind.Sign sign.Colon) ∷ name (73 ∷ 110 ∷ 116 ∷ []) ∷ at (kind.Sign sign.Arrow) ∷ at kind.NewLine ∷ name (97 ∷ []) ∷ at (kind.Sign sign.Semicolon) ∷ name (98 ∷ []) ∷ at kind.NewLine ∷ at (kind.Sign sign.CloseBrace) ∷ [])) ≡ None
unfolding file_parser further token skip on attempt loop ahead meant type_parser parsers most_levels same_keyword same_sign
statement_45 = refl

-- val f = { }
statement_46 : refused_in (body (at (kind.Keyword word.Val) ∷ name (102 ∷ []) ∷ at (kind.Sign sign.Assign) ∷ at (kind.Sign sign.OpenBrace) ∷ at (kind.Sign sign.CloseBrace) ∷ [])) ≡ None
unfolding file_parser further token skip on attempt loop ahead meant type_parser parsers most_levels same_keyword same_sign
statement_46 = refl

-- { a }
statement_47 : refused_in (body (at (kind.Sign sign.OpenBrace) ∷ name (97 ∷ []) ∷ at (kind.Sign sign.CloseBrace) ∷ [])) ≡ Some 5
unfolding file_parser further token skip on attempt loop ahead meant type_parser parsers most_levels same_keyword same_sign
statement_47 = refl

-- if ( c ) { a } NL b
statement_48 : refused_in (body (at (kind.Keyword word.If) ∷ at (kind.Sign sign.OpenParenthesis) ∷ name (99 ∷ []) ∷ at (kind.Sign sign.CloseParenthesis) ∷ at (kind.Sign sign.OpenBrace) ∷ name (97 ∷ []) ∷ at (kind.Sign sign.CloseBrace) ∷ at kind.NewLine ∷ name (98 ∷ []) ∷ [])) ≡ None
unfolding file_parser further token skip on attempt loop ahead meant type_parser parsers most_levels same_keyword same_sign
statement_48 = refl

-- while ( c ) f { break }
statement_49 : refused_in (body (at (kind.Keyword word.While) ∷ at (kind.Sign sign.OpenParenthesis) ∷ name (99 ∷ []) ∷ at (kind.Sign sign.CloseParenthesis) ∷ name (102 ∷ []) ∷ at (kind.Sign sign.OpenBrace) ∷ at (kind.Keyword word.Break) ∷ at (kind.Sign sign.CloseBrace) ∷ [])) ≡ Some 11
unfolding file_parser further token skip on attempt loop ahead meant type_parser parsers most_levels same_keyword same_sign
statement_49 = refl

-- while ( c ) break
statement_50 : refused_in (body (at (kind.Keyword word.While) ∷ at (kind.Sign sign.OpenParenthesis) ∷ name (99 ∷ []) ∷ at (kind.Sign sign.CloseParenthesis) ∷ at (kind.Keyword word.Break) ∷ [])) ≡ None
unfolding file_parser further token skip on attempt loop ahead meant type_parser parsers most_levels same_keyword same_sign
statement_50 = refl

-- break
statement_51 : refused_in (body (at (kind.Keyword word.Break) ∷ [])) ≡ Some 5
unfolding file_parser further token skip on attempt loop ahead meant type_parser parsers most_levels same_keyword same_sign
statement_51 = refl

-- while ( c ) { continue }
statement_52 : refused_in (body (at (kind.Keyword word.While) ∷ at (kind.Sign sign.OpenParenthesis) ∷ name (99 ∷ []) ∷ at (kind.Sign sign.CloseParenthesis) ∷ at (kind.Sign sign.OpenBrace) ∷ at (kind.Keyword word.Continue) ∷ at (kind.Sign sign.CloseBrace) ∷ [])) ≡ None
unfolding file_parser further token skip on attempt loop ahead meant type_parser parsers most_levels same_keyword same_sign
statement_52 = refl

-- do { break } while ( c )
statement_53 : refused_in (body (at (kind.Keyword word.Do) ∷ at (kind.Sign sign.OpenBrace) ∷ at (kind.Keyword word.Break) ∷ at (kind.Sign sign.CloseBrace) ∷ at (kind.Keyword word.While) ∷ at (kind.Sign sign.OpenParenthesis) ∷ name (99 ∷ []) ∷ at (kind.Sign sign.CloseParenthesis) ∷ [])) ≡ None
unfolding file_parser further token skip on attempt loop ahead meant type_parser parsers most_levels same_keyword same_sign
statement_53 = refl

-- do x
statement_54 : refused_in (body (at (kind.Keyword word.Do) ∷ name (120 ∷ []) ∷ [])) ≡ Some 6
unfolding file_parser further token skip on attempt loop ahead meant type_parser parsers most_levels same_keyword same_sign
statement_54 = refl

-- while ( break ) { }
statement_55 : refused_in (body (at (kind.Keyword word.While) ∷ at (kind.Sign sign.OpenParenthesis) ∷ at (kind.Keyword word.Break) ∷ at (kind.Sign sign.CloseParenthesis) ∷ at (kind.Sign sign.OpenBrace) ∷ at (kind.Sign sign.CloseBrace) ∷ [])) ≡ Some 7
unfolding file_parser further token skip on attempt loop ahead meant type_parser parsers most_levels same_keyword same_sign
statement_55 = refl

-- f { return }
statement_56 : refused_in (body (name (102 ∷ []) ∷ at (kind.Sign sign.OpenBrace) ∷ at (kind.Keyword word.Return) ∷ at (kind.Sign sign.CloseBrace) ∷ [])) ≡ Some 7
unfolding file_parser further token skip on attempt loop ahead meant type_parser parsers most_levels same_keyword same_sign
statement_56 = refl

-- return
statement_57 : refused_in (body (at (kind.Keyword word.Return) ∷ [])) ≡ None
unfolding file_parser further token skip on attempt loop ahead meant type_parser parsers most_levels same_keyword same_sign
statement_57 = refl

-- return ( )
statement_return_called : refused_in (body (at (kind.Keyword word.Return) ∷ at (kind.Sign sign.OpenParenthesis) ∷ at (kind.Sign sign.CloseParenthesis) ∷ [])) ≡ Some 7
unfolding file_parser further token skip on attempt loop ahead meant type_parser parsers most_levels same_keyword same_sign
statement_return_called = refl

-- return 1 + 2
statement_58 : refused_in (body (at (kind.Keyword word.Return) ∷ number 1 ∷ at (kind.Sign sign.Plus) ∷ number 2 ∷ [])) ≡ None
unfolding file_parser further token skip on attempt loop ahead meant type_parser parsers most_levels same_keyword same_sign
statement_58 = refl

-- throw a
statement_59 : refused_in (body (at (kind.Keyword word.Throw) ∷ name (97 ∷ []) ∷ [])) ≡ None
unfolding file_parser further token skip on attempt loop ahead meant type_parser parsers most_levels same_keyword same_sign
statement_59 = refl

-- throw
statement_60 : refused_in (body (at (kind.Keyword word.Throw) ∷ [])) ≡ Some 6
unfolding file_parser further token skip on attempt loop ahead meant type_parser parsers most_levels same_keyword same_sign
statement_60 = refl

-- a + return NL b
statement_61 : refused_in (body (name (97 ∷ []) ∷ at (kind.Sign sign.Plus) ∷ at (kind.Keyword word.Return) ∷ at kind.NewLine ∷ name (98 ∷ []) ∷ [])) ≡ None
unfolding file_parser further token skip on attempt loop ahead meant type_parser parsers most_levels same_keyword same_sign
statement_61 = refl

-- a = b
statement_62 : refused_in (body (name (97 ∷ []) ∷ at (kind.Sign sign.Assign) ∷ name (98 ∷ []) ∷ [])) ≡ None
unfolding file_parser further token skip on attempt loop ahead meant type_parser parsers most_levels same_keyword same_sign
statement_62 = refl

-- a + b = c
statement_63 : refused_in (body (name (97 ∷ []) ∷ at (kind.Sign sign.Plus) ∷ name (98 ∷ []) ∷ at (kind.Sign sign.Assign) ∷ name (99 ∷ []) ∷ [])) ≡ Some 8
unfolding file_parser further token skip on attempt loop ahead meant type_parser parsers most_levels same_keyword same_sign
statement_63 = refl

-- a . b = c
statement_64 : refused_in (body (name (97 ∷ []) ∷ at (kind.Sign sign.Dot) ∷ name (98 ∷ []) ∷ at (kind.Sign sign.Assign) ∷ name (99 ∷ []) ∷ [])) ≡ None
unfolding file_parser further token skip on attempt loop ahead meant type_parser parsers most_levels same_keyword same_sign
statement_64 = refl

-- a ?. b = c
statement_65 : refused_in (body (name (97 ∷ []) ∷ at (kind.Sign sign.SafeDot) ∷ name (98 ∷ []) ∷ at (kind.Sign sign.Assign) ∷ name (99 ∷ []) ∷ [])) ≡ Some 8
unfolding file_parser further token skip on attempt loop ahead meant type_parser parsers most_levels same_keyword same_sign
statement_65 = refl

-- a [ 0 ] += 1
statement_66 : refused_in (body (name (97 ∷ []) ∷ at (kind.Sign sign.OpenBracket) ∷ number 0 ∷ at (kind.Sign sign.CloseBracket) ∷ at (kind.Sign sign.PlusAssign) ∷ number 1 ∷ [])) ≡ None
unfolding file_parser further token skip on attempt loop ahead meant type_parser parsers most_levels same_keyword same_sign
statement_66 = refl

-- a ++
statement_67 : refused_in (body (name (97 ∷ []) ∷ at (kind.Sign sign.Increment) ∷ [])) ≡ None
unfolding file_parser further token skip on attempt loop ahead meant type_parser parsers most_levels same_keyword same_sign
statement_67 = refl

-- ( a ) = b
statement_68 : refused_in (body (at (kind.Sign sign.OpenParenthesis) ∷ name (97 ∷ []) ∷ at (kind.Sign sign.CloseParenthesis) ∷ at (kind.Sign sign.Assign) ∷ name (98 ∷ []) ∷ [])) ≡ Some 8
unfolding file_parser further token skip on attempt loop ahead meant type_parser parsers most_levels same_keyword same_sign
statement_68 = refl

-- f ( ) = b
statement_69 : refused_in (body (name (102 ∷ []) ∷ at (kind.Sign sign.OpenParenthesis) ∷ at (kind.Sign sign.CloseParenthesis) ∷ at (kind.Sign sign.Assign) ∷ name (98 ∷ []) ∷ [])) ≡ Some 8
unfolding file_parser further token skip on attempt loop ahead meant type_parser parsers most_levels same_keyword same_sign
statement_69 = refl

-- a = b = c
statement_70 : refused_in (body (name (97 ∷ []) ∷ at (kind.Sign sign.Assign) ∷ name (98 ∷ []) ∷ at (kind.Sign sign.Assign) ∷ name (99 ∷ []) ∷ [])) ≡ Some 8
unfolding file_parser further token skip on attempt loop ahead meant type_parser parsers most_levels same_keyword same_sign
statement_70 = refl

-- val x
statement_71 : refused_in (body (at (kind.Keyword word.Val) ∷ name (120 ∷ []) ∷ [])) ≡ None
unfolding file_parser further token skip on attempt loop ahead meant type_parser parsers most_levels same_keyword same_sign
statement_71 = refl

-- val x : Int = NL 1
statement_72 : refused_in (body (at (kind.Keyword word.Val) ∷ name (120 ∷ []) ∷ at (kind.Sign sign.Colon) ∷ name (73 ∷ 110 ∷ 116 ∷ []) ∷ at (kind.Sign sign.Assign) ∷ at kind.NewLine ∷ number 1 ∷ [])) ≡ None
unfolding file_parser further token skip on attempt loop ahead meant type_parser parsers most_levels same_keyword same_sign
statement_72 = refl

-- val = 1
statement_73 : refused_in (body (at (kind.Keyword word.Val) ∷ at (kind.Sign sign.Assign) ∷ number 1 ∷ [])) ≡ Some 6
unfolding file_parser further token skip on attempt loop ahead meant type_parser parsers most_levels same_keyword same_sign
statement_73 = refl

-- var x = 1 y
statement_74 : refused_in (body (at (kind.Keyword word.Var) ∷ name (120 ∷ []) ∷ at (kind.Sign sign.Assign) ∷ number 1 ∷ name (121 ∷ []) ∷ [])) ≡ Some 9
unfolding file_parser further token skip on attempt loop ahead meant type_parser parsers most_levels same_keyword same_sign
statement_74 = refl

-- for ( i in a .. b ) c
statement_75 : refused_in (body (at (kind.Keyword word.For) ∷ at (kind.Sign sign.OpenParenthesis) ∷ name (105 ∷ []) ∷ at (kind.Keyword word.In) ∷ name (97 ∷ []) ∷ at (kind.Sign sign.Range) ∷ name (98 ∷ []) ∷ at (kind.Sign sign.CloseParenthesis) ∷ name (99 ∷ []) ∷ [])) ≡ None
unfolding file_parser further token skip on attempt loop ahead meant type_parser parsers most_levels same_keyword same_sign
statement_75 = refl

-- for ( i in a until b ) { break }
statement_76 : refused_in (body (at (kind.Keyword word.For) ∷ at (kind.Sign sign.OpenParenthesis) ∷ name (105 ∷ []) ∷ at (kind.Keyword word.In) ∷ name (97 ∷ []) ∷ soft_word soft.Until ∷ name (98 ∷ []) ∷ at (kind.Sign sign.CloseParenthesis) ∷ at (kind.Sign sign.OpenBrace) ∷ at (kind.Keyword word.Break) ∷ at (kind.Sign sign.CloseBrace) ∷ [])) ≡ None
unfolding file_parser further token skip on attempt loop ahead meant type_parser parsers most_levels same_keyword same_sign
statement_76 = refl

-- for ( i in a , b ) c
statement_77 : refused_in (body (at (kind.Keyword word.For) ∷ at (kind.Sign sign.OpenParenthesis) ∷ name (105 ∷ []) ∷ at (kind.Keyword word.In) ∷ name (97 ∷ []) ∷ at (kind.Sign sign.Comma) ∷ name (98 ∷ []) ∷ at (kind.Sign sign.CloseParenthesis) ∷ name (99 ∷ []) ∷ [])) ≡ Some 10
unfolding file_parser further token skip on attempt loop ahead meant type_parser parsers most_levels same_keyword same_sign
statement_77 = refl

-- when ( x ) { 1 -> a ; is Int , 2 -> b NL else -> c }
statement_78 : refused_in (body (at (kind.Keyword word.When) ∷ at (kind.Sign sign.OpenParenthesis) ∷ name (120 ∷ []) ∷ at (kind.Sign sign.CloseParenthesis) ∷ at (kind.Sign sign.OpenBrace) ∷ number 1 ∷ at (kind.Sign sign.Arrow) ∷ name (97 ∷ []) ∷ at (kind.Sign sign.Semicolon) ∷ at (kind.Keyword word.Is) ∷ name (73 ∷ 110 ∷ 116 ∷ []) ∷ at (kind.Sign sign.Comma) ∷ number 2 ∷ at (kind.Sign sign.Arrow) ∷ name (98 ∷ []) ∷ at kind.NewLine ∷ at (kind.Keyword word.Else) ∷ at (kind.Sign sign.Arrow) ∷ name (99 ∷ []) ∷ at (kind.Sign sign.CloseBrace) ∷ [])) ≡ None
unfolding file_parser further token skip on attempt loop ahead meant type_parser parsers most_levels same_keyword same_sign
statement_78 = refl

-- when { is Int -> a }
statement_79 : refused_in (body (at (kind.Keyword word.When) ∷ at (kind.Sign sign.OpenBrace) ∷ at (kind.Keyword word.Is) ∷ name (73 ∷ 110 ∷ 116 ∷ []) ∷ at (kind.Sign sign.Arrow) ∷ name (97 ∷ []) ∷ at (kind.Sign sign.CloseBrace) ∷ [])) ≡ Some 7
unfolding file_parser further token skip on attempt loop ahead meant type_parser parsers most_levels same_keyword same_sign
statement_79 = refl

-- when { }
statement_80 : refused_in (body (at (kind.Keyword word.When) ∷ at (kind.Sign sign.OpenBrace) ∷ at (kind.Sign sign.CloseBrace) ∷ [])) ≡ None
unfolding file_parser further token skip on attempt loop ahead meant type_parser parsers most_levels same_keyword same_sign
statement_80 = refl

-- when NL { a NL -> { } }
statement_81 : refused_in (body (at (kind.Keyword word.When) ∷ at kind.NewLine ∷ at (kind.Sign sign.OpenBrace) ∷ name (97 ∷ []) ∷ at kind.NewLine ∷ at (kind.Sign sign.Arrow) ∷ at (kind.Sign sign.OpenBrace) ∷ at (kind.Sign sign.CloseBrace) ∷ at (kind.Sign sign.CloseBrace) ∷ [])) ≡ None
unfolding file_parser further token skip on attempt loop ahead meant type_parser parsers most_levels same_keyword same_sign
statement_81 = refl

-- when ( x ) { else , 1 -> a }
statement_82 : refused_in (body (at (kind.Keyword word.When) ∷ at (kind.Sign sign.OpenParenthesis) ∷ name (120 ∷ []) ∷ at (kind.Sign sign.CloseParenthesis) ∷ at (kind.Sign sign.OpenBrace) ∷ at (kind.Keyword word.Else) ∷ at (kind.Sign sign.Comma) ∷ number 1 ∷ at (kind.Sign sign.Arrow) ∷ name (97 ∷ []) ∷ at (kind.Sign sign.CloseBrace) ∷ [])) ≡ Some 11
unfolding file_parser further token skip on attempt loop ahead meant type_parser parsers most_levels same_keyword same_sign
statement_82 = refl

-- a NL ?: b
statement_83 : refused_in (body (name (97 ∷ []) ∷ at kind.NewLine ∷ at (kind.Sign sign.Elvis) ∷ name (98 ∷ []) ∷ [])) ≡ None
unfolding file_parser further token skip on attempt loop ahead meant type_parser parsers most_levels same_keyword same_sign
statement_83 = refl

-- a NL && b NL || c
statement_84 : refused_in (body (name (97 ∷ []) ∷ at kind.NewLine ∷ at (kind.Sign sign.Conjunction) ∷ name (98 ∷ []) ∷ at kind.NewLine ∷ at (kind.Sign sign.Disjunction) ∷ name (99 ∷ []) ∷ [])) ≡ None
unfolding file_parser further token skip on attempt loop ahead meant type_parser parsers most_levels same_keyword same_sign
statement_84 = refl

-- a NL + b
statement_85 : refused_in (body (name (97 ∷ []) ∷ at kind.NewLine ∷ at (kind.Sign sign.Plus) ∷ name (98 ∷ []) ∷ [])) ≡ Some 7
unfolding file_parser further token skip on attempt loop ahead meant type_parser parsers most_levels same_keyword same_sign
statement_85 = refl

-- a NL - b
statement_86 : refused_in (body (name (97 ∷ []) ∷ at kind.NewLine ∷ at (kind.Sign sign.Minus) ∷ name (98 ∷ []) ∷ [])) ≡ None
unfolding file_parser further token skip on attempt loop ahead meant type_parser parsers most_levels same_keyword same_sign
statement_86 = refl

-- a + NL b
statement_87 : refused_in (body (name (97 ∷ []) ∷ at (kind.Sign sign.Plus) ∷ at kind.NewLine ∷ name (98 ∷ []) ∷ [])) ≡ None
unfolding file_parser further token skip on attempt loop ahead meant type_parser parsers most_levels same_keyword same_sign
statement_87 = refl

-- a == b == c
statement_88 : refused_in (body (name (97 ∷ []) ∷ at (kind.Sign sign.Equal) ∷ name (98 ∷ []) ∷ at (kind.Sign sign.Equal) ∷ name (99 ∷ []) ∷ [])) ≡ None
unfolding file_parser further token skip on attempt loop ahead meant type_parser parsers most_levels same_keyword same_sign
statement_88 = refl

-- a is B
statement_89 : refused_in (body (name (97 ∷ []) ∷ at (kind.Keyword word.Is) ∷ name (66 ∷ []) ∷ [])) ≡ None
unfolding file_parser further token skip on attempt loop ahead meant type_parser parsers most_levels same_keyword same_sign
statement_89 = refl

-- a !is B
statement_90 : refused_in (body (name (97 ∷ []) ∷ at (kind.Sign sign.NotIs) ∷ name (66 ∷ []) ∷ [])) ≡ None
unfolding file_parser further token skip on attempt loop ahead meant type_parser parsers most_levels same_keyword same_sign
statement_90 = refl

-- a is B is C
statement_91 : refused_in (body (name (97 ∷ []) ∷ at (kind.Keyword word.Is) ∷ name (66 ∷ []) ∷ at (kind.Keyword word.Is) ∷ name (67 ∷ []) ∷ [])) ≡ Some 8
unfolding file_parser further token skip on attempt loop ahead meant type_parser parsers most_levels same_keyword same_sign
statement_91 = refl

-- a and b or c
statement_92 : refused_in (body (name (97 ∷ []) ∷ soft_word soft.And ∷ name (98 ∷ []) ∷ soft_word soft.Or ∷ name (99 ∷ []) ∷ [])) ≡ None
unfolding file_parser further token skip on attempt loop ahead meant type_parser parsers most_levels same_keyword same_sign
statement_92 = refl

-- 1 shl 2
statement_93 : refused_in (body (number 1 ∷ soft_word soft.Shl ∷ number 2 ∷ [])) ≡ None
unfolding file_parser further token skip on attempt loop ahead meant type_parser parsers most_levels same_keyword same_sign
statement_93 = refl

-- a . 1
statement_94 : refused_in (body (name (97 ∷ []) ∷ at (kind.Sign sign.Dot) ∷ number 1 ∷ [])) ≡ Some 7
unfolding file_parser further token skip on attempt loop ahead meant type_parser parsers most_levels same_keyword same_sign
statement_94 = refl

-- a !! . b [ 0 ] ( c )
statement_95 : refused_in (body (name (97 ∷ []) ∷ at (kind.Sign sign.NotNull) ∷ at (kind.Sign sign.Dot) ∷ name (98 ∷ []) ∷ at (kind.Sign sign.OpenBracket) ∷ number 0 ∷ at (kind.Sign sign.CloseBracket) ∷ at (kind.Sign sign.OpenParenthesis) ∷ name (99 ∷ []) ∷ at (kind.Sign sign.CloseParenthesis) ∷ [])) ≡ None
unfolding file_parser further token skip on attempt loop ahead meant type_parser parsers most_levels same_keyword same_sign
statement_95 = refl

-- " RUN ESC $ "
statement_96 : refused_in (body (at kind.OpenQuote ∷ at (kind.Run (65 ∷ [])) ∷ at (kind.Escape 10) ∷ at kind.Dollar ∷ at kind.CloseQuote ∷ [])) ≡ None
unfolding file_parser further token skip on attempt loop ahead meant type_parser parsers most_levels same_keyword same_sign
statement_96 = refl

-- " ${ x } $x $this "
statement_97 : refused_in (body (at kind.OpenQuote ∷ at kind.OpenTemplate ∷ name (120 ∷ []) ∷ at (kind.Sign sign.CloseBrace) ∷ at (kind.NamePart (120 ∷ [])) ∷ at kind.ThisPart ∷ at kind.CloseQuote ∷ [])) ≡ None
unfolding file_parser further token skip on attempt loop ahead meant type_parser parsers most_levels same_keyword same_sign
statement_97 = refl

-- " ${ } "
statement_98 : refused_in (body (at kind.OpenQuote ∷ at kind.OpenTemplate ∷ at (kind.Sign sign.CloseBrace) ∷ at kind.CloseQuote ∷ [])) ≡ Some 7
unfolding file_parser further token skip on attempt loop ahead meant type_parser parsers most_levels same_keyword same_sign
statement_98 = refl

-- true == null
statement_99 : refused_in (body (at (kind.Keyword word.True) ∷ at (kind.Sign sign.Equal) ∷ at (kind.Keyword word.Null) ∷ [])) ≡ None
unfolding file_parser further token skip on attempt loop ahead meant type_parser parsers most_levels same_keyword same_sign
statement_99 = refl

-- 'c'
statement_100 : refused_in (body (at (kind.Character 99) ∷ [])) ≡ None
unfolding file_parser further token skip on attempt loop ahead meant type_parser parsers most_levels same_keyword same_sign
statement_100 = refl

-- this . x
statement_101 : refused_in (body (at (kind.Keyword word.This) ∷ at (kind.Sign sign.Dot) ∷ name (120 ∷ []) ∷ [])) ≡ None
unfolding file_parser further token skip on attempt loop ahead meant type_parser parsers most_levels same_keyword same_sign
statement_101 = refl

-- ( )
statement_102 : refused_in (body (at (kind.Sign sign.OpenParenthesis) ∷ at (kind.Sign sign.CloseParenthesis) ∷ [])) ≡ Some 6
unfolding file_parser further token skip on attempt loop ahead meant type_parser parsers most_levels same_keyword same_sign
statement_102 = refl

-- fun
statement_103 : refused_in (body (at (kind.Keyword word.Fun) ∷ [])) ≡ Some 5
unfolding file_parser further token skip on attempt loop ahead meant type_parser parsers most_levels same_keyword same_sign
statement_103 = refl

-- x : Int
statement_104 : refused_in (body (name (120 ∷ []) ∷ at (kind.Sign sign.Colon) ∷ name (73 ∷ 110 ∷ 116 ∷ []) ∷ [])) ≡ Some 6
unfolding file_parser further token skip on attempt loop ahead meant type_parser parsers most_levels same_keyword same_sign
statement_104 = refl

--
declaration_1 : refused_in (file ([])) ≡ None
unfolding file_parser further token skip on attempt loop ahead meant type_parser parsers most_levels same_keyword same_sign
declaration_1 = refl

-- NL ; fun f ( ) { } ; NL
declaration_2 : refused_in (file (at kind.NewLine ∷ at (kind.Sign sign.Semicolon) ∷ at (kind.Keyword word.Fun) ∷ name (102 ∷ []) ∷ at (kind.Sign sign.OpenParenthesis) ∷ at (kind.Sign sign.CloseParenthesis) ∷ at (kind.Sign sign.OpenBrace) ∷ at (kind.Sign sign.CloseBrace) ∷ at (kind.Sign sign.Semicolon) ∷ at kind.NewLine ∷ [])) ≡ None
unfolding file_parser further token skip on attempt loop ahead meant type_parser parsers most_levels same_keyword same_sign
declaration_2 = refl

-- fun f ( ) { } fun g ( ) { }
declaration_3 : refused_in (file (at (kind.Keyword word.Fun) ∷ name (102 ∷ []) ∷ at (kind.Sign sign.OpenParenthesis) ∷ at (kind.Sign sign.CloseParenthesis) ∷ at (kind.Sign sign.OpenBrace) ∷ at (kind.Sign sign.CloseBrace) ∷ at (kind.Keyword word.Fun) ∷ name (103 ∷ []) ∷ at (kind.Sign sign.OpenParenthesis) ∷ at (kind.Sign sign.CloseParenthesis) ∷ at (kind.Sign sign.OpenBrace) ∷ at (kind.Sign sign.CloseBrace) ∷ [])) ≡ Some 6
unfolding file_parser further token skip on attempt loop ahead meant type_parser parsers most_levels same_keyword same_sign
declaration_3 = refl

-- fun f ( a : Int , ) { }
declaration_4 : refused_in (file (at (kind.Keyword word.Fun) ∷ name (102 ∷ []) ∷ at (kind.Sign sign.OpenParenthesis) ∷ name (97 ∷ []) ∷ at (kind.Sign sign.Colon) ∷ name (73 ∷ 110 ∷ 116 ∷ []) ∷ at (kind.Sign sign.Comma) ∷ at (kind.Sign sign.CloseParenthesis) ∷ at (kind.Sign sign.OpenBrace) ∷ at (kind.Sign sign.CloseBrace) ∷ [])) ≡ Some 7
unfolding file_parser further token skip on attempt loop ahead meant type_parser parsers most_levels same_keyword same_sign
declaration_4 = refl

-- fun f ( ) : Int = 1
declaration_5 : refused_in (file (at (kind.Keyword word.Fun) ∷ name (102 ∷ []) ∷ at (kind.Sign sign.OpenParenthesis) ∷ at (kind.Sign sign.CloseParenthesis) ∷ at (kind.Sign sign.Colon) ∷ name (73 ∷ 110 ∷ 116 ∷ []) ∷ at (kind.Sign sign.Assign) ∷ number 1 ∷ [])) ≡ None
unfolding file_parser further token skip on attempt loop ahead meant type_parser parsers most_levels same_keyword same_sign
declaration_5 = refl

-- fun f ( ) = 1
declaration_6 : refused_in (file (at (kind.Keyword word.Fun) ∷ name (102 ∷ []) ∷ at (kind.Sign sign.OpenParenthesis) ∷ at (kind.Sign sign.CloseParenthesis) ∷ at (kind.Sign sign.Assign) ∷ number 1 ∷ [])) ≡ Some 4
unfolding file_parser further token skip on attempt loop ahead meant type_parser parsers most_levels same_keyword same_sign
declaration_6 = refl

-- fun f ( )
declaration_7 : refused_in (file (at (kind.Keyword word.Fun) ∷ name (102 ∷ []) ∷ at (kind.Sign sign.OpenParenthesis) ∷ at (kind.Sign sign.CloseParenthesis) ∷ [])) ≡ Some 4
unfolding file_parser further token skip on attempt loop ahead meant type_parser parsers most_levels same_keyword same_sign
declaration_7 = refl

-- abstract fun f ( )
declaration_8 : refused_in (file (soft_word soft.Abstract ∷ at (kind.Keyword word.Fun) ∷ name (102 ∷ []) ∷ at (kind.Sign sign.OpenParenthesis) ∷ at (kind.Sign sign.CloseParenthesis) ∷ [])) ≡ None
unfolding file_parser further token skip on attempt loop ahead meant type_parser parsers most_levels same_keyword same_sign
declaration_8 = refl

-- fun < T > f ( x : T ) NL { }
declaration_9 : refused_in (file (at (kind.Keyword word.Fun) ∷ at (kind.Sign sign.Less) ∷ name (84 ∷ []) ∷ at (kind.Sign sign.Greater) ∷ name (102 ∷ []) ∷ at (kind.Sign sign.OpenParenthesis) ∷ name (120 ∷ []) ∷ at (kind.Sign sign.Colon) ∷ name (84 ∷ []) ∷ at (kind.Sign sign.CloseParenthesis) ∷ at kind.NewLine ∷ at (kind.Sign sign.OpenBrace) ∷ at (kind.Sign sign.CloseBrace) ∷ [])) ≡ None
unfolding file_parser further token skip on attempt loop ahead meant type_parser parsers most_levels same_keyword same_sign
declaration_9 = refl

-- suspend fun main ( ) { }
declaration_10 : refused_in (file (soft_word soft.Suspend ∷ at (kind.Keyword word.Fun) ∷ name (109 ∷ 97 ∷ 105 ∷ 110 ∷ []) ∷ at (kind.Sign sign.OpenParenthesis) ∷ at (kind.Sign sign.CloseParenthesis) ∷ at (kind.Sign sign.OpenBrace) ∷ at (kind.Sign sign.CloseBrace) ∷ [])) ≡ None
unfolding file_parser further token skip on attempt loop ahead meant type_parser parsers most_levels same_keyword same_sign
declaration_10 = refl

-- suspend suspend fun f ( ) { }
declaration_11 : refused_in (file (soft_word soft.Suspend ∷ soft_word soft.Suspend ∷ at (kind.Keyword word.Fun) ∷ name (102 ∷ []) ∷ at (kind.Sign sign.OpenParenthesis) ∷ at (kind.Sign sign.CloseParenthesis) ∷ at (kind.Sign sign.OpenBrace) ∷ at (kind.Sign sign.CloseBrace) ∷ [])) ≡ Some 1
unfolding file_parser further token skip on attempt loop ahead meant type_parser parsers most_levels same_keyword same_sign
declaration_11 = refl

-- open open class A
declaration_12 : refused_in (file (soft_word soft.Open ∷ soft_word soft.Open ∷ at (kind.Keyword word.Class) ∷ name (65 ∷ []) ∷ [])) ≡ Some 1
unfolding file_parser further token skip on attempt loop ahead meant type_parser parsers most_levels same_keyword same_sign
declaration_12 = refl

-- data class P ( val x : Int , y : Int )
declaration_13 : refused_in (file (soft_word soft.Data ∷ at (kind.Keyword word.Class) ∷ name (80 ∷ []) ∷ at (kind.Sign sign.OpenParenthesis) ∷ at (kind.Keyword word.Val) ∷ name (120 ∷ []) ∷ at (kind.Sign sign.Colon) ∷ name (73 ∷ 110 ∷ 116 ∷ []) ∷ at (kind.Sign sign.Comma) ∷ name (121 ∷ []) ∷ at (kind.Sign sign.Colon) ∷ name (73 ∷ 110 ∷ 116 ∷ []) ∷ at (kind.Sign sign.CloseParenthesis) ∷ [])) ≡ None
unfolding file_parser further token skip on attempt loop ahead meant type_parser parsers most_levels same_keyword same_sign
declaration_13 = refl

-- class A < T : B > ( x : Int ) : C ( x ) , NL D NL { val y : Int = 1 ; fun f ( ) { } }
declaration_14 : refused_in (file (at (kind.Keyword word.Class) ∷ name (65 ∷ []) ∷ at (kind.Sign sign.Less) ∷ name (84 ∷ []) ∷ at (kind.Sign sign.Colon) ∷ name (66 ∷ []) ∷ at (kind.Sign sign.Greater) ∷ at (kind.Sign sign.OpenParenthesis) ∷ name (120 ∷ []) ∷ at (kind.Sign sign.Colon) ∷ name (73 ∷ 110 ∷ 116 ∷ []) ∷ at (kind.Sign sign.CloseParenthesis) ∷ at (kind.Sign sign.Colon) ∷ name (67 ∷ []) ∷ at (kind.Sign sign.OpenParenthesis) ∷ name (120 ∷ []) ∷ at (kind.Sign sign.CloseParenthesis) ∷ at (kind.Sign sign.Comma) ∷ at kind.NewLine ∷ name (68 ∷ []) ∷ at kind.NewLine ∷ at (kind.Sign sign.OpenBrace) ∷ at (kind.Keyword word.Val) ∷ name (121 ∷ []) ∷ at (kind.Sign sign.Colon) ∷ name (73 ∷ 110 ∷ 116 ∷ []) ∷ at (kind.Sign sign.Assign) ∷ number 1 ∷ at (kind.Sign sign.Semicolon) ∷ at (kind.Keyword word.Fun) ∷ name (102 ∷ []) ∷ at (kind.Sign sign.OpenParenthesis) ∷ at (kind.Sign sign.CloseParenthesis) ∷ at (kind.Sign sign.OpenBrace) ∷ at (kind.Sign sign.CloseBrace) ∷ at (kind.Sign sign.CloseBrace) ∷ [])) ≡ None
unfolding file_parser further token skip on attempt loop ahead meant type_parser parsers most_levels same_keyword same_sign
declaration_14 = refl

-- class A { fun < T > f ( ) { } }
declaration_15 : refused_in (file (at (kind.Keyword word.Class) ∷ name (65 ∷ []) ∷ at (kind.Sign sign.OpenBrace) ∷ at (kind.Keyword word.Fun) ∷ at (kind.Sign sign.Less) ∷ name (84 ∷ []) ∷ at (kind.Sign sign.Greater) ∷ name (102 ∷ []) ∷ at (kind.Sign sign.OpenParenthesis) ∷ at (kind.Sign sign.CloseParenthesis) ∷ at (kind.Sign sign.OpenBrace) ∷ at (kind.Sign sign.CloseBrace) ∷ at (kind.Sign sign.CloseBrace) ∷ [])) ≡ Some 4
unfolding file_parser further token skip on attempt loop ahead meant type_parser parsers most_levels same_keyword same_sign
declaration_15 = refl

-- class A { val x : Int }
declaration_16 : refused_in (file (at (kind.Keyword word.Class) ∷ name (65 ∷ []) ∷ at (kind.Sign sign.OpenBrace) ∷ at (kind.Keyword word.Val) ∷ name (120 ∷ []) ∷ at (kind.Sign sign.Colon) ∷ name (73 ∷ 110 ∷ 116 ∷ []) ∷ at (kind.Sign sign.CloseBrace) ∷ [])) ≡ Some 7
unfolding file_parser further token skip on attempt loop ahead meant type_parser parsers most_levels same_keyword same_sign
declaration_16 = refl

-- class A { abstract fun f ( ) NL override suspend fun g ( ) { } }
declaration_17 : refused_in (file (at (kind.Keyword word.Class) ∷ name (65 ∷ []) ∷ at (kind.Sign sign.OpenBrace) ∷ soft_word soft.Abstract ∷ at (kind.Keyword word.Fun) ∷ name (102 ∷ []) ∷ at (kind.Sign sign.OpenParenthesis) ∷ at (kind.Sign sign.CloseParenthesis) ∷ at kind.NewLine ∷ soft_word soft.Override ∷ soft_word soft.Suspend ∷ at (kind.Keyword word.Fun) ∷ name (103 ∷ []) ∷ at (kind.Sign sign.OpenParenthesis) ∷ at (kind.Sign sign.CloseParenthesis) ∷ at (kind.Sign sign.OpenBrace) ∷ at (kind.Sign sign.CloseBrace) ∷ at (kind.Sign sign.CloseBrace) ∷ [])) ≡ None
unfolding file_parser further token skip on attempt loop ahead meant type_parser parsers most_levels same_keyword same_sign
declaration_17 = refl

-- interface I { fun f ( ) : Int NL fun g ( ) }
declaration_18 : refused_in (file (at (kind.Keyword word.Interface) ∷ name (73 ∷ []) ∷ at (kind.Sign sign.OpenBrace) ∷ at (kind.Keyword word.Fun) ∷ name (102 ∷ []) ∷ at (kind.Sign sign.OpenParenthesis) ∷ at (kind.Sign sign.CloseParenthesis) ∷ at (kind.Sign sign.Colon) ∷ name (73 ∷ 110 ∷ 116 ∷ []) ∷ at kind.NewLine ∷ at (kind.Keyword word.Fun) ∷ name (103 ∷ []) ∷ at (kind.Sign sign.OpenParenthesis) ∷ at (kind.Sign sign.CloseParenthesis) ∷ at (kind.Sign sign.CloseBrace) ∷ [])) ≡ None
unfolding file_parser further token skip on attempt loop ahead meant type_parser parsers most_levels same_keyword same_sign
declaration_18 = refl

-- interface I { fun f ( ) { } }
declaration_19 : refused_in (file (at (kind.Keyword word.Interface) ∷ name (73 ∷ []) ∷ at (kind.Sign sign.OpenBrace) ∷ at (kind.Keyword word.Fun) ∷ name (102 ∷ []) ∷ at (kind.Sign sign.OpenParenthesis) ∷ at (kind.Sign sign.CloseParenthesis) ∷ at (kind.Sign sign.OpenBrace) ∷ at (kind.Sign sign.CloseBrace) ∷ at (kind.Sign sign.CloseBrace) ∷ [])) ≡ Some 7
unfolding file_parser further token skip on attempt loop ahead meant type_parser parsers most_levels same_keyword same_sign
declaration_19 = refl

-- interface I : J ( )
declaration_20 : refused_in (file (at (kind.Keyword word.Interface) ∷ name (73 ∷ []) ∷ at (kind.Sign sign.Colon) ∷ name (74 ∷ []) ∷ at (kind.Sign sign.OpenParenthesis) ∷ at (kind.Sign sign.CloseParenthesis) ∷ [])) ≡ Some 4
unfolding file_parser further token skip on attempt loop ahead meant type_parser parsers most_levels same_keyword same_sign
declaration_20 = refl

-- interface I : J < A > , K
declaration_21 : refused_in (file (at (kind.Keyword word.Interface) ∷ name (73 ∷ []) ∷ at (kind.Sign sign.Colon) ∷ name (74 ∷ []) ∷ at (kind.Sign sign.Less) ∷ name (65 ∷ []) ∷ at (kind.Sign sign.Greater) ∷ at (kind.Sign sign.Comma) ∷ name (75 ∷ []) ∷ [])) ≡ None
unfolding file_parser further token skip on attempt loop ahead meant type_parser parsers most_levels same_keyword same_sign
declaration_21 = refl

-- class A : B < C > ( )
declaration_22 : refused_in (file (at (kind.Keyword word.Class) ∷ name (65 ∷ []) ∷ at (kind.Sign sign.Colon) ∷ name (66 ∷ []) ∷ at (kind.Sign sign.Less) ∷ name (67 ∷ []) ∷ at (kind.Sign sign.Greater) ∷ at (kind.Sign sign.OpenParenthesis) ∷ at (kind.Sign sign.CloseParenthesis) ∷ [])) ≡ None
unfolding file_parser further token skip on attempt loop ahead meant type_parser parsers most_levels same_keyword same_sign
declaration_22 = refl

-- enum class E { A , B }
declaration_23 : refused_in (file (soft_word soft.Enum ∷ at (kind.Keyword word.Class) ∷ name (69 ∷ []) ∷ at (kind.Sign sign.OpenBrace) ∷ name (65 ∷ []) ∷ at (kind.Sign sign.Comma) ∷ name (66 ∷ []) ∷ at (kind.Sign sign.CloseBrace) ∷ [])) ≡ None
unfolding file_parser further token skip on attempt loop ahead meant type_parser parsers most_levels same_keyword same_sign
declaration_23 = refl

-- enum class E { }
declaration_24 : refused_in (file (soft_word soft.Enum ∷ at (kind.Keyword word.Class) ∷ name (69 ∷ []) ∷ at (kind.Sign sign.OpenBrace) ∷ at (kind.Sign sign.CloseBrace) ∷ [])) ≡ Some 4
unfolding file_parser further token skip on attempt loop ahead meant type_parser parsers most_levels same_keyword same_sign
declaration_24 = refl

-- enum class E { A , }
declaration_25 : refused_in (file (soft_word soft.Enum ∷ at (kind.Keyword word.Class) ∷ name (69 ∷ []) ∷ at (kind.Sign sign.OpenBrace) ∷ name (65 ∷ []) ∷ at (kind.Sign sign.Comma) ∷ at (kind.Sign sign.CloseBrace) ∷ [])) ≡ Some 6
unfolding file_parser further token skip on attempt loop ahead meant type_parser parsers most_levels same_keyword same_sign
declaration_25 = refl

-- enum class E { NL A NL , NL B NL }
declaration_26 : refused_in (file (soft_word soft.Enum ∷ at (kind.Keyword word.Class) ∷ name (69 ∷ []) ∷ at (kind.Sign sign.OpenBrace) ∷ at kind.NewLine ∷ name (65 ∷ []) ∷ at kind.NewLine ∷ at (kind.Sign sign.Comma) ∷ at kind.NewLine ∷ name (66 ∷ []) ∷ at kind.NewLine ∷ at (kind.Sign sign.CloseBrace) ∷ [])) ≡ None
unfolding file_parser further token skip on attempt loop ahead meant type_parser parsers most_levels same_keyword same_sign
declaration_26 = refl

-- const val X = - 1
declaration_27 : refused_in (file (soft_word soft.Const ∷ at (kind.Keyword word.Val) ∷ name (88 ∷ []) ∷ at (kind.Sign sign.Assign) ∷ at (kind.Sign sign.Minus) ∷ number 1 ∷ [])) ≡ None
unfolding file_parser further token skip on attempt loop ahead meant type_parser parsers most_levels same_keyword same_sign
declaration_27 = refl

-- const val S : String = NL " RUN "
declaration_28 : refused_in (file (soft_word soft.Const ∷ at (kind.Keyword word.Val) ∷ name (83 ∷ []) ∷ at (kind.Sign sign.Colon) ∷ name (83 ∷ 116 ∷ 114 ∷ 105 ∷ 110 ∷ 103 ∷ []) ∷ at (kind.Sign sign.Assign) ∷ at kind.NewLine ∷ at kind.OpenQuote ∷ at (kind.Run (65 ∷ [])) ∷ at kind.CloseQuote ∷ [])) ≡ None
unfolding file_parser further token skip on attempt loop ahead meant type_parser parsers most_levels same_keyword same_sign
declaration_28 = refl

-- const val S = " $x "
declaration_29 : refused_in (file (soft_word soft.Const ∷ at (kind.Keyword word.Val) ∷ name (83 ∷ []) ∷ at (kind.Sign sign.Assign) ∷ at kind.OpenQuote ∷ at (kind.NamePart (120 ∷ [])) ∷ at kind.CloseQuote ∷ [])) ≡ Some 5
unfolding file_parser further token skip on attempt loop ahead meant type_parser parsers most_levels same_keyword same_sign
declaration_29 = refl

-- const val X = a
declaration_30 : refused_in (file (soft_word soft.Const ∷ at (kind.Keyword word.Val) ∷ name (88 ∷ []) ∷ at (kind.Sign sign.Assign) ∷ name (97 ∷ []) ∷ [])) ≡ Some 4
unfolding file_parser further token skip on attempt loop ahead meant type_parser parsers most_levels same_keyword same_sign
declaration_30 = refl

-- val x = 1
declaration_31 : refused_in (file (at (kind.Keyword word.Val) ∷ name (120 ∷ []) ∷ at (kind.Sign sign.Assign) ∷ number 1 ∷ [])) ≡ Some 0
unfolding file_parser further token skip on attempt loop ahead meant type_parser parsers most_levels same_keyword same_sign
declaration_31 = refl
