-- The tree of a source, and why it has none.
use Rattle.std.specs.Prelude.{ℕ, List, ◌⊎◌}
use Rattle.kt_base.specs.declared.refusals.Refusal.{Refusal}
use Rattle.kt_tree.specs.declared.tokens.Token.{Token}
use Rattle.kt_tree.specs.Declarations.{DeclarationTree}
use Rattle.kt_grammar.specs.Declarations.{IsFileOf}
use Rattle.kt_lexer.specs.Sources.{AreTokensOfSource, IsSourceRefused}
use Rattle.kt_parser.specs.Trees.{IsSyntaxRefused}

-- the source has tokens, and they are the file
abbrev pub IsTreeOf : List ℕ → List DeclarationTree → Type 0
IsTreeOf source file = (ts : List Token) × AreTokensOfSource source ts × IsFileOf ts file

-- the source is a file of the language
abbrev pub HasTree : List ℕ → Type 0
HasTree source = (file : List DeclarationTree) × IsTreeOf source file

-- the source has no tokens, or they are no file
abbrev pub IsRefused : List ℕ → Refusal → Type 0
IsRefused source r = IsSourceRefused source r ⊎ ((ts : List Token) × AreTokensOfSource source ts × IsSyntaxRefused ts r)
