-- What the public laws say.
use Rattle.std.specs.Prelude.{◌≡◌, ℕ, suc, ◌-◌, ◌≤◌, List, [], length, Ok, Err}
use Rattle.kt_tree.specs.declared.tokens.Token.{Token}
use Rattle.kt_tree.specs.Declarations.{DeclarationTree}
use Rattle.kt_tree.specs.Levels.{file_levels}
use Rattle.kt_grammar_parsers.specs.Parsers.{Parser, cursor}
use Rattle.kt_grammar_parsers.specs.Sentences.{IsSentence, IsRefusedAt, OneValue}
use Rattle.kt_grammar.specs.Types.{IsType}
use Rattle.kt_grammar.specs.Readers.{type_parser}
use Rattle.kt_grammar.specs.declared.context.Context.{Context}
use Rattle.kt_grammar.specs.Statements.{phrases}
use Rattle.kt_grammar.specs.StatementParser.{parsers}
use Rattle.kt_grammar.specs.Declarations.{IsFile, IsFileOf}
use Rattle.kt_grammar.specs.DeclarationParser.{file_parser}

-- each sentence is read by the parser
abbrev pub SentencesAreRead : {A : Type 0} → Parser Token A → (A → List Token → List Token → Type 0) → Type 0
SentencesAreRead {A} p L = (ts : List Token) (a : A) → IsSentence L ts a → (far : List Token)
    × (p (cursor ts ts) ≡ Ok (a, cursor [] far))

-- what the parser reads to the end is a sentence
abbrev pub ReadsSentences : {A : Type 0} → Parser Token A → (A → List Token → List Token → Type 0) → Type 0
ReadsSentences {A} p L = (ts : List Token) (a : A) (far : List Token) → p (cursor ts ts) ≡ Ok (a, cursor [] far)
    → IsSentence L ts a

-- what the parser refuses is the first token that no sentence has there
abbrev pub RefusesFirst : {A : Type 0} → Parser Token A → (A → List Token → List Token → Type 0) → Type 0
RefusesFirst p L = (ts k : List Token) → p (cursor ts ts) ≡ Err k → IsRefusedAt L ts (length ts - length k)

-- a list of tokens spells at most one type
abbrev pub OneType : Type 0
OneType = (n : ℕ) → OneValue (IsType (suc n))

abbrev pub TypeIsRead : Type 0
TypeIsRead = (n : ℕ) → SentencesAreRead (type_parser (suc n)) (IsType (suc n))

abbrev pub TypeReadsTypes : Type 0
TypeReadsTypes = (n : ℕ) → ReadsSentences (type_parser (suc n)) (IsType (suc n))

abbrev pub TypeIsRefused : Type 0
TypeIsRefused = (n : ℕ) → RefusesFirst (type_parser (suc n)) (IsType (suc n))

-- a list of tokens spells at most one expression, of any number of levels and wherever it stands
abbrev pub OneExpression : Type 0
OneExpression = (n : ℕ) (at : Context) → OneValue ((phrases (suc n)).disjunction at)

abbrev pub ExpressionIsRead : Type 0
ExpressionIsRead = (n : ℕ) (at : Context)
    → SentencesAreRead ((parsers (suc n)).disjunction at) ((phrases (suc n)).disjunction at)

abbrev pub ExpressionReadsExpressions : Type 0
ExpressionReadsExpressions = (n : ℕ) (at : Context)
    → ReadsSentences ((parsers (suc n)).disjunction at) ((phrases (suc n)).disjunction at)

abbrev pub ExpressionIsRefused : Type 0
ExpressionIsRefused = (n : ℕ) (at : Context)
    → RefusesFirst ((parsers (suc n)).disjunction at) ((phrases (suc n)).disjunction at)

-- a list of tokens spells at most one statement
abbrev pub OneStatement : Type 0
OneStatement = (n : ℕ) (at : Context) → OneValue ((phrases (suc n)).statement at)

abbrev pub StatementIsRead : Type 0
StatementIsRead = (n : ℕ) (at : Context)
    → SentencesAreRead ((parsers (suc n)).statement at) ((phrases (suc n)).statement at)

abbrev pub StatementReadsStatements : Type 0
StatementReadsStatements = (n : ℕ) (at : Context)
    → ReadsSentences ((parsers (suc n)).statement at) ((phrases (suc n)).statement at)

abbrev pub StatementIsRefused : Type 0
StatementIsRefused = (n : ℕ) (at : Context)
    → RefusesFirst ((parsers (suc n)).statement at) ((phrases (suc n)).statement at)

abbrev pub FileIsRead : Type 0
FileIsRead = SentencesAreRead file_parser IsFile

abbrev pub FileReadsFiles : Type 0
FileReadsFiles = ReadsSentences file_parser IsFile

abbrev pub FileIsRefused : Type 0
FileIsRefused = RefusesFirst file_parser IsFile

-- a file has at most 200 levels
abbrev pub FileHasLevels : Type 0
FileHasLevels = (ts : List Token) (file : List DeclarationTree) → IsFileOf ts file → file_levels file ≤ 200
