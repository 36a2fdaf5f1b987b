-- The laws on expressions and statements.
use Rattle.std.proofs.Common.{◌≡◌, ℕ, suc, true, List, [], refl}
use Rattle.kt_tree.specs.declared.tokens.Token.{Token}
use Rattle.kt_tree.specs.declared.tokens.TokenKind.{TokenKind}
use Rattle.kt_grammar_parsers.specs.Parsers.{Parser, cursor, some_levels}
use Rattle.kt_grammar_parsers.specs.Sentences.{OneValue}
use Rattle.kt_grammar.specs.Statements.{phrases}
use Rattle.kt_grammar.specs.StatementParser.{parsers}
use Rattle.kt_grammar.specs.Laws.{
  SentencesAreRead,
  ReadsSentences,
  RefusesFirst,
  OneExpression,
  ExpressionIsRead,
  ExpressionIsRefused,
  ExpressionReadsExpressions,
  OneStatement,
  StatementIsRead,
  StatementIsRefused,
  StatementReadsStatements,
}
use Rattle.kt_grammar_parsers.proofs.Steps.{Any}
use Rattle.kt_grammar_parsers.proofs.On.{Phrase}
use Rattle.kt_grammar.proofs.parts.Sequences.{Closes, phrase_of}
use Rattle.kt_grammar_parsers.proofs.Whole.{one_value, read_is_sentence, sentence_is_read, refused_at_first}
use Rattle.kt_grammar.proofs.parts.Below.{IsExpressionRead}
use Rattle.kt_grammar.proofs.parts.Productions.{from_read}
use Rattle.kt_grammar.proofs.statements.LevelsRead.{levels_read}

pub a_level : (n : ℕ) → some_levels (parsers (suc n)).levels ≡ true
unfolding parsers
a_level n = refl

module _ {A : Type 0} (p : Parser Token A) (L : A → List Token → List Token → Type 0) {test : TokenKind → _} {left : _} (R : IsExpressionRead left p L test) (there : left ≡ true) where
  some : Phrase L (λ _. Closes)
  some = phrase_of (from_read R there)

  one : OneValue L
  one = one_value p L Any (λ _. Closes) (R.correct there) (λ a. tt) (λ a. refl) some

  read : SentencesAreRead p L
  read = sentence_is_read p L Any (λ _. Closes) (R.correct there) (λ a. tt) (λ a. refl) some

  only : ReadsSentences p L
  only ts a far e = read_is_sentence p L Any (λ _. Closes) (R.correct there) (λ a. tt) (λ a. refl) some ts a (cursor [] far) e refl

  refused : RefusesFirst p L
  refused = refused_at_first p L Any (λ _. Closes) (R.correct there) (λ a. tt) (λ a. refl) some

pub one_expression : OneExpression
one_expression n at = one ((parsers (suc n)).disjunction at) ((phrases (suc n)).disjunction at) ((levels_read (suc n)).disjunction at) (a_level n)

pub expression_is_read : ExpressionIsRead
expression_is_read n at = read ((parsers (suc n)).disjunction at) ((phrases (suc n)).disjunction at) ((levels_read (suc n)).disjunction at) (a_level n)

pub expression_reads_expressions : ExpressionReadsExpressions
expression_reads_expressions n at = only ((parsers (suc n)).disjunction at) ((phrases (suc n)).disjunction at) ((levels_read (suc n)).disjunction at) (a_level n)

pub expression_is_refused : ExpressionIsRefused
expression_is_refused n at = refused ((parsers (suc n)).disjunction at) ((phrases (suc n)).disjunction at) ((levels_read (suc n)).disjunction at) (a_level n)

pub one_statement : OneStatement
one_statement n at = one ((parsers (suc n)).statement at) ((phrases (suc n)).statement at) ((levels_read (suc n)).statement at) (a_level n)

pub statement_is_read : StatementIsRead
statement_is_read n at = read ((parsers (suc n)).statement at) ((phrases (suc n)).statement at) ((levels_read (suc n)).statement at) (a_level n)

pub statement_reads_statements : StatementReadsStatements
statement_reads_statements n at = only ((parsers (suc n)).statement at) ((phrases (suc n)).statement at) ((levels_read (suc n)).statement at) (a_level n)

pub statement_is_refused : StatementIsRefused
statement_is_refused n at = refused ((parsers (suc n)).statement at) ((phrases (suc n)).statement at) ((levels_read (suc n)).statement at) (a_level n)
