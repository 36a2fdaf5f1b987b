-- The rows of binary operators, and the sign before a member.
use Rattle.std.specs.Prelude.{Bool}
use Rattle.kt_tree.specs.declared.tokens.Token.{Token}
use Rattle.kt_tree.specs.declared.bodies.BinaryOperator.{BinaryOperator}
use Rattle.kt_grammar_parsers.specs.Parsers.{Parser, ◌>>◌}
use Rattle.kt_grammar.specs.Readers.{lines, meant}
use Rattle.kt_grammar.specs.Terminals.{disjunction_of, conjunction_of, equality_of, comparison_of, elvis_of, infix_of, additive_of, multiplicative_of, member_of}
use Rattle.kt_parser_steps.specs.declared.meanings.BinaryLevel.{BinaryLevel}
use Rattle.kt_parser_steps.specs.declared.meanings.BinaryLevel.TheVariants as level

-- an operator of a row; those that bind least may stand behind line ends
abbrev pub operator_of : BinaryLevel → Parser Token (Token × BinaryOperator)
operator_of level.Disjunction = lines >> meant disjunction_of
operator_of level.Conjunction = lines >> meant conjunction_of
operator_of level.Equality = meant equality_of
operator_of level.Comparison = meant comparison_of
operator_of level.Elvis = lines >> meant elvis_of
operator_of level.Infix = meant infix_of
operator_of level.Additive = meant additive_of
operator_of level.Multiplicative = meant multiplicative_of

-- `.` or `?.`, which may stand behind line ends
abbrev pub member_sign : Parser Token (Token × Bool)
member_sign = lines >> meant member_of
