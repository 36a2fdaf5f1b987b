use Rattle.std.proofs.Common.{rules}
use Rattle.kt_grammar.specs.DeclarationParser.{top}
use Rattle.kt_grammar.specs.Declarations.{outside}
use Rattle.kt_parser_declarations.proofs.classes.argument_list.Goals as goal

pub returns : goal.returns
returns c = c.maybe_comma_list.ensures (top.disjunction outside) (λ old new r e. search rules)
