use Rattle.std.proofs.Common.{rules}
use Rattle.kt_grammar.specs.DeclarationParser.{typed_parameter}
use Rattle.kt_parser_declarations.proofs.parameters.parameters_rest.Goals as goal

pub returns : goal.returns
returns c = c.maybe_comma_list.ensures typed_parameter (λ old new r e. search rules)
