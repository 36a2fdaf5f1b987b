use Rattle.std.proofs.Common.{rules}
use Rattle.kt_grammar.specs.DeclarationParser.{type_parameter}
use Rattle.kt_parser_declarations.proofs.parameters.type_parameters_rest.Goals as goal

pub returns : goal.returns
returns c = c.comma_list.ensures type_parameter (λ old new r e. search rules)
