use Rattle.std.proofs.Common.{rules}
use Rattle.kt_grammar.specs.DeclarationParser.{constructor_parameter}
use Rattle.kt_parser_declarations.proofs.parameters.constructor_parameters_rest.Goals as goal

pub returns : goal.returns
returns c = c.maybe_comma_list.ensures constructor_parameter (λ old new r e. search rules)
