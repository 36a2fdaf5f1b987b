use Rattle.std.proofs.Common.{rules}
use Rattle.kt_grammar.specs.DeclarationParser.{function_parser}
use Rattle.kt_grammar.specs.Declarations.{in_interface}
use Rattle.kt_parser_declarations.proofs.classes.interface_functions.Goals as goal

pub returns : goal.returns
returns c = c.members.ensures (function_parser in_interface) (λ old new r e. search rules)
