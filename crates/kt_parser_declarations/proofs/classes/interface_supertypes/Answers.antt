use Rattle.std.proofs.Common.{rules}
use Rattle.kt_grammar.specs.DeclarationParser.{parent}
use Rattle.kt_parser_declarations.proofs.classes.interface_supertypes.Goals as goal

pub returns : goal.returns
returns c = c.supertypes.ensures parent (λ old new r e. search rules)
