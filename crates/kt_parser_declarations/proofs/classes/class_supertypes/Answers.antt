use Rattle.std.proofs.Common.{rules}
use Rattle.kt_grammar.specs.DeclarationParser.{supertype}
use Rattle.kt_parser_declarations.proofs.classes.class_supertypes.Goals as goal

pub returns : goal.returns
returns c = c.supertypes.ensures supertype (λ old new r e. search rules)
