use Rattle.std.proofs.Common.{rules}
use Rattle.kt_grammar.specs.DeclarationParser.{member}
use Rattle.kt_parser_declarations.proofs.classes.class_members.Goals as goal

pub returns : goal.returns
returns c = c.members.ensures member (λ old new r e. search rules)
