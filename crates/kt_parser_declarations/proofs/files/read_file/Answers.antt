use Rattle.std.proofs.Common.{rules}
use Rattle.kt_grammar.specs.DeclarationParser.{declaration_parser, file_parser}
use Rattle.kt_parser_declarations.proofs.files.read_file.Goals as goal

pub returns : goal.returns
unfolding file_parser
returns c = c.items_until.ensures declaration_parser (λ old new r e. search rules)
