use Rattle.std.proofs.Common.{rules}
use Rattle.kt_grammar.specs.DeclarationParser.{enum_entry}
use Rattle.kt_parser_declarations.proofs.Items.{as_themselves}
use Rattle.kt_parser_declarations.proofs.constants.enum_entries.Goals as goal

pub returns : goal.returns
returns c = as_themselves _ _ _ (c.several.ensures enum_entry (λ old new r e. search rules))
