use Rattle.std.proofs.Common.{rules}
use Rattle.kt_grammar.specs.DeclarationParser.{class_word}
use Rattle.kt_parser_declarations.proofs.files.class_word_ahead.Goals as goal

pub returns : goal.returns
returns c = c.part_if.ensures class_word (λ old new r e. search rules)
