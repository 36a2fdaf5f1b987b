use Rattle.kt_grammar.specs.DeclarationParser.{class_word}
use Rattle.kt_parser_steps.proofs.Choosing.{attempt_reads, attempt_skips}
use Rattle.kt_parser_declarations.specs.Openings.{opening_tree}
use Rattle.kt_parser_declarations.proofs.files.class_or_function.Goals as goal

pub returns-in-Some : goal.returns-in-Some
returns-in-Some c = attempt_reads _ opening_tree class_word _ _ _ _ _ _ _ c.in-Some.ensures c.class_declaration.ensures

pub returns-in-None : goal.returns-in-None
returns-in-None c = attempt_skips _ opening_tree class_word _ _ _ _ _ _ c.in-None.ensures c.function_declaration.ensures
