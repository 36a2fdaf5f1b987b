use Rattle.kt_parser_steps.proofs.Choosing.{attempt_reads, attempt_skips}
use Rattle.kt_grammar.specs.Terminals.{variable_of}
use Rattle.kt_grammar.specs.Readers.{meant}
use Rattle.kt_parser_steps.specs.Chosen.{found_token}
use Rattle.kt_parser_declarations.proofs.classes.member.Goals as goal

pub returns-in-Some : goal.returns-in-Some
returns-in-Some c = attempt_reads _ found_token (meant variable_of) _ _ _ _ _ _ (c.in-Some.token, c.in-Some.variable) c.in-Some.ensures c.property_member.ensures

pub returns-in-None : goal.returns-in-None
returns-in-None c = attempt_skips _ found_token (meant variable_of) _ _ _ _ _ _ c.in-None.ensures c.method_member.ensures
