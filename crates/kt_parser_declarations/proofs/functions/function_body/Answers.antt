use Rattle.std.proofs.Common.{refl}
use Rattle.kt_parser_steps.proofs.Choosing.{on_if_reads, on_if_skips}
use Rattle.kt_parser_declarations.proofs.functions.function_body.Goals as goal

pub returns-in-Some : goal.returns-in-Some
returns-in-Some c = on_if_reads _ _ _ _ _ _ _ _ _ _ _ refl c.in-Some.ensures c.result_body.ensures

pub returns-in-None : goal.returns-in-None
returns-in-None c = on_if_skips _ _ _ _ _ _ _ _ _ _ refl c.in-None.ensures c.braces_body.ensures
