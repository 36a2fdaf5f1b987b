use Rattle.kt_parser_steps.proofs.Choosing.{on_reads, on_skips}
use Rattle.kt_parser_declarations.proofs.files.declaration.Goals as goal

pub returns-in-Some : goal.returns-in-Some
returns-in-Some c = on_reads _ _ _ _ _ _ _ _ _ c.in-Some.ensures c.interface_declaration.ensures

pub returns-in-Some-take_soft_keyword : goal.returns-in-Some-take_soft_keyword
returns-in-Some-take_soft_keyword c = on_skips _ _ _ _ _ _ _ _ c.in-None.ensures (on_reads _ _ _ _ _ _ _ _ _ c.in-Some-take_soft_keyword.ensures c.enum_rest.ensures)

pub returns-in-Some-take_soft_keyword-2 : goal.returns-in-Some-take_soft_keyword-2
returns-in-Some-take_soft_keyword-2 c = on_skips _ _ _ _ _ _ _ _ c.in-None.ensures (on_skips _ _ _ _ _ _ _ _ c.in-None-take_soft_keyword.ensures (on_reads _ _ _ _ _ _ _ _ _ c.in-Some-take_soft_keyword-2.ensures c.constant_declaration.ensures))

pub returns-in-None-take_soft_keyword-2 : goal.returns-in-None-take_soft_keyword-2
returns-in-None-take_soft_keyword-2 c = on_skips _ _ _ _ _ _ _ _ c.in-None.ensures (on_skips _ _ _ _ _ _ _ _ c.in-None-take_soft_keyword.ensures (on_skips _ _ _ _ _ _ _ _ c.in-None-take_soft_keyword-2.ensures c.class_or_function.ensures))
