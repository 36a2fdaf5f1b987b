use Rattle.std.proofs.Common.{List, ℕ, subst}
use Rattle.read_class.specs.Judging.{JudgesFile}
use Rattle.read_class.proofs.Answered.{read_answer, unread_answer}
use Rattle.read_class.proofs.reading.answer_of.Goals as goal

pub returns-in-Ok-clause-answer : goal.returns-in-Ok-clause-answer
returns-in-Ok-clause-answer g c =
    read_answer (g.F.Files.held c.args.files.now) c.args.name.now _ _ c.in-Ok.bytes.items c.answer_of_bytes.result
    c.in-Ok.ensures.read c.in-Ok.ensures.no_fault
    (subst (λ (now : List ℕ). JudgesFile c.args.name.now now c.answer_of_bytes.result) c.as_slice.ensures.value
    c.answer_of_bytes.ensures)

pub returns-in-Err-clause-answer : goal.returns-in-Err-clause-answer
returns-in-Err-clause-answer g c =
    unread_answer (g.F.Files.held c.args.files.now) c.args.name.now _ _ c.in-Err.answer c.in-Err.ensures.unread
