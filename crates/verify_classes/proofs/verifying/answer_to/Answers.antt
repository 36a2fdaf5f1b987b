use Rattle.verify_classes.proofs.Words.{words}
use Rattle.verify_classes.proofs.verifying.answer_to.Goals as goal

pub returns-in-len1-up-clause-answer : goal.returns-in-len1-up-clause-answer
returns-in-len1-up-clause-answer g c =
    words (g.F.Files.held c.args.files.now) c.args.names.now _ _ c.answer_of.result c.in-len1-up.len_at_least c.answer_of.ensures.answer
