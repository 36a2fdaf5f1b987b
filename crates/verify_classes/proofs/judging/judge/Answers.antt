use Rattle.verify_classes.proofs.Judged.{of_linked, of_unlinked}
use Rattle.verify_classes.proofs.judging.judge.Goals as goal

pub returns-in-Ok : goal.returns-in-Ok
returns-in-Ok c = of_linked c.args.classes.items c.in-Ok.linked c.verify_answer.result c.in-Ok.ensures c.verify_answer.ensures

pub returns-in-Err : goal.returns-in-Err
returns-in-Err c = of_unlinked c.args.classes.items c.in-Err.error c.link_answer.result c.in-Err.ensures c.link_answer.ensures
