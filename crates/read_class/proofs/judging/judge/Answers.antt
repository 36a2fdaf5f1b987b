use Rattle.read_class.proofs.Judged.{of_error}
use Rattle.read_class.proofs.judging.judge.Goals as goal

pub returns : goal.returns
returns c =
    of_error c.args.bytes.now c.in-Err.error c.judgement_of.result c.judgement_of.ensures c.in-Err.ensures.only c.in-Err.ensures.exact
